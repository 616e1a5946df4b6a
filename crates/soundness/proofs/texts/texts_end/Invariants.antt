use Prim.Native.Nat.{◌-◌}
use Rattle.soundness.proofs.TextLaws.{Scanning}
use Rattle.soundness.proofs.texts.texts_end.Given as goal

abbrev pub invariant-loop-at : goal.invariant-loop-at
invariant-loop-at l = Scanning l.tree l.from l.count l.room l.end l.left l.at

abbrev pub decreases-loop-at : goal.decreases-loop-at
decreases-loop-at l = l.end - l.at
