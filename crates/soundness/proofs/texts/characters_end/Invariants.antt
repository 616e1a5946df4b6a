use Prim.Native.Nat.{◌-◌}
use Rattle.soundness.proofs.TextLaws.{Passing}
use Rattle.soundness.proofs.texts.characters_end.Given as goal

abbrev pub invariant-loop-at : goal.invariant-loop-at
invariant-loop-at l = Passing l.tree l.from l.end l.at

abbrev pub decreases-loop-at : goal.decreases-loop-at
decreases-loop-at l = l.end - l.at
