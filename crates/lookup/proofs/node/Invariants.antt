use Rattle.tree.specs.Seen.{seen}
use Rattle.lookup.proofs.ReachLaws.{Walking}
use Rattle.lookup.proofs.node.Given as goal

abbrev pub invariant-loop-i : goal.invariant-loop-i
invariant-loop-i l = Walking (seen l.tree) l.path l.place l.i
