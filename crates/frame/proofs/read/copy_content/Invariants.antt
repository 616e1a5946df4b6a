use Rattle.frame.proofs.CheckLaws.{Copying}
use Rattle.frame.proofs.read.copy_content.Given as goal

abbrev pub invariant-loop-k : goal.invariant-loop-k
invariant-loop-k l = Copying l.s l.from l.n l.initial.out l.out l.i l.k
