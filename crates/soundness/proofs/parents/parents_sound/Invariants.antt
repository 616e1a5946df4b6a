use Rattle.soundness.proofs.ParentLaws.{Descending}
use Rattle.soundness.proofs.parents.parents_sound.Given as goal

abbrev pub invariant-loop-k : goal.invariant-loop-k
invariant-loop-k l = Descending l.tree l.nodes l.depths l.k
