use Rattle.cells.proofs.RestoreLaws.{Restoring}
use Rattle.cells.proofs.update.restore.Given as goal

abbrev pub invariant-loop-k : goal.invariant-loop-k
invariant-loop-k l = Restoring l.tree l.initial.cells l.cells l.k
