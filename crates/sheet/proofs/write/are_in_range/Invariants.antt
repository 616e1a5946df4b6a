use Rattle.sheet.proofs.WriteLaws.{Ranging}
use Rattle.sheet.proofs.write.are_in_range.Given as goal

abbrev pub invariant-loop-k : goal.invariant-loop-k
invariant-loop-k l = Ranging l.lent.tree.now l.lent.cells.now l.k-iterator
