use Rattle.tree.specs.Seen.{seen}
use Rattle.cells.specs.Cells.{cells_in}
use Rattle.sheet.proofs.WriteLaws.{Putting}
use Rattle.sheet.proofs.write.SheetValue.put.Given as goal

abbrev pub invariant-loop-k : goal.invariant-loop-k
invariant-loop-k l =
    Putting (seen l.self.lent.tree.now) (cells_in l.self.lent.cells.now) l.initial.output l.output l.k-iterator
