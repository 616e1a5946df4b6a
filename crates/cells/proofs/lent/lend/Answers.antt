-- `cells::lent::lend` meets its contract. Assumes nothing.
use Rattle.cells.proofs.CellLaws.{lent_passed}
use Rattle.cells.proofs.lent.lend.Goals as goal

pub invariant_of-result : goal.invariant_of-result
invariant_of-result c = record { lent = lent_passed c.args.tree.now c.args.cells.now c.check.ensures c.in_ok-check.was }
