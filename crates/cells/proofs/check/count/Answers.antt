-- `cells::check::count` meets its contract. Assumes nothing.
use mathlib.Core.Path.{sym}
use Rattle.cells.proofs.CellLaws.{cells_count}
use Rattle.cells.proofs.check.count.Goals as goal

pub returns : goal.returns
returns c = sym (cells_count c.args.cells.now)
