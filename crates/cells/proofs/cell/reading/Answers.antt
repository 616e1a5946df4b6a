-- `cells::cell::reading` meets its contract. Assumes nothing.
use Rattle.protocol.specs.Tree.{property_in, cell_in}
use Rattle.tree.specs.Seen.{seen}
use Rattle.cells.specs.Cells.{cells_in}
use Rattle.cells.proofs.ReadingLaws.{reads_none, reads_word}
use Rattle.cells.proofs.cell.reading.Goals as goal

pub returns-then-is_readable : goal.returns-then-is_readable
returns-then-is_readable c =
    reads_word (property_in (seen c.args.tree.now) c.args.place) (cell_in (cells_in c.args.cells.now) c.args.place) c.is_readable.ensures
    c.if-is_readable.true c.read_word.ensures

pub returns : goal.returns
returns c =
    reads_none (property_in (seen c.args.tree.now) c.args.place) (cell_in (cells_in c.args.cells.now) c.args.place) c.is_readable.ensures c.if-is_readable.false
