-- `cells::cell::store_word` meets its contract. Assumes nothing.
use mathlib.Core.Path.{◌∙◌}
use Rattle.cells.proofs.CellLaws.{word_kept, word_set}
use Rattle.cells.proofs.cell.store_word.Goals as goal

pub returns-in_default : goal.returns-in_default
returns-in_default c = word_kept c.args.cells.now c.args.place c.args.n c.in_default.ensures

pub returns : goal.returns
returns c =
    word_set c.args.cells.now c.args.place c.args.n c.in-Some.ensures.0 c.in-Some.ensures.1
    (c.copy_from_slice.ensures.after ∙ c.bytes_of.ensures)
