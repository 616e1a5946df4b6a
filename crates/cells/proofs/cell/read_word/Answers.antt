-- `cells::cell::read_word` meets its contract. Assumes nothing.
use mathlib.Core.Path.{sym, ap, ◌∙◌}
use Rattle.tree.specs.Seen.{word_at}
use Rattle.cells.proofs.CellLaws.{no_cell, read_word}
use Rattle.cells.proofs.cell.read_word.Goals as goal

pub returns-in_default : goal.returns-in_default
returns-in_default c = sym (ap (λ x. x.word) (no_cell c.args.cells.now c.args.place c.in_default.ensures))

pub returns : goal.returns
unfolding word_at
returns c =
    c.word_of.ensures
    ∙ ap (λ n. word_at n c.args.cells.now) c.in-Some.ensures.1
    ∙ read_word c.args.cells.now c.args.place c.in-Some.ensures.0
