-- `buslink::probe::indicator_at` meets its contract. Assumes nothing.
use mathlib.Core.Path.{sym, ◌∙◌}
use Rattle.tree.specs.Seen.{seen}
use Rattle.cells.specs.Cells.{cells_in}
use Rattle.buslink.proofs.SendLaws.{probe_unready, probe_word}
use Rattle.buslink.proofs.probe.indicator_at.Goals as goal

pub returns-in-Some : goal.returns-in-Some
returns-in-Some c =
    probe_word (seen c.args.lent.tree.now) (cells_in c.args.lent.cells.now) c.args.place c.read_fields-f.ensures
    (sym c.in-Some.is ∙ c.reading.ensures) c.takes_sign.ensures c.of_word.ensures

pub returns-in-None : goal.returns-in-None
returns-in-None c =
    probe_unready (seen c.args.lent.tree.now) (cells_in c.args.lent.cells.now) c.args.place c.read_fields-f.ensures
    (sym c.in-None.is ∙ c.reading.ensures)
