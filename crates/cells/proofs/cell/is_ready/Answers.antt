-- `cells::cell::is_ready` meets its contract. Assumes nothing.
use Prim.Native.Nat.{◌+◌}
use mathlib.Core.Path.{sym, ap, ◌∙◌}
use lib.ListN.{get_or}
use lib.Dec.{eqb}
use Rattle.cells.proofs.CellLaws.{no_cell, read_mark}
use Rattle.cells.proofs.cell.is_ready.Goals as goal

pub returns-in_default : goal.returns-in_default
returns-in_default c = sym (ap (λ x. x.ready) (no_cell c.args.cells.now c.args.place c.in_default.ensures))

pub returns : goal.returns
returns c =
    ap (λ n. eqb (get_or c.args.cells.now (n + 4) 0) 1) c.in-Some.ensures.1
    ∙ read_mark c.args.cells.now c.args.place c.in-Some.ensures.0
