-- `cells::cell::store_mark` meets its contract. Assumes nothing.
use mathlib.Core.Path.{ap₂, ◌∙◌}
use Prim.Native.Nat.{◌+◌}
use lib.ListN.{set}
use Rattle.cells.proofs.CellLaws.{mark_kept, mark_set, mark_byte_is}
use Rattle.cells.proofs.cell.store_mark.Goals as goal

pub returns-in_default : goal.returns-in_default
returns-in_default c = mark_kept c.args.cells.now c.args.place c.args.mark c.in_default.ensures

pub returns : goal.returns
returns c =
    ap₂ (λ n b. set c.args.cells.now (n + 4) b) c.in-Some.ensures.1 (c.from.ensures ∙ mark_byte_is c.args.mark)
    ∙ mark_set c.args.cells.now c.args.place c.args.mark c.in-Some.ensures.0
