-- `cells::check::has_cells` meets its contract. Assumes nothing.
use Prim.Native.Nat.{◌+◌, ◌-◌, ◌*◌, ◌/◌, ◌%◌, ◌<◌, ◌≤◌}
use native.Mathlib.Omega.{arith}
use mathlib.Core.Path.{refl, ◌∙◌}
use borrow.Author.Tests.{ne_eqb}
use lib.ListN.{length, get_or}
use Rattle.std.proofs.Common.{rules, tests}
use Rattle.std.proofs.lemmas.Iterator.{cases_from_all, YieldsList-from_range}
use Rattle.cells.specs.Cells.{cell_size}
use Rattle.cells.proofs.CellLaws.{not_whole, marks_told}
use Rattle.cells.proofs.check.has_cells.Goals as goal

pub returns-then-cells-eq0 : goal.returns-then-cells-eq0
returns-then-cells-eq0 c =
    let bs = c.args.cells.now in
    marks_told bs (length bs / cell_size - 0) (omega arith) c.all.result (λ i. omega (arith, c.type_inv.cells i)) c.if-cells-eq0.true
    (cases_from_all _ _ _
    (λ k. get_or bs (k * cell_size + 4) 0 ≤ 1)
    (λ k. 1 < get_or bs (k * cell_size + 4) 0)
    c.all.ensures.ran
    (YieldsList-from_range 0 (length bs / cell_size) _ refl refl)
    (λ x r k. search (rules, tests))
    (λ x r k. search (rules, tests)))

pub returns-else-cells-eq0 : goal.returns-else-cells-eq0
returns-else-cells-eq0 c = ne_eqb (length c.args.cells.now % cell_size) 0 c.if-cells-eq0.false ∙ not_whole c.args.cells.now c.if-cells-eq0.false
