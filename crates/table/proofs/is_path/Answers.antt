-- `table::is_path` meets its contract. Assumes nothing.
use native.Mathlib.Omega.{arith}
use mathlib.Core.Path.{sym, ◌∙◌}
use Rattle.table.proofs.TableLaws.{path_sized, path_other}
use Rattle.table.proofs.is_path.Goals as goal

pub returns-then-contains : goal.returns-then-contains
returns-then-contains c =
    let ends = c.new.ensures in
    let within = c.if-contains.ensures.cases in
    path_sized c.args.path.now c.all_nonzero.ensures
    (rw ends.start at within.0) (rw ends.end at within.1)
    (λ i. omega (arith, c.type_inv.path i))

pub returns-else-contains : goal.returns-else-contains
returns-else-contains c =
    let ends = c.new.ensures in
    c.if-contains.false ∙ path_other c.args.path.now (rw (ends.start, ends.exhausted, ends.end) at (sym c.contains.ensures.value ∙ c.if-contains.false))
