-- `pualirqiq::read` meets its contract. Assumes nothing.
use Rattle.std.proofs.Common.{◌≡◌, true, refl, sym, ap, ◌∙◌, arith}
use Rattle.std.proofs.lemmas.Result.{err_from_is_err_and}
use Rattle.protocol.specs.Refusal.{number_told}
use Rattle.protocol.specs.Tree.{property_in, cell_in, reading}
use Rattle.tree.specs.Seen.{seen}
use Rattle.cells.specs.Cells.{cells_in}
use Rattle.cells.specs.Lent.{is_lent}
use Rattle.cells.proofs.CellLaws.{lent_done}
use Rattle.pualirqiq.proofs.BackLaws.{reads_unsound, reads_missing, read_there}
use Rattle.pualirqiq.proofs.read.Goals as goal
use Rattle.pualirqiq.proofs.read.Goals.{In_ok-check}

lent : (c : In_ok-check) → is_lent c.args.tree.now c.args.cells.now ≡ true
lent c = lent_done c.args.tree.now c.args.cells.now (sym (ap number_told c.in_ok-check.was) ∙ c.check.ensures) refl

pub returns-in_err-check : goal.returns-in_err-check
returns-in_err-check c =
    let e = c.in_err-check.field-0.0 in
    let failed = err_from_is_err_and c.from_residual.result c.from_residual.ensures.1 in
    rw (failed.1, failed.2) (reads_unsound c.args.tree.now c.args.cells.now c.args.place e c.in_err-check.ensures)

pub returns-then-property_count-place : goal.returns-then-property_count-place
returns-then-property_count-place c =
    reads_missing c.args.tree.now c.args.cells.now c.args.place (lent (goal.at.returns-then-property_count-place c).In_ok-check)
    (omega (arith, c.property_count.ensures, c.if-property_count-place.true))

pub returns : goal.returns
returns c =
    rw (c.ok_or.ensures.value, c.reading.ensures)
    (read_there c.args.tree.now c.args.cells.now c.args.place (lent (goal.at.returns c).In_ok-check)
    (omega (arith, c.property_count.ensures, c.if-property_count-place.false))
    (reading (property_in (seen c.args.tree.now) c.args.place) (cell_in (cells_in c.args.cells.now) c.args.place)) refl)
