-- `sheet::read_sheet` meets its contract. Assumes nothing.
use mathlib.Core.Path.{◌≡◌, refl, sym}
use mathlib.Core.Bool.{true}
use Rattle.std.proofs.lemmas.Result.{err_from_is_err_and}
use Rattle.cells.specs.Lent.{is_lent}
use Rattle.cells.proofs.CellLaws.{lent_done}
use Rattle.protocol.proofs.RefusalLaws.{refusal_some}
use Rattle.sheet.proofs.SheetsLaws.{lent_cells, loads_unsound, loads_labels, loads_refused, loads_done}
use Rattle.sheet.proofs.read_sheet.Goals as goal
use Rattle.sheet.proofs.read_sheet.Goals.{In_ok-check}

lent : (c : In_ok-check) → is_lent c.args.tree.now c.args.cells.now ≡ true
lent c = lent_done c.args.tree.now c.args.cells.now c.in_ok-check.ensures refl

pub returns-in_err-check : goal.returns-in_err-check
returns-in_err-check c =
    let p = err_from_is_err_and c.from_residual.result c.from_residual.ensures.1 in
    rw (p.1, p.2)
    (loads_unsound c.args.tree.now c.args.cells.now c.args.sheet.now c.in_err-check.ensures (refusal_some c.in_err-check.field-0.0))

pub returns-then-not-are_writable : goal.returns-then-not-are_writable
returns-then-not-are_writable c =
    loads_labels c.args.tree.now c.args.cells.now (lent (goal.at.returns-then-not-are_writable c).In_ok-check) c.args.sheet.now
    c.are_writable.ensures c.if-not-are_writable.true

pub returns-in_err-check_lines : goal.returns-in_err-check_lines
returns-in_err-check_lines c =
    let p = err_from_is_err_and c.from_residual-in_err-check_lines.result c.from_residual-in_err-check_lines.ensures.1 in
    rw (p.1, p.2)
    (loads_refused c.args.tree.now c.args.cells.now (lent (goal.at.returns-in_err-check_lines c).In_ok-check) c.args.sheet.now
    c.are_writable.ensures c.if-not-are_writable.false c.in_err-check_lines.ensures (refusal_some c.in_err-check_lines.field-0.0))

pub store_lines-requires : goal.store_lines-requires
store_lines-requires c =
    (lent_cells c.args.tree.now c.args.cells.now (lent (goal.at.store_lines-requires c).In_ok-check), sym c.in_ok-check_lines.ensures)

pub returns : goal.returns
returns c =
    loads_done c.args.tree.now c.args.cells.now (lent (goal.at.returns c).In_ok-check) c.args.sheet.now
    c.are_writable.ensures c.if-not-are_writable.false c.in_ok-check_lines.ensures refl c.store_lines.ensures
