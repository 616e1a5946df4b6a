-- `sheet::write_sheet` meets its contract. Assumes nothing.
use native.Mathlib.Omega.{arith}
use mathlib.Core.Path.{sym}
use Rattle.std.proofs.lemmas.Result.{err_from_is_err_and}
use Rattle.protocol.proofs.RefusalLaws.{refusal_some}
use Rattle.sheet.proofs.SheetsLaws.{not_filled, filled_in, longest, sheet_same}
use Rattle.sheet.proofs.write_sheet.Goals as goal

pub returns-in_err-sheet : goal.returns-in_err-sheet
returns-in_err-sheet c =
    let p = err_from_is_err_and c.from_residual.result c.from_residual.ensures.1 in
    rw (p.1, p.2)
    (not_filled c.args.tree.now c.args.cells.now c.args.out.now c.in_err-sheet.ensures.number (refusal_some c.in_err-sheet.field-0.0))

pub returns : goal.returns
returns c =
    let e = sheet_same c.args.tree.now c.args.cells.now c.in_ok-sheet.sheet c.in_ok-sheet.ensures.sheet in
    let within = longest c.args.tree.now c.args.cells.now (λ i. (c.type_inv.cells i).fits) (sym c.in_ok-sheet.ensures.number) in
    filled_in c.args.tree.now c.args.cells.now (sym c.in_ok-sheet.ensures.number) (rw e at c.fill.ensures (within, omega arith))
