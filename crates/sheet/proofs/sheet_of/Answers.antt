-- `sheet::sheet_of` meets its contract. Assumes nothing.
use mathlib.Core.Path.{◌≡◌, refl, sym, ap₂, ◌∙◌}
use mathlib.Core.Bool.{true}
use Rattle.std.proofs.lemmas.Result.{err_from_is_err_and}
use Rattle.protocol.specs.Sheet.{in_ranges}
use Rattle.protocol.proofs.RefusalLaws.{refusal_some}
use Rattle.tree.specs.Seen.{seen}
use Rattle.cells.specs.Cells.{cells_in}
use Rattle.cells.specs.Lent.{is_lent}
use Rattle.cells.proofs.CellLaws.{lent_done}
use Rattle.sheet.proofs.SheetsLaws.{write_unsound, write_by}
use Rattle.sheet.proofs.sheet_of.Goals as goal
use Rattle.sheet.proofs.sheet_of.Goals.{In_ok-lent, After-are_in_range}

lent : (c : In_ok-lent) → is_lent c.args.tree.now c.args.cells.now ≡ true
lent c = lent_done c.args.tree.now c.args.cells.now c.in_ok-lent.ensures.number refl

ranges : (c : After-are_in_range) → c.are_in_range.result ≡ in_ranges (seen c.args.tree.now) (cells_in c.args.cells.now)
ranges c =
    c.are_in_range.ensures
    ∙ ap₂ (λ a b. in_ranges (seen a) (cells_in b)) c.in_ok-lent.ensures.same.0 c.in_ok-lent.ensures.same.1

pub returns-in_err-lent : goal.returns-in_err-lent
returns-in_err-lent c =
    let p = err_from_is_err_and c.from_residual.result c.from_residual.ensures.1 in
    rw (p.1, p.2)
    (record { number = write_unsound c.args.tree.now c.args.cells.now c.in_err-lent.ensures.number (refusal_some c.in_err-lent.field-0.0); sheet = tt })

pub returns-then-not-are_writable-clause-number : goal.returns-then-not-are_writable-clause-number
returns-then-not-are_writable-clause-number c =
    write_by c.args.tree.now c.args.cells.now (lent (goal.at.returns-then-not-are_writable-clause-number c).In_ok-lent)
    c.if-not-are_writable.ensures refl

pub returns-then-not-are_in_range-clause-number : goal.returns-then-not-are_in_range-clause-number
returns-then-not-are_in_range-clause-number c =
    write_by c.args.tree.now c.args.cells.now (lent (goal.at.returns-then-not-are_in_range-clause-number c).In_ok-lent)
    c.if-not-are_writable.ensures
    (sym c.if-not-are_in_range.true ∙ ranges (goal.at.returns-then-not-are_in_range-clause-number c).After-are_in_range)

pub returns-clause-number : goal.returns-clause-number
returns-clause-number c =
    write_by c.args.tree.now c.args.cells.now (lent (goal.at.returns-clause-number c).In_ok-lent)
    c.if-not-are_writable.ensures
    (sym c.if-not-are_in_range.false ∙ ranges (goal.at.returns-clause-number c).After-are_in_range)
