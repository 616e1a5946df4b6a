-- `answer::serve::check_lent` meets its contract. Assumes nothing.
use Rattle.std.proofs.Common.{refl, sym, ap, ◌∙◌}
use Rattle.std.proofs.lemmas.Result.{err_from_is_err_and}
use borrow.Author.Tests.{lt-ltb, le-ltb}
use Rattle.protocol.specs.Refusal.{number_told}
use Rattle.protocol.proofs.RefusalLaws.{refusal_some}
use Rattle.answer.proofs.ServeLaws.{row_unsound, row_lent}
use Rattle.answer.proofs.serve.check_lent.Goals as goal

pub returns-in_err-check : goal.returns-in_err-check
returns-in_err-check c =
    let e = c.in_err-check.field-0.0 in
    let failed = err_from_is_err_and c.from_residual.result c.from_residual.ensures.1 in
    rw (failed.1, failed.2)
    (row_unsound c.args.tree.now c.args.cells.now c.args.room c.args.least c.in_err-check.ensures (refusal_some e))

pub returns-then-room-least : goal.returns-then-room-least
returns-then-room-least c =
    row_lent c.args.tree.now c.args.cells.now c.args.room c.args.least (sym (ap number_told c.in_ok-check.was) ∙ c.check.ensures) refl
    (lt-ltb c.args.room c.args.least c.if-room-least.true)

pub returns : goal.returns
returns c =
    row_lent c.args.tree.now c.args.cells.now c.args.room c.args.least (sym (ap number_told c.in_ok-check.was) ∙ c.check.ensures) refl
    (le-ltb c.args.room c.args.least c.if-room-least.false)
