-- `answer::serve::serve_data` meets its contract. Assumes nothing.
use mathlib.Core.Path.{◌≡◌, refl, sym, ap, ◌∙◌}
use lib.ListN.{length}
use Rattle.std.proofs.lemmas.Result.{err_from_is_err_and}
use Rattle.protocol.specs.Frame.{received}
use Rattle.protocol.specs.Refusal.{number_told}
use Rattle.protocol.specs.Request.{read_request}
use Rattle.protocol.proofs.RefusalLaws.{refusal_some}
use Rattle.answer.specs.Serve.{Call, data_call, Open}
use Rattle.answer.proofs.ReadLaws.{sized-done, sized-refused}
use Rattle.answer.proofs.ServeLaws.{answer_to, opened, serve_unlent, serve-refused, serve_answered, answered_as, as_data}
use Rattle.answer.proofs.serve.serve_data.Goals as goal
use Rattle.answer.proofs.serve.serve_data.Goals.{Start, In_ok-check_lent}

abbrev call : Start → Call
call c = data_call (length c.args.out.now) c.args.request.now c.args.host c.args.tree.now c.args.cells.now

-- Behind rows 1 and 8.
unrefused : (c : In_ok-check_lent) → Open (data_call (length c.args.out.now) c.args.request.now c.args.host c.args.tree.now c.args.cells.now)
unrefused c = opened (data_call (length c.args.out.now) c.args.request.now c.args.host c.args.tree.now c.args.cells.now) (sym (ap number_told c.in_ok-check_lent.was) ∙ c.check_lent.ensures) refl

pub returns-in_err-check_lent : goal.returns-in_err-check_lent
returns-in_err-check_lent c =
    let e = c.in_err-check_lent.field-0.0 in
    let failed = err_from_is_err_and c.from_residual.result c.from_residual.ensures.1 in
    rw (failed.1, failed.2)
    (serve_unlent (call (goal.at.returns-in_err-check_lent c).Start) c.in_err-check_lent.ensures (refusal_some e) (refl, (refl, (refl, refl))) c.args.out.now)

pub returns-in_err-check_size : goal.returns-in_err-check_size
returns-in_err-check_size c =
    let e = c.in_err-check_size.field-0.0 in
    let exit = c.from_residual-in_err-check_size in
    let failed = err_from_is_err_and exit.result exit.ensures.1 in
    let bad = sized-refused c.args.request.now c.in_err-check_size.ensures (refusal_some e) in
    rw (failed.1, failed.2)
    (serve-refused (call (goal.at.returns-in_err-check_size c).Start) (unrefused (goal.at.returns-in_err-check_size c).In_ok-check_lent) bad.0 bad.1 (refl, (refl, (refl, refl))) c.args.out.now)

pub returns : goal.returns
returns c =
    let k = call (goal.at.returns c).Start in
    let whole : k.string ≡ received c.args.request.now = sized-done c.args.request.now (sym (sym (ap number_told c.in_ok-check_size.was) ∙ c.check_size.ensures)) in
    serve_answered k (unrefused (goal.at.returns c).In_ok-check_lent) (ap (λ r. r.number) whole)
    (as_data (answer_to k) (answered_as k (c.read_data-asked.ensures.is ∙ ap (λ r. read_request r.payload) (sym whole)) c.answer.ensures))
