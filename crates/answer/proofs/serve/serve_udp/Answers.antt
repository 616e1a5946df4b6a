-- `answer::serve::serve_udp` meets its contract. Assumes nothing.
use native.Mathlib.Omega.{arith}
use mathlib.Core.Path.{refl, sym, ap, ◌∙◌}
use lib.ListN.{length, length-drop}
use Rattle.std.proofs.lemmas.Result.{err_from_is_err_and}
use Rattle.protocol.specs.Refusal.{number_told}
use Rattle.protocol.specs.Request.{read_udp}
use Rattle.protocol.proofs.BufferLaws.{part_lent}
use Rattle.protocol.proofs.RefusalLaws.{refusal_some}
use Rattle.request.specs.Asked.{asked_of}
use Rattle.answer.specs.Serve.{Call, udp_call, Open}
use Rattle.answer.proofs.ReadLaws.{Read, early_datagram, row_of_string, row_of_data}
use Rattle.answer.proofs.ServeLaws.{answer_to, opened, serve_unlent, serve-refused, serve_answered, replies, answered_as, as_udp, front_short, reply_short}
use Rattle.answer.proofs.serve.serve_udp.Goals as goal
use Rattle.answer.proofs.serve.serve_udp.Goals.{Start, In_ok-check_lent, In_ok-check_string}

abbrev call : Start → Call
call c = udp_call (length c.args.out.now) c.args.datagram.now c.args.host c.args.tree.now c.args.cells.now

-- Behind rows 1 and 8.
unrefused : (c : In_ok-check_lent) → Open (udp_call (length c.args.out.now) c.args.datagram.now c.args.host c.args.tree.now c.args.cells.now)
unrefused c = opened (udp_call (length c.args.out.now) c.args.datagram.now c.args.host c.args.tree.now c.args.cells.now) (sym (ap number_told c.in_ok-check_lent.was) ∙ c.check_lent.ensures) refl

pub returns-in_err-check_lent : goal.returns-in_err-check_lent
returns-in_err-check_lent c =
    let e = c.in_err-check_lent.field-0.0 in
    let failed = err_from_is_err_and c.from_residual.result c.from_residual.ensures.1 in
    rw (failed.1, failed.2)
    (serve_unlent (call (goal.at.returns-in_err-check_lent c).Start) c.in_err-check_lent.ensures (refusal_some e) (refl, (refl, (refl, refl))) c.args.out.now)

-- Behind rows 2 to 7.
good : (c : In_ok-check_string) → Read (udp_call (length c.args.out.now) c.args.datagram.now c.args.host c.args.tree.now c.args.cells.now).string c.read_udp-asked.result
unfolding read_udp
good c =
    let k = udp_call (length c.args.out.now) c.args.datagram.now c.args.host c.args.tree.now c.args.cells.now in
    row_of_data k.string (early_datagram c.args.datagram.now) c.read_udp-asked.ensures c.in_ok-check_string.ensures

pub returns-in_err-check_string : goal.returns-in_err-check_string
unfolding read_udp
returns-in_err-check_string c =
    let k = call (goal.at.returns-in_err-check_string c).Start in
    let e = c.in_err-check_string.field-0.0 in
    let exit = c.from_residual-in_err-check_string in
    let failed = err_from_is_err_and exit.result exit.ensures.1 in
    let bad = row_of_string k.string (early_datagram c.args.datagram.now) c.read_udp-asked.ensures c.in_err-check_string.ensures.1 in
    rw (failed.1, failed.2)
    (serve-refused k (unrefused (goal.at.returns-in_err-check_string c).In_ok-check_lent) (sym (ap (λ x. (asked_of x).number) c.in_err-check_string.ensures.0) ∙ bad.number) bad.bad
    (refl, (refl, (refl, refl))) c.args.out.now)

pub slice_bounds-answer-count : goal.slice_bounds-answer-count
slice_bounds-answer-count c = omega (arith, (unrefused (goal.at.slice_bounds-answer-count c).In_ok-check_lent).roomy)

pub slice_bounds-answer-start : goal.slice_bounds-answer-start
slice_bounds-answer-start c = omega (arith, (unrefused (goal.at.slice_bounds-answer-start c).In_ok-check_lent).roomy)

pub answer-reply-requires-clause-room : goal.answer-reply-requires-clause-room
answer-reply-requires-clause-room c =
    omega (arith, (unrefused (goal.at.answer-reply-requires-clause-room c).In_ok-check_lent).roomy, ap length (part_lent 4 c.args.out.now) ∙ length-drop 4 c.args.out.now)

pub answer-reply-requires-clause-lent : goal.answer-reply-requires-clause-lent
answer-reply-requires-clause-lent c = (unrefused (goal.at.answer-reply-requires-clause-lent c).In_ok-check_lent).lent

pub overflow_add-result : goal.overflow_add-result
overflow_add-result c =
    let k = call (goal.at.overflow_add-result c).Start in
    omega (
      arith,
      front_short _ c.put_all-front.ensures,
      reply_short (answer_to k) (replies k (unrefused (goal.at.overflow_add-result c).In_ok-check_lent)) (answered_as k (good (goal.at.overflow_add-result c).In_ok-check_string).is c.answer-reply.ensures),
    )

pub returns : goal.returns
returns c =
    let k = call (goal.at.returns c).Start in
    let ready = unrefused (goal.at.returns c).In_ok-check_lent in
    let asked = good (goal.at.returns c).In_ok-check_string in
    serve_answered k ready asked.good
    (as_udp (answer_to k) (omega (arith, ready.roomy)) (answered_as k asked.is c.answer-reply.ensures) c.put_all-front.ensures)
