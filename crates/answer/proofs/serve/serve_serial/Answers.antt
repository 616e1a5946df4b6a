-- `answer::serve::serve_serial` meets its contract. Assumes nothing.
use Prim.Native.Nat.{◌≤◌}
use native.Mathlib.Omega.{arith}
use mathlib.Core.Path.{refl, sym, ap, ◌∙◌}
use lib.ListN.{length, replicate}
use Rattle.std.proofs.lemmas.Result.{err_from_is_err_and}
use Rattle.protocol.specs.Refusal.{number_told, length_told}
use Rattle.protocol.specs.Request.{read_serial}
use Rattle.protocol.proofs.ListLaws.{part_size}
use Rattle.protocol.proofs.RefusalLaws.{refusal_some}
use Rattle.request.specs.Asked.{asked_of}
use Rattle.answer.specs.Serve.{Call, serial_call, Open}
use Rattle.answer.specs.Steps.{Replies}
use Rattle.answer.proofs.ReadLaws.{Read, early_frame, row_of_string, row_of_data}
use Rattle.answer.proofs.ServeLaws.{answer_to, opened, serve_unlent, serve-refused, serve_answered, replies, answered_as, serial_written, as_serial, reply_within}
use Rattle.answer.proofs.serve.serve_serial.Goals as goal
use Rattle.answer.proofs.serve.serve_serial.Goals.{Start, In_ok-check_lent, In_ok-check_string, After-answer-reply}

abbrev call : Start → Call
call c = serial_call c.args.address (length c.args.out.now) c.args.s.now c.args.host c.args.tree.now c.args.cells.now

-- Behind rows 1 and 8.
unrefused : (c : In_ok-check_lent) → Open (serial_call c.args.address (length c.args.out.now) c.args.s.now c.args.host c.args.tree.now c.args.cells.now)
unrefused c = opened (serial_call c.args.address (length c.args.out.now) c.args.s.now c.args.host c.args.tree.now c.args.cells.now) (sym (ap number_told c.in_ok-check_lent.was) ∙ c.check_lent.ensures) refl

pub returns-in_err-check_lent : goal.returns-in_err-check_lent
returns-in_err-check_lent c =
    let e = c.in_err-check_lent.field-0.0 in
    let failed = err_from_is_err_and c.from_residual.result c.from_residual.ensures.1 in
    rw (failed.1, failed.2)
    (serve_unlent (call (goal.at.returns-in_err-check_lent c).Start) c.in_err-check_lent.ensures (refusal_some e) (refl, (refl, (refl, refl))) c.args.out.now)

-- Behind rows 2 to 7.
good : (c : In_ok-check_string) → Read (serial_call c.args.address (length c.args.out.now) c.args.s.now c.args.host c.args.tree.now c.args.cells.now).string c.read_serial-asked.result
unfolding read_serial
good c =
    let k = serial_call c.args.address (length c.args.out.now) c.args.s.now c.args.host c.args.tree.now c.args.cells.now in
    row_of_data k.string (early_frame c.args.address c.args.s.now) c.read_serial-asked.ensures c.in_ok-check_string.ensures

-- The answer.
answered : (c : After-answer-reply) → Replies (answer_to (serial_call c.args.address (length c.args.out.now) c.args.s.now c.args.host c.args.tree.now c.args.cells.now)) (replicate 256 0) c.answer-reply.result c.answer-reply.new.cells c.answer-reply.new.out
unfolding read_serial
answered c =
    let k = serial_call c.args.address (length c.args.out.now) c.args.s.now c.args.host c.args.tree.now c.args.cells.now in
    let asked : Read k.string c.read_serial-asked.result =
    row_of_data k.string (early_frame c.args.address c.args.s.now) c.read_serial-asked.ensures c.in_ok-check_string.ensures in
    answered_as k asked.is c.answer-reply.ensures

within : (c : After-answer-reply) → c.answer-reply.result.len ≤ length c.answer-reply.new.out
within c =
    let k = serial_call c.args.address (length c.args.out.now) c.args.s.now c.args.host c.args.tree.now c.args.cells.now in
    let open-call : Open k = opened k (sym (ap number_told c.in_ok-check_lent.was) ∙ c.check_lent.ensures) refl in
    reply_within (answer_to k) (replies k open-call) (omega arith) (answered c)

pub returns-in_err-check_string : goal.returns-in_err-check_string
unfolding read_serial
returns-in_err-check_string c =
    let k = call (goal.at.returns-in_err-check_string c).Start in
    let e = c.in_err-check_string.field-0.0 in
    let exit = c.from_residual-in_err-check_string in
    let failed = err_from_is_err_and exit.result exit.ensures.1 in
    let bad = row_of_string k.string (early_frame c.args.address c.args.s.now) c.read_serial-asked.ensures c.in_err-check_string.ensures.1 in
    rw (failed.1, failed.2)
    (serve-refused k (unrefused (goal.at.returns-in_err-check_string c).In_ok-check_lent) (sym (ap (λ x. (asked_of x).number) c.in_err-check_string.ensures.0) ∙ bad.number) bad.bad
    (refl, (refl, (refl, refl))) c.args.out.now)

pub slice_bounds-payload-end : goal.slice_bounds-payload-end
slice_bounds-payload-end c = within (goal.at.slice_bounds-payload-end c).After-answer-reply

pub slice_bounds-write_frame-end : goal.slice_bounds-write_frame-end
slice_bounds-write_frame-end c =
    part_size c.answer-reply.result.len c.answer-reply.new.out (within (goal.at.slice_bounds-write_frame-end c).After-answer-reply)

pub returns-in_err-len : goal.returns-in_err-len
returns-in_err-len c =
    let k = call (goal.at.returns-in_err-len c).Start in
    let ready = unrefused (goal.at.returns-in_err-len c).In_ok-check_lent in
    let e = c.in_err-len.field-0.0 in
    absurd (refusal_some e
    (sym (ap number_told c.in_err-len.was)
    ∙ serial_written (answer_to k) (answered (goal.at.returns-in_err-len c).After-answer-reply) (replies k ready) c.args.address ready.roomy c.write_frame.ensures))

pub returns : goal.returns
returns c =
    let k = call (goal.at.returns c).Start in
    let ready = unrefused (goal.at.returns c).In_ok-check_lent in
    serve_answered k ready (good (goal.at.returns c).In_ok-check_string).good
    (rw (ap length_told c.in_ok-len.was) at
    (as_serial (answer_to k) (answered (goal.at.returns c).After-answer-reply) (replies k ready) c.args.address ready.roomy c.write_frame.ensures))
