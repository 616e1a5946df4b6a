-- `frame::write::write_frame` meets its contract. Assumes nothing.
use Rattle.std.proofs.Common.{sym}
use Rattle.std.proofs.lemmas.Result.{err_from_is_err_and}
use Rattle.protocol.specs.Numbers.{room_serial}
use Rattle.protocol.proofs.FrameLaws.{size_only}
use Rattle.protocol.proofs.RefusalLaws.{refusal_some}
use Rattle.protocol.proofs.BufferLaws.{put_emits, emits_no_room, emits_in_room, emits_unsized, emits_sized}
use Rattle.frame.proofs.write.write_frame.Goals as goal

pub returns-then-out-lt-ROOM_SERIAL : goal.returns-then-out-lt-ROOM_SERIAL
returns-then-out-lt-ROOM_SERIAL c = emits_no_room room_serial _ _ _ c.if-out-lt-ROOM_SERIAL.true

pub returns-in_err-check_size : goal.returns-in_err-check_size
returns-in_err-check_size c =
    let p = err_from_is_err_and c.from_residual.result c.from_residual.ensures.1 in
    rw (p.1, p.2)
    (emits_in_room c.if-out-lt-ROOM_SERIAL.false
    (emits_unsized c.args.payload.now _ _ c.in_err-check_size.ensures (refusal_some c.in_err-check_size.field-0.0)))

pub put_frame-requires : goal.put_frame-requires
put_frame-requires c =
    ((size_only c.args.payload.now (sym c.in_ok-check_size.ensures)).most, c.if-out-lt-ROOM_SERIAL.false)

pub returns : goal.returns
returns c =
    emits_in_room c.if-out-lt-ROOM_SERIAL.false
    (emits_sized c.args.payload.now (sym c.in_ok-check_size.ensures) (put_emits c.put_frame.ensures))
