-- `datagram::write_datagram` meets its contract. Assumes nothing.
use Rattle.std.proofs.Common.{◌+◌, ◌≤◌, [], ◌∷◌, length, sym, arith}
use Rattle.std.proofs.lemmas.Result.{err_from_is_err_and}
use Rattle.protocol.specs.Numbers.{room_udp}
use Rattle.protocol.specs.Frame.{datagram}
use Rattle.protocol.specs.Buffer.{Put}
use Rattle.protocol.proofs.FrameLaws.{size_only}
use Rattle.protocol.proofs.RefusalLaws.{refusal_some}
use Rattle.protocol.proofs.BufferLaws.{put_emits, put_fits, puts_fit, emits_no_room, emits_in_room, emits_unsized, emits_sized}
use Rattle.datagram.proofs.write_datagram.Goals as goal

pub returns-then-out-lt-ROOM_UDP : goal.returns-then-out-lt-ROOM_UDP
returns-then-out-lt-ROOM_UDP c = emits_no_room room_udp _ _ _ c.if-out-lt-ROOM_UDP.true

pub returns-in_err-check_size : goal.returns-in_err-check_size
returns-in_err-check_size c =
    let p = err_from_is_err_and c.from_residual.result c.from_residual.ensures.1 in
    rw (p.1, p.2)
    (emits_in_room c.if-out-lt-ROOM_UDP.false
    (emits_unsized c.args.payload.now _ _ c.in_err-check_size.ensures (refusal_some c.in_err-check_size.field-0.0)))

pub returns : goal.returns
unfolding datagram
returns c =
    let d = c.args.payload.now in
    let fits : 4 + length d ≤ length c.args.out.now = omega (
      arith,
      (size_only d (sym c.in_ok-check_size.ensures)).most,
      c.if-out-lt-ROOM_UDP.false,
    ) in
    let front : Put 0 (0 ∷ 0 ∷ 0 ∷ 0 ∷ []) c.args.out.now c.put_all-at.result c.put_all-at.new.out =
    put_fits (omega (arith, fits)) c.put_all-at.ensures in
    emits_in_room c.if-out-lt-ROOM_UDP.false
    (emits_sized d (sym c.in_ok-check_size.ensures) (put_emits (puts_fit d front (omega (arith, fits)) c.put_all.ensures)))
