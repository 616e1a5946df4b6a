-- `compose::write_udp` meets its contract. Assumes nothing.
use Prim.Native.Nat.{◌≤◌}
use native.Mathlib.Omega.{arith}
use mathlib.Core.Path.{refl}
use lib.ListN.{length}
use Rattle.std.proofs.lemmas.Result.{err_from_is_err_and}
use Rattle.protocol.specs.Numbers.{room_udp}
use Rattle.protocol.specs.Request.{request_of, data_of, udp_form}
use Rattle.protocol.proofs.ListLaws.{part_size}
use Rattle.protocol.proofs.RefusalLaws.{refusal_some}
use Rattle.compose.proofs.WriteLaws.{refused_alike, put_for, put_for_within, put_front, emits_allowed, emits_udp}
use Rattle.compose.proofs.write_udp.Goals as goal
use Rattle.compose.proofs.write_udp.Goals.{In_ok-len}

within : (c : In_ok-len) → c.in_ok-len.len ≤ length c.data_for.new.payload
within c =
    put_for_within (request_of c.args.op c.args.path.now c.args.index.0 c.args.value)
    (put_for room_udp (length c.args.out.now) (request_of c.args.op c.args.path.now c.args.index.0 c.args.value) c.in_ok-len.ensures refl) (omega arith)

pub returns-in_err-len : goal.returns-in_err-len
returns-in_err-len c =
    let p = err_from_is_err_and c.from_residual.result c.from_residual.ensures.1 in
    rw (p.1, p.2)
    (refused_alike room_udp (length c.args.out.now) (request_of c.args.op c.args.path.now c.args.index.0 c.args.value) c.in_err-len.ensures udp_form
    c.args.out.now (refusal_some _))

pub slice_bounds-payload-end : goal.slice_bounds-payload-end
slice_bounds-payload-end c = within (goal.at.slice_bounds-payload-end c).In_ok-len

pub slice_bounds-write_datagram-end : goal.slice_bounds-write_datagram-end
slice_bounds-write_datagram-end c =
    part_size c.in_ok-len.len c.data_for.new.payload (within (goal.at.slice_bounds-write_datagram-end c).In_ok-len)

pub returns : goal.returns
returns c =
    let out = c.args.out.now in
    let r = request_of c.args.op c.args.path.now c.args.index.0 c.args.value in
    let p = put_for room_udp (length out) r c.in_ok-len.ensures refl in
    emits_allowed room_udp (length out) udp_form r out p.roomy p.allowed
    (emits_udp r p.allowed (put_front {ys = data_of r} p.put) p.roomy c.write_datagram.ensures)
