-- `compose::data_for` meets its contract. Assumes nothing.
use native.Mathlib.Omega.{arith}
use mathlib.Core.Path.{sym}
use Rattle.std.proofs.lemmas.Result.{err_from_is_err_and}
use Rattle.protocol.specs.Request.{request_of, Allowed, data_of}
use Rattle.protocol.proofs.BufferLaws.{put_emits, put_fits}
use Rattle.protocol.proofs.RefusalLaws.{refusal_some}
use Rattle.protocol.proofs.RequestLaws.{data_of_size}
use Rattle.compose.proofs.WriteLaws.{emits_unroomed, emits_unallowed, emits_allowed}
use Rattle.compose.proofs.data_for.Goals as goal

pub returns-then-room-least : goal.returns-then-room-least
returns-then-room-least c =
    emits_unroomed c.args.least c.args.room data_of (request_of c.args.op c.args.path.now c.args.index.0 c.args.value) c.args.payload.now c.if-room-least.true

pub returns-in_err-check_request : goal.returns-in_err-check_request
returns-in_err-check_request c =
    let p = err_from_is_err_and c.from_residual.result c.from_residual.ensures.1 in
    rw (p.1, p.2)
    (emits_unallowed c.args.least c.args.room data_of (request_of c.args.op c.args.path.now c.args.index.0 c.args.value) c.args.payload.now
    c.if-room-least.false c.in_err-check_request.ensures (refusal_some _))

pub returns : goal.returns
returns c =
    let allowed : Allowed (request_of c.args.op c.args.path.now c.args.index.0 c.args.value) = sym c.in_ok-check_request.ensures in
    emits_allowed c.args.least c.args.room data_of (request_of c.args.op c.args.path.now c.args.index.0 c.args.value) c.args.payload.now
    c.if-room-least.false allowed (put_emits (put_fits {ys = data_of (request_of c.args.op c.args.path.now c.args.index.0 c.args.value)} (omega (arith, c.requires, (data_of_size (request_of c.args.op c.args.path.now c.args.index.0 c.args.value) allowed).1)) c.put_data.ensures))
