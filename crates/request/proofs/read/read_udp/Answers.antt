-- `request::read::read_udp` meets its contract. Assumes nothing.
use Rattle.std.proofs.lemmas.Result.{err_from_is_err_and}
use Rattle.request.proofs.ReadLaws.{udp_refused, udp_read}
use Rattle.request.proofs.read.read_udp.Goals as goal

pub returns-in_err-payload_of : goal.returns-in_err-payload_of
returns-in_err-payload_of c =
    let p = err_from_is_err_and c.from_residual.result c.from_residual.ensures.1 in
    rw (p.1, p.2) (udp_refused c.args.d.now c.in_err-payload_of.field-0.0 c.in_err-payload_of.ensures.number)

pub returns : goal.returns
returns c =
    udp_read c.args.d.now c.in_ok-payload_of.ensures.number c.in_ok-payload_of.ensures.payload c.read_data.ensures
