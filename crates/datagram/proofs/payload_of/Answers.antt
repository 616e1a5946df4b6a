-- `datagram::payload_of` meets its contract. Assumes nothing.
use Rattle.std.proofs.lemmas.Result.{err_from_is_err_and}
use Rattle.datagram.proofs.UdpLaws.{unopened, opened_number, opened_payload}
use Rattle.datagram.proofs.payload_of.Goals as goal

pub returns-in_default : goal.returns-in_default
returns-in_default c = record { number = unopened c.args.d.now c.in_default.ensures.cases; payload = tt }

pub returns-in_err-check_size : goal.returns-in_err-check_size
returns-in_err-check_size c =
    let p = err_from_is_err_and c.from_residual.result c.from_residual.ensures.1 in
    let front = c.in-Some.ensures.cases in
    rw (p.1, p.2)
    (record { number = opened_number c.args.d.now c.in-Some.payload.now front.0 front.1 _ c.in_err-check_size.ensures; payload = tt })

pub returns : goal.returns
returns c =
    let front = c.in-Some.ensures.cases in
    record {
      number = opened_number c.args.d.now c.in-Some.payload.now front.0 front.1 _ c.in_ok-check_size.ensures;
      payload = opened_payload c.args.d.now c.in-Some.payload.now front.0 front.1 c.in_ok-check_size.ensures;
    }
