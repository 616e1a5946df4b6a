-- `pualirqiq::hand_back` meets its contract. Assumes nothing.
use Rattle.std.proofs.Common.{subst}
use Rattle.request.specs.Asked.{AskedIs}
use Rattle.pualirqiq.specs.Calls.{handed}
use Rattle.pualirqiq.proofs.BackLaws.{hands_none, hands_all}
use Rattle.pualirqiq.proofs.hand_back.Goals as goal

pub returns-in-Ok : goal.returns-in-Ok
returns-in-Ok c = λ a h.
    let old = handed c.args.op.now c.args.path.now c.args.path_len.now c.args.index.now c.args.value.now in
    rw c.into.ensures (hands_all a old c.in-Ok.request (subst (AskedIs a) c.in-Ok.is h))

pub returns-in-Err : goal.returns-in-Err
returns-in-Err c = λ a h.
    let old = handed c.args.op.now c.args.path.now c.args.path_len.now c.args.index.now c.args.value.now in
    rw c.into-in-Err.ensures (hands_none a old c.in-Err.refusal (subst (AskedIs a) c.in-Err.is h))
