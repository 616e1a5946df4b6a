-- `compose::check_request` meets its contract. Assumes nothing.
use Rattle.std.proofs.lemmas.Result.{err_from_is_err_and}
use Rattle.protocol.specs.Request.{request_of}
use Rattle.compose.proofs.WriteLaws.{allow_unknown, allow_unfit, allow_fit}
use Rattle.compose.proofs.check_request.Goals as goal

pub returns-in_err-try_from : goal.returns-in_err-try_from
returns-in_err-try_from c =
    let told = c.in_err-try_from.ensures in
    let p = err_from_is_err_and c.from_residual.result c.from_residual.ensures.1 in
    rw (p.1, p.2, told.1) (allow_unknown (request_of c.args.op c.args.path.now c.args.index.0 c.args.value) told.0)

pub returns-then-not-all_fit : goal.returns-then-not-all_fit
returns-then-not-all_fit c =
    allow_unfit c.args.op c.args.path.now c.args.index.0 c.args.value _ c.in_ok-try_from.ensures c.all_fit.ensures c.if-not-all_fit.true

pub returns : goal.returns
returns c =
    allow_fit c.args.op c.args.path.now c.args.index.0 c.args.value _ c.in_ok-try_from.ensures c.all_fit.ensures c.if-not-all_fit.false
