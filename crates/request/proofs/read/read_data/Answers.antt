-- `request::read::read_data` meets its contract. Assumes nothing.
use native.Mathlib.Omega.{arith}
use Rattle.std.proofs.lemmas.Result.{err_from_is_err_and}
use Rattle.request.proofs.ReadLaws.{data-none, data-other, data-one, data-unknown, data-shape}
use Rattle.request.proofs.read.read_data.Goals as goal

pub returns-in_err-try_from-in-180 : goal.returns-in_err-try_from-in-180
returns-in_err-try_from-in-180 c =
    let told = c.in_err-try_from-in-180.ensures in
    let p = err_from_is_err_and c.from_residual.result c.from_residual.ensures.1 in
    rw (p.1, p.2, told.1) (data-unknown c.args.d.now c.in-180.len_at_least (omega arith) told.0)

pub returns-in_ok-try_from-in-180 : goal.returns-in_ok-try_from-in-180
returns-in_ok-try_from-in-180 c =
    data-shape c.args.d.now c.in_ok-try_from-in-180.field-0 c.in-180.len_at_least (omega arith) c.in_ok-try_from-in-180.ensures c.read_shape.ensures

pub returns-in_default : goal.returns-in_default
returns-in_default c = data-other c.args.d.now c.in_default.len_at_least (λ e. omega (arith, e))

pub returns-in_default-2 : goal.returns-in_default-2
returns-in_default-2 c = data-other c.args.d.now (omega arith) (λ e. omega (arith, e))

pub returns-in-empty : goal.returns-in-empty
returns-in-empty c = data-none c.args.d.now c.in-empty.len_below

pub returns-in-empty-2 : goal.returns-in-empty-2
returns-in-empty-2 c = data-one c.args.d.now c.in-empty.len_at_least c.in-empty.len_below (omega arith)
