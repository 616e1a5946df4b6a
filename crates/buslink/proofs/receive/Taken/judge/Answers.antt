-- `buslink::receive::Taken::judge` meets its contract. Assumes nothing.
use mathlib.Core.Path.{refl}
use Rattle.std.proofs.lemmas.Result.{err_from_is_err_and}
use Rattle.buslink.proofs.ReceiveLaws.{judge-unsound, judge_other, judge-sized, judge-done, own_test, no_station}
use Rattle.buslink.proofs.receive.Taken.judge.Goals as goal

pub returns-then-not-formed : goal.returns-then-not-formed
returns-then-not-formed c = judge-unsound _ _ _ _ _ c.if-not-formed.true

pub returns-in_err-at : goal.returns-in_err-at
returns-in_err-at c =
    let told = c.in_err-at.ensures in
    let p = err_from_is_err_and c.from_residual.result c.from_residual.ensures.1 in
    rw (p.1, p.2, told.1) (judge_other _ _ _ _ _ c.if-not-formed.false (no_station _ _ _ told.0))

pub returns-in_err-kind : goal.returns-in_err-kind
returns-in_err-kind c =
    let told = c.in_err-kind.ensures in
    let p = err_from_is_err_and c.from_residual-in_err-kind.result c.from_residual-in_err-kind.ensures.1 in
    rw (p.1, p.2, told.1)
    (judge_other _ _ _ _ _ c.if-not-formed.false (own_test c.in_ok-at.field-0 c.in_ok-at.ensures c.args.id told.0))

pub returns-then-payload-ne-DATA_SIZE : goal.returns-then-payload-ne-DATA_SIZE
returns-then-payload-ne-DATA_SIZE c =
    judge-sized _ _ _ _ _ c.if-not-formed.false (own_test c.in_ok-at.field-0 c.in_ok-at.ensures c.args.id c.in_ok-kind.ensures.0)
    c.if-payload-ne-DATA_SIZE.true

pub returns : goal.returns
returns c =
    judge-done _ _ _ _ _ c.if-not-formed.false (own_test c.in_ok-at.field-0 c.in_ok-at.ensures c.args.id c.in_ok-kind.ensures.0)
    c.if-payload-ne-DATA_SIZE.false _ c.in_ok-kind.ensures.1 refl
