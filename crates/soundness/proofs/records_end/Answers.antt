-- `soundness::records_end` meets its contract. Assumes nothing.
use mathlib.Core.Path.{refl, sym, ◌∙◌}
use Rattle.soundness.proofs.StepLaws.{go_begins, go_on, go_fails, go_ends}
use Rattle.soundness.proofs.records_end.Goals as goal

pub loop-k-init : goal.loop-k-init
loop-k-init g c = λ size from f tells. go_begins size f c.args.tree.now from c.args.start c.args.count

pub returns-in_err-at : goal.returns-in_err-at
returns-in_err-at g c =
    λ size from f tells.
    c.from_residual.ensures
    ∙ go_fails size f c.args.tree.now from c.args.start c.args.count (c.loop-k.invariant size from f tells) c.loop-k-test.true
    (sym c.in_err-at.was ∙ tells _ _ _ _ refl c.loop-k-test.true c.record_end.ensures)

pub loop-k-preserved : goal.loop-k-preserved
loop-k-preserved g c =
    λ size from f tells.
    go_on size f c.args.tree.now from c.args.start c.args.count (c.loop-k.invariant size from f tells) c.loop-k-test.true
    (sym c.in_ok-at.was ∙ tells _ _ _ _ refl c.loop-k-test.true c.record_end.ensures)

pub returns : goal.returns
returns g c =
    λ size from f tells.
    go_ends size f c.args.tree.now from c.args.start c.args.count (c.loop-k.invariant size from f tells) c.loop-k-test.false
