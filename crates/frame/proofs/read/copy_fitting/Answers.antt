-- `frame::read::copy_fitting` meets its contract. Assumes nothing.
use Rattle.std.proofs.Common.{length, drop, ap, ◌∙◌}
use Rattle.protocol.proofs.BufferLaws.{put_as}
use Rattle.frame.specs.Steps.{content_from}
use Rattle.frame.proofs.CheckLaws.{content_min}
use Rattle.frame.proofs.read.copy_fitting.Goals as goal

pub returns : goal.returns
returns c =
    let s = drop c.args.from c.args.s.now in
    put_as (ap (λ n. content_from n s) c.min.ensures ∙ content_min c.args.n (length c.args.out.now) s) c.copy_content.ensures
