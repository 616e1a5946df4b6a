-- `word::before_zero` meets its contract. Assumes nothing.
use Rattle.std.proofs.Common.{ap, ◌∙◌, length}
use Rattle.std.specs.Option.{unwrap_or}
use Rattle.word.proofs.ZeroLaws.{zero_position}
use Rattle.word.proofs.before_zero.Goals as goal

pub returns : goal.returns
returns c =
    let bs = c.args.bs.now in
    c.unwrap_or.ensures ∙ ap (λ o. unwrap_or o (length bs)) c.first_zero.ensures ∙ zero_position bs
