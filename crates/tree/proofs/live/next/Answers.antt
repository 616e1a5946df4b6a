-- `tree::live::next` meets its contract. Assumes nothing.
use mathlib.Core.Path.{◌∙◌}
use Rattle.protocol.specs.Tree.{is_live}
use Rattle.tree.proofs.NextLaws.{live_same}
use Rattle.tree.proofs.live.next.Goals as goal

pub returns : goal.returns
returns c = c.next_where.ensures is_live (λ p f b same told. told.1 ∙ live_same same)
