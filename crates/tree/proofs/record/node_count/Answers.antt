-- `tree::record::node_count` meets its contract. Assumes nothing.
use mathlib.Core.Path.{sym, ◌∙◌}
use Rattle.tree.proofs.FieldLaws.{node_count_lem}
use Rattle.tree.proofs.record.node_count.Goals as goal

pub returns : goal.returns
returns c = c.from.ensures ∙ c.byte_at.ensures ∙ sym (node_count_lem c.args.tree.now)
