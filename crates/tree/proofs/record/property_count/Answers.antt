-- `tree::record::property_count` meets its contract. Assumes nothing.
use mathlib.Core.Path.{sym, ◌∙◌}
use Rattle.tree.proofs.FieldLaws.{property_count_lem}
use Rattle.tree.proofs.record.property_count.Goals as goal

pub returns : goal.returns
returns c = c.from.ensures ∙ c.byte_at.ensures ∙ sym (property_count_lem c.args.tree.now)
