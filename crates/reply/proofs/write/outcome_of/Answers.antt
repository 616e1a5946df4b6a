-- `reply::write::outcome_of` meets its contract. Assumes nothing.
use mathlib.Core.Path.{◌∙◌}
use Rattle.reply.proofs.WriteLaws.{outcome-same}
use Rattle.reply.proofs.write.outcome_of.Goals as goal

pub returns : goal.returns
returns c = c.outcome_by.ensures ∙ outcome-same c.args.value c.read_fields.ensures
