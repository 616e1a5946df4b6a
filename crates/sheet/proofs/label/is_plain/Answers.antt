-- `sheet::label::is_plain` meets its contract. Assumes nothing.
use mathlib.Core.Path.{ap, ◌∙◌}
use mathlib.Core.Bool.{not}
use Rattle.sheet.proofs.LabelLaws.{plain_is}
use Rattle.sheet.proofs.label.is_plain.Goals as goal

pub returns : goal.returns
returns c = ap not c.contains.ensures.value ∙ plain_is c.args.label.now
