-- `tree::part::name` meets its contract. Assumes nothing.
use Rattle.tree.proofs.FieldLaws.{name_part}
use Rattle.tree.proofs.part.name.Goals as goal

pub returns : goal.returns
returns c = name_part c.args.tree.now c.args.node c.name_place.result c.name_place.ensures c.text_at.ensures
