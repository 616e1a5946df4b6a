-- `tree::part::label` meets its contract. Assumes nothing.
use Rattle.tree.proofs.FieldLaws.{label_part}
use Rattle.tree.proofs.part.label.Goals as goal

pub returns : goal.returns
returns c = label_part c.args.tree.now c.args.place c.label_place.result c.label_place.ensures c.text_at.ensures
