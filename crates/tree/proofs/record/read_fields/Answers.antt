-- `tree::record::read_fields` meets its contract. Assumes nothing.
use mathlib.Core.Path.{subst}
use mathlib.Core.List.{[]}
use Rattle.tree.specs.Seen.{property_seen}
use Rattle.tree.specs.Lookup.{FieldsAre}
use Rattle.tree.proofs.FieldLaws.{fields_at, fields_none, fields_whole, fields_cut}
use Rattle.tree.proofs.record.read_fields.Goals as goal

pub returns-in_default : goal.returns-in_default
returns-in_default c = fields_none c.args.tree.now c.args.place c.in_default.ensures.place c.default.ensures

pub returns-then-at-tree : goal.returns-then-at-tree
returns-then-at-tree c =
    fields_at c.args.tree.now c.args.place c.in-Some.ensures.place.0 c.in-Some.ensures.place.1
    (fields_whole c.args.tree.now c.in-Some.at c.fields_of.ensures)

pub returns : goal.returns
returns c =
    fields_at c.args.tree.now c.args.place c.in-Some.ensures.place.0 c.in-Some.ensures.place.1
    (fields_cut c.args.tree.now c.in-Some.at
    (subst (λ l. FieldsAre (property_seen [] l) c.fields_of-2.result) c.cut_record-cut.ensures c.fields_of-2.ensures))
