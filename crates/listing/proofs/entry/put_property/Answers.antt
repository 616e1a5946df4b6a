-- `listing::entry::put_property` meets its contract. Assumes nothing.
use mathlib.Core.Path.{◌∙◌}
use Rattle.tree.specs.Seen.{seen}
use Rattle.listing.proofs.EntryLaws.{property_put}
use Rattle.listing.proofs.entry.put_property.Goals as goal

pub returns : goal.returns
returns c =
    property_put (seen c.args.tree.now) c.args.path.now c.args.place c.args.index c.label.ensures.is
    (c.from.ensures ∙ c.read_fields.ensures.kind) c.put_line.ensures c.put_line-2.ensures c.put_line-3.ensures c.put_line-4.ensures
