-- `listing::entry::put_node` meets its contract. Assumes nothing.
use mathlib.Core.Path.{◌∙◌}
use Rattle.tree.specs.Seen.{seen}
use Rattle.listing.proofs.EntryLaws.{node_put}
use Rattle.listing.proofs.entry.put_node.Goals as goal

pub returns : goal.returns
returns c =
    node_put (seen c.args.tree.now) c.args.path.now c.args.k c.name.ensures.is (c.from.ensures ∙ c.children.ensures)
    (c.from-2.ensures ∙ c.properties.ensures) c.put_line.ensures c.put_line-2.ensures c.put_line-3.ensures c.put_line-4.ensures
