-- `listing::entry::put_own` meets its contract. Assumes nothing.
use Rattle.tree.specs.Seen.{seen}
use Rattle.listing.proofs.EntryLaws.{own_put}
use Rattle.listing.proofs.entry.put_own.Goals as goal

pub returns : goal.returns
returns c = own_put (seen c.args.tree.bytes.now) c.args.k c.args.path.now c.put_node.ensures c.put_properties.ensures
