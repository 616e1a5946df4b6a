-- `listing::walk::Listing` is put as its contract says. Assumes nothing.
use Rattle.tree.specs.Seen.{seen}
use Rattle.listing.proofs.WalkLaws.{tree_put, stands_device}
use Rattle.listing.proofs.walk.ListingValue.put.Goals as goal

pub walk_children-requires : goal.walk_children-requires
walk_children-requires c = stands_device c.args.self.tree.sound c.device.ensures.len

pub returns : goal.returns
returns c = tree_put (seen c.args.self.tree.bytes.now) c.device.ensures c.put_own.ensures c.walk_children.ensures
