-- `listing::walk::walk_children` and `listing::walk::walk_node` call one another, each on fewer nodes.
use Rattle.std.proofs.Common.{◌-◌, ◌*◌, length}
use Rattle.protocol.specs.KeptPath.{path_in}
use Rattle.tree.specs.Seen.{seen}
use Rattle.listing.proofs.WalkLaws.{Descending}
use Rattle.listing.proofs.walk.+tree_walk.Given as goal

abbrev pub decreases-walk_children : goal.decreases-walk_children
decreases-walk_children l = 2 * (length (seen l.tree.bytes.now).nodes - l.k) - 1

abbrev pub decreases-walk_node : goal.decreases-walk_node
decreases-walk_node l = 2 * (length (seen l.tree.bytes.now).nodes - l.k)

abbrev pub invariant-walk_children-loop-j : goal.invariant-walk_children-loop-j
invariant-walk_children-loop-j l = Descending l.bytes l.k (path_in l.path) l.initial.output l.output l.number l.j
