-- `listing::walk::walk_children` and `listing::walk::walk_node` meet their contracts: each calls the other on fewer nodes.
-- Assumes nothing.
use Rattle.std.proofs.Common.{◌∙◌, ◌<◌, length, arith, ap}
use Rattle.protocol.specs.KeptPath.{path_in}
use Rattle.tree.specs.Seen.{seen}
use Rattle.text.proofs.LaysLaws.{lays_as}
use Rattle.listing.specs.Steps.{own_text}
use Rattle.listing.proofs.WalkLaws.{node_put, row_within, row_parent, descend-begins, descend_past, descend_here, descend-ends, few_nodes, child_room, stands_child}
use Rattle.listing.proofs.walk.+tree_walk.Goals as goal

pub walk_children-overflow_step-j : goal.walk_children-overflow_step-j
walk_children-overflow_step-j t c = omega (arith, few_nodes c.args.tree.bytes.now c.args.tree.sound, c.requires.within)

pub walk_children-overflow_mul-j : goal.walk_children-overflow_mul-j
walk_children-overflow_mul-j t c =
    omega (arith, few_nodes c.args.tree.bytes.now c.args.tree.sound, c.loop-j-test.true, c.node_count-j-end.ensures)

pub walk_children-overflow_add-j : goal.walk_children-overflow_add-j
walk_children-overflow_add-j t c =
    omega (arith, few_nodes c.args.tree.bytes.now c.args.tree.sound, c.loop-j-test.true, c.node_count-j-end.ensures)

pub walk_children-loop-j-init : goal.walk_children-loop-j-init
walk_children-loop-j-init t c = descend-begins c.args.tree.bytes.now c.args.k (path_in c.args.path) c.args.output.now

pub walk_children-bounds-bytes-j : goal.walk_children-bounds-bytes-j
walk_children-bounds-bytes-j t c =
    row_within c.args.tree.bytes.now (omega (arith, c.loop-j-test.true, c.node_count-j-end.ensures)) c.args.tree.sound

pub walk_children-loop-j-preserved-then-from-k : goal.walk_children-loop-j-preserved-then-from-k
walk_children-loop-j-preserved-then-from-k t c =
    let bytes = c.args.tree.bytes.now in
    let listed : c.loop-j.j < length (seen bytes).nodes = omega (arith, c.loop-j-test.true, c.node_count-j-end.ensures) in
    descend_past bytes (path_in c.args.path) c.loop-j.invariant listed (c.from.ensures ∙ row_parent bytes listed) c.if-from-k.true

pub walk_children-overflow_add-number : goal.walk_children-overflow_add-number
walk_children-overflow_add-number t c =
    omega (arith, c.loop-j.invariant.behind, few_nodes c.args.tree.bytes.now c.args.tree.sound, c.loop-j-test.true, c.node_count-j-end.ensures)

pub walk_children-walk_node-requires : goal.walk_children-walk_node-requires
walk_children-walk_node-requires t c =
    let bytes = c.args.tree.bytes.now in
    let listed : c.loop-j.j < length (seen bytes).nodes = omega (arith, c.loop-j-test.true, c.node_count-j-end.ensures) in
    let room : c.args.path.len < 16 =
    child_room c.args.tree.sound c.requires (omega (arith, c.loop-j.invariant.behind)) listed (c.from.ensures ∙ row_parent bytes listed) c.if-from-k.false in (
      omega (arith, c.decreases, c.loop-j.invariant.behind, listed),
      stands_child c.args.tree.sound c.requires (omega (arith, c.loop-j.invariant.behind)) listed
          (c.from.ensures ∙ row_parent bytes listed) c.if-from-k.false (c.child.ensures room).len,
    )

pub walk_children-loop-j-preserved : goal.walk_children-loop-j-preserved
walk_children-loop-j-preserved t c =
    let bytes = c.args.tree.bytes.now in
    let listed : c.loop-j.j < length (seen bytes).nodes = omega (arith, c.loop-j-test.true, c.node_count-j-end.ensures) in
    let room : c.args.path.len < 16 =
    child_room c.args.tree.sound c.requires (omega (arith, c.loop-j.invariant.behind)) listed (c.from.ensures ∙ row_parent bytes listed) c.if-from-k.false in
    descend_here bytes (path_in c.args.path) c.loop-j.invariant listed (c.from.ensures ∙ row_parent bytes listed) c.if-from-k.false
    (c.child.ensures room).is c.walk_node.ensures

pub walk_children-returns : goal.walk_children-returns
walk_children-returns t c =
    descend-ends c.args.tree.bytes.now (path_in c.args.path) c.loop-j.invariant
    (omega (arith, c.loop-j-test.false, c.node_count-j-end.ensures))

pub walk_node-returns : goal.walk_node-returns
walk_node-returns t c =
    let tree = seen c.args.tree.bytes.now in
    node_put tree c.args.k (path_in c.args.path) (lays_as (ap (own_text tree c.args.k) c.as_slice.ensures) c.put_own.ensures)
    c.walk_children.ensures
