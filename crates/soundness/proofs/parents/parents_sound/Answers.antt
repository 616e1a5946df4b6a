-- `soundness::parents::parents_sound` meets its contract. Assumes nothing.
use native.Mathlib.Omega.{arith}
use mathlib.Core.Path.{refl, sym, ◌∙◌}
use Rattle.tree.proofs.SameLaws.{differ}
use Rattle.soundness.proofs.ParentLaws.{too_many, no_device, device_elsewhere, descend-begins, descend_behind, descend_deep, descend-on, descend-ends}
use Rattle.soundness.proofs.parents.parents_sound.Goals as goal
use Rattle.soundness.proofs.parents.parents_sound.Goals.{then-nodes-gt-MAX_NODES-via-then-nodes-gt-MAX_NODES, then-nodes-gt-MAX_NODES-via-else-nodes-gt-MAX_NODES+then-nodes-eq0, then-nodes-gt-MAX_NODES-via-else-nodes-gt-MAX_NODES+else-nodes-eq0+then-byte_at-ne0, then-k-parent-via-then-k-parent, then-k-parent-via-else-k-parent+then-from-ge-MAX_DEPTH}

pub returns-then-nodes-gt-MAX_NODES : goal.returns-then-nodes-gt-MAX_NODES
returns-then-nodes-gt-MAX_NODES c =
    elim c.then-nodes-gt-MAX_NODES.branch [
      | then-nodes-gt-MAX_NODES-via-then-nodes-gt-MAX_NODES w ↦ too_many c.args.tree.now (omega arith)
      | then-nodes-gt-MAX_NODES-via-else-nodes-gt-MAX_NODES+then-nodes-eq0 w ↦ no_device c.args.tree.now (omega arith)
      | then-nodes-gt-MAX_NODES-via-else-nodes-gt-MAX_NODES+else-nodes-eq0+then-byte_at-ne0 w ↦
          device_elsewhere c.args.tree.now (omega arith) (omega arith)
          (differ w.byte_at-else-nodes-eq0.ensures refl w.if-byte_at-ne0.true)
    ]

pub loop-k-init : goal.loop-k-init
loop-k-init c =
    descend-begins
    (c.from-nodes.ensures ∙ c.byte_at.ensures)
    (omega arith) (omega arith) (sym c.byte_at-else-nodes-eq0.ensures ∙ c.if-byte_at-ne0.false) refl refl

pub returns-then-k-parent : goal.returns-then-k-parent
returns-then-k-parent c =
    let parent = c.from-parent.ensures ∙ c.byte_at-in-loop-k.ensures in
    elim c.then-k-parent.branch [
      | then-k-parent-via-then-k-parent w ↦ descend_behind c.loop-k.invariant c.loop-k-test.true parent w.if-k-parent.true
      | then-k-parent-via-else-k-parent+then-from-ge-MAX_DEPTH w ↦
          descend_deep c.loop-k.invariant c.loop-k-test.true parent w.if-k-parent.false (omega (arith, w.if-from-ge-MAX_DEPTH.true, w.from.ensures))
    ]

pub loop-k-preserved : goal.loop-k-preserved
loop-k-preserved c =
    descend-on c.loop-k.invariant c.loop-k-test.true
    (c.from-parent.ensures ∙ c.byte_at-in-loop-k.ensures) c.if-k-parent.false (omega (arith, c.if-from-ge-MAX_DEPTH.false, c.from.ensures))

pub returns : goal.returns
returns c = descend-ends c.loop-k.invariant c.loop-k-test.false
