-- `soundness::texts::texts_end` meets its contract. Assumes nothing.
use Prim.Native.Nat.{◌+◌, ◌-◌, min}
use native.Mathlib.Omega.{arith}
use mathlib.Core.Path.{◌≡◌, ap, ◌∙◌}
use lib.ListN.{length}
use Rattle.soundness.proofs.TextLaws.{Scanning, scan_past, scan_begins, scan_skip, scan_stop, scan_next, scan_ended, scan_bad, scan_out}
use Rattle.soundness.proofs.texts.texts_end.Goals as goal
use Rattle.soundness.proofs.texts.texts_end.Goals.{After-characters_end-stop, then-end-stop-via-then-end-stop, then-end-stop-via-else-end-stop+then-tree-stop-ne0}

-- Behind the characters that stand at the place.
skipped : (c : After-characters_end-stop) → let args = c.args in
    Scanning args.tree.now args.from args.count args.room (args.from + c.min.result) c.loop-at.left c.characters_end-stop.result
skipped c = scan_skip c.loop-at.invariant c.characters_end-stop.ensures

pub returns-in_err-get : goal.returns-in_err-get
returns-in_err-get c =
    let args = c.args in
    c.from_residual.ensures ∙ scan_past args.tree.now args.from args.count args.room (omega (arith, c.in_err-get.ensures.lookup.0))

pub loop-at-init : goal.loop-at-init
loop-at-init c =
    let args = c.args in
    let left : length c.in_ok-get.field-0.now ≡ length args.tree.now - args.from = omega (arith, c.in_ok-get.ensures.lookup.0.3) in
    scan_begins c.in_ok-get.ensures.lookup.0.0 (ap (λ n. args.from + n) (c.min.ensures ∙ ap (min args.room) left))

pub characters_end-stop-requires : goal.characters_end-stop-requires
characters_end-stop-requires c = (c.loop-at.invariant.within, c.loop-at.invariant.last)

pub returns-then-end-stop : goal.returns-then-end-stop
returns-then-end-stop c =
    let behind = skipped (goal.at.returns-then-end-stop c).After-characters_end-stop in
    elim c.then-end-stop.branch [
      | then-end-stop-via-then-end-stop w ↦ scan_out behind w.if-end-stop.true
      | then-end-stop-via-else-end-stop+then-tree-stop-ne0 w ↦
          scan_bad behind w.if-end-stop.false w.if-tree-stop-ne0.true
          (scan_stop c.loop-at.invariant c.characters_end-stop.ensures w.if-end-stop.false)
    ]

pub returns-then-left-le1 : goal.returns-then-left-le1
returns-then-left-le1 c =
    scan_ended (skipped (goal.at.returns-then-left-le1 c).After-characters_end-stop) c.if-end-stop.false c.if-tree-stop-ne0.false c.if-left-le1.true

pub loop-at-smaller : goal.loop-at-smaller
loop-at-smaller c = omega (arith, (skipped (goal.at.loop-at-smaller c).After-characters_end-stop).past)

pub loop-at-preserved : goal.loop-at-preserved
loop-at-preserved c =
    scan_next (skipped (goal.at.loop-at-preserved c).After-characters_end-stop) c.if-end-stop.false c.if-tree-stop-ne0.false c.if-left-le1.false

pub returns : goal.returns
returns c = scan_out c.loop-at.invariant c.loop-at-test.false
