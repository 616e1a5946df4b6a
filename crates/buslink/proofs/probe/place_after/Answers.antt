-- `buslink::probe::place_after` meets its contract. Assumes nothing.
use native.Mathlib.Omega.{arith}
use Rattle.tree.specs.Seen.{seen}
use Rattle.buslink.proofs.SendLaws.{probe_first, probe_next, probe_past}
use Rattle.buslink.proofs.probe.place_after.Goals as goal

pub loop-passed-init : goal.loop-passed-init
loop-passed-init c = probe_first (seen c.args.tree.now) c.next-k.ensures

pub returns-then-count-k : goal.returns-then-count-k
returns-then-count-k c =
    probe_past (seen c.args.tree.now) _ _ (omega arith) c.loop-passed.invariant
    (omega (arith, c.if-count-k.true, c.property_count-count.ensures))

pub loop-passed-preserved : goal.loop-passed-preserved
loop-passed-preserved c =
    probe_next (seen c.args.tree.now) _ c.loop-passed.invariant
    (omega (arith, c.if-count-k.false, c.property_count-count.ensures)) c.next-k-in-loop-passed.ensures
