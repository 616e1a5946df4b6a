use Rattle.tree.specs.Seen.{seen}
use Rattle.buslink.specs.Steps.{ProbeAt}
use Rattle.buslink.proofs.probe.place_after.Given as goal

abbrev pub invariant-loop-passed : goal.invariant-loop-passed
invariant-loop-passed l = ProbeAt (seen l.tree) l._passed l.k
