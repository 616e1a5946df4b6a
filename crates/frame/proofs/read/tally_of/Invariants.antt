use Rattle.frame.proofs.ContentLaws.{Tallying}
use Rattle.frame.proofs.read.tally_of.Given as goal

abbrev pub invariant-loop-b : goal.invariant-loop-b
invariant-loop-b l = Tallying l.content l.t l.b-index
