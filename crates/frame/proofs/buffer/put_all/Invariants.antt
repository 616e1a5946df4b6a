use Rattle.protocol.proofs.BufferLaws.{Filling}
use Rattle.frame.proofs.buffer.put_all.Given as goal

abbrev pub invariant-loop-b : goal.invariant-loop-b
invariant-loop-b l = Filling l.bs l.initial.out l.at l.out l.next l.b-index
