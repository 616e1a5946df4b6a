use Rattle.lookup.proofs.FindLaws.{Seeking}
use Rattle.lookup.proofs.Table.numbered.Given as goal

abbrev pub invariant-loop-k : goal.invariant-loop-k
invariant-loop-k l = Seeking l.tree l.self l.node l.n l.left l.k
