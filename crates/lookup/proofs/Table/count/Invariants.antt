use Rattle.lookup.proofs.FindLaws.{Counting}
use Rattle.lookup.proofs.Table.count.Given as goal

abbrev pub invariant-loop-k : goal.invariant-loop-k
invariant-loop-k l = Counting l.tree l.self l.node l.n l.k
