use Rattle.protocol.specs.Tree.{Property}
use Rattle.std.proofs.Common.{Bool}
use Rattle.tree.specs.Seen.{seen}
use Rattle.tree.specs.Lookup.{TellsOf}
use Rattle.tree.proofs.NextLaws.{Passing}
use Rattle.tree.proofs.record.next_where.Given as goal

abbrev pub invariant-loop-k : goal.invariant-loop-k
invariant-loop-k g l = (test : Property → Bool) → TellsOf (goal.F-post g l.test) test → Passing test (seen l.tree) l.from l.k
