use Rattle.tree.specs.Seen.{seen}
use Rattle.sheet.proofs.LinesLaws.{Checking}
use Rattle.sheet.proofs.read.check_lines.Given as goal

abbrev pub invariant-loop-k : goal.invariant-loop-k
invariant-loop-k l = Checking (seen l.tree) l.sheet l.in_range l.left l.k-iterator
