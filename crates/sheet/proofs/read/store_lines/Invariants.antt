use Rattle.tree.specs.Seen.{seen}
use Rattle.sheet.proofs.LinesLaws.{Storing}
use Rattle.sheet.proofs.read.store_lines.Given as goal

abbrev pub invariant-loop-k : goal.invariant-loop-k
invariant-loop-k l = Storing (seen l.tree) l.sheet l.initial.cells l.cells l.left l.k-iterator
