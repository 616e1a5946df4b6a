use Rattle.tree.specs.Seen.{seen}
use Rattle.sheet.proofs.LabelLaws.{Writing}
use Rattle.sheet.proofs.label.are_writable.Given as goal

abbrev pub invariant-loop-k : goal.invariant-loop-k
invariant-loop-k l = Writing (seen l.tree) l.k-iterator
