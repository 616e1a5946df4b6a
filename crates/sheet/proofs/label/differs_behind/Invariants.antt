use Rattle.tree.specs.Seen.{seen}
use Rattle.sheet.proofs.LabelLaws.{Differing}
use Rattle.sheet.proofs.label.differs_behind.Given as goal

abbrev pub invariant-loop-j : goal.invariant-loop-j
invariant-loop-j l = Differing (seen l.tree) l.s l.k l.j-iterator
