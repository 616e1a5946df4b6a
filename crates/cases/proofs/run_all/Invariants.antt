-- `run_all` ends: each case leaves less of the text.
use Rattle.std.proofs.Common.{length}
use Rattle.cases.proofs.run_all.Given as goal

abbrev pub decreases-loop-left : goal.decreases-loop-left
decreases-loop-left g l = length l.left
