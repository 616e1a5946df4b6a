use Rattle.std.proofs.Common.{◌-◌, length}
use Rattle.frame.proofs.ReadLaws.{Scanning}
use Rattle.frame.proofs.read.scan_string.Given as goal

abbrev pub invariant-loop-i : goal.invariant-loop-i
invariant-loop-i l = Scanning l.s l.t l.i

abbrev pub decreases-loop-i : goal.decreases-loop-i
decreases-loop-i l = length l.s - l.i
