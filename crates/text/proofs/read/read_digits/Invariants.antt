use Rattle.text.proofs.ReadLaws.{Scanning}
use Rattle.text.proofs.read.read_digits.Given as goal

abbrev pub invariant-loop-len : goal.invariant-loop-len
invariant-loop-len l = Scanning l.bs l.number l.len
