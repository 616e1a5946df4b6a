use Rattle.protocol.specs.Text.{dotted_on}
use Rattle.text.proofs.TextLaws.{Telling}
use Rattle.text.proofs.number.put_dotted.Given as goal

abbrev pub invariant-loop-n : goal.invariant-loop-n
invariant-loop-n l = Telling dotted_on l.others l.initial.output l.output l.n-index
