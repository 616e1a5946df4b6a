use Rattle.protocol.specs.Text.{hex}
use Rattle.text.proofs.TextLaws.{Telling}
use Rattle.text.proofs.number.put_hex.Given as goal

abbrev pub invariant-loop-b : goal.invariant-loop-b
invariant-loop-b l = Telling hex l.bs l.initial.output l.output l.b-index
