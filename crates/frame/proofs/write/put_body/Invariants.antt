use Rattle.frame.proofs.BodyLaws.{Writing}
use Rattle.frame.proofs.write.put_body.Given as goal

abbrev pub invariant-loop-b : goal.invariant-loop-b
invariant-loop-b l = Writing l.payload l.initial.out l.from l.address l.out l.at l.sum l.b-index
