-- `show_all` ends, and each turn leaves a state that has a form.
use Rattle.std.proofs.Common.{◌≡◌, true, length}
use Rattle.stream.specs.State.{has_form}
use Rattle.bench.proofs.show_all.Given as goal

abbrev pub invariant-loop-rest : goal.invariant-loop-rest
invariant-loop-rest g l = has_form l.state ≡ true

abbrev pub decreases-loop-rest : goal.decreases-loop-rest
decreases-loop-rest g l = length l.rest
