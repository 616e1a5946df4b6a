-- Each turn of `read_all` leaves a state that has a form.
use Rattle.std.proofs.Common.{◌≡◌, true}
use Rattle.stream.specs.State.{has_form}
use Rattle.bench.proofs.read_all.Given as goal

abbrev pub invariant-loop : goal.invariant-loop
invariant-loop g l = has_form l.state ≡ true
