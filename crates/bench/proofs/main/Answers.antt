-- A state of zeros has a form.
use Rattle.std.proofs.Common.{refl}
use Rattle.stream.specs.State.{has_form}
use Rattle.bench.proofs.main.Goals as goal

pub read_all-requires : goal.read_all-requires
unfolding has_form
read_all-requires c = refl
