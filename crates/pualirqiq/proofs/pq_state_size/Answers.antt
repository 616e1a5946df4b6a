-- `pualirqiq::pq_state_size` meets its contract. Assumes nothing.
use mathlib.Core.Path.{refl}
use Rattle.pualirqiq.proofs.pq_state_size.Goals as goal

pub returns : goal.returns
returns c = refl
