-- Two steps, the second from where the first ended.
-- Assumes nothing.
use Prim.Native.Nat.{ℕ}
use mathlib.Core.Path.{◌≡◌, refl}
use mathlib.Core.Option.{Option, none, some, none-ne-some}
use Rattle.soundness.specs.Check.{and_then}

pub then_some : {o : Option ℕ} (f : ℕ → Option ℕ) {n : ℕ} → o ≡ some n → and_then o f ≡ f n
unfolding and_then
then_some f e = rw e

pub then_back : (o : Option ℕ) (f : ℕ → Option ℕ) {end : ℕ} → and_then o f ≡ some end → (n : ℕ) × ((o ≡ some n) × (f n ≡ some end))
unfolding and_then
then_back none f h = absurd (none-ne-some _ h)
then_back (some n) f h = (n, (refl, h))
