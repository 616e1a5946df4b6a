-- Answers that are there or not: a value that was found, and one that a test let through.
-- Assumes nothing.
use mathlib.Core.Path.{◌≡◌, refl}
use mathlib.Core.Bool.{Bool, true, false, cond}
use mathlib.Core.Option.{Option, none, some, none-ne-some}
use Rattle.std.proofs.Common.{Some, None}
use Rattle.protocol.specs.Refusal.{option_of}

-- A value that was found, and none.
pub found_at : {A : Type 0} (o : Option A) {x : A} → Some x ≡ option_of o → o ≡ some x
found_at none h = cc
found_at (some y) h = cc

pub found_none : {A : Type 0} (o : Option A) → None ≡ option_of o → o ≡ none
found_none none h = refl
found_none (some y) h = cc

-- An answer that is there only if a test passed.
pub if_some : {A : Type 0} (t : Bool) {o : Option A} {x : A} → cond t o none ≡ some x → (t ≡ true) × (o ≡ some x)
if_some true h = (refl, h)
if_some false h = absurd (none-ne-some _ h)
