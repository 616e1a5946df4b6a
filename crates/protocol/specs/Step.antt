-- 02, section 6: the steps of a property, and the values that are on its step.
use Rattle.std.specs.Prelude.{ℕ, ◌%◌, Bool, true, cond, ◌&&◌, List, [], ◌∷◌, get_or, eqb, nat_abs, ◌-ℤ◌}
use Rattle.protocol.specs.Numbers.{standard}
use Rattle.protocol.specs.Tree.{Property, is_signed, step_code}
use Rattle.protocol.specs.Signed.{number_of, integer_of}

-- What the codes 0 to 11 mean.
unfoldable pub steps : List ℕ
steps = 1 ∷ 2 ∷ 5 ∷ 10 ∷ 20 ∷ 50 ∷ 100 ∷ 200 ∷ 500 ∷ 1000 ∷ 2000 ∷ 5000 ∷ []

-- The step of a code. (The codes 12 to 15 mean none. In type 1 they break the tree, and no answer comes from the 1 given for them.)
unfoldable pub step_of : ℕ → ℕ
step_of code = get_or steps code 1

-- The distance of two words, signed or not: that of the two integers, so it goes up to 2^32 - 1 and is never taken modulo 2^32.
unfoldable pub distance : Bool → ℕ → ℕ → ℕ
distance signed m n = nat_abs (integer_of (number_of signed n) -ℤ integer_of (number_of signed m))

-- What the distance is taken from: min, or 0 where min and max are both 0.
unfoldable pub step_start : Property → ℕ
step_start p = cond (eqb p.min 0 && eqb p.max 0) 0 p.min

-- A value on its step: of type 1 the distance, signed as in the range rule, is a multiple of the step. Type 2 has no step.
unfoldable pub on_step : Property → ℕ → Bool
on_step p v =
    cond (eqb p.kind standard) (eqb (distance (is_signed p) (step_start p) v % step_of (step_code p)) 0) true
