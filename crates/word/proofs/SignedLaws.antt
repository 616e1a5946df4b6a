-- A word as a signed integer.
-- Assumes nothing.
use Rattle.std.proofs.Common.{◌≡◌, ℕ, suc, ◌-◌, ◌^◌, ◌<◌, Bool, true, false, ltb, refl, ap, ◌∙◌, arith, ltb-true, ltb-false, le-leb, ℤ, to_z, of_z, w32}
use Rattle.std.proofs.lemmas.Bool.{lt-leb}
use Rattle.std.proofs.lemmas.Int.{of_z-to_z}
use Rattle.protocol.specs.Numbers.{word_end}
use Rattle.protocol.specs.Signed.{number_of, integer_of}

as_integer : (w : ℕ) → w < 2 ^ 32 → to_z w32 w ≡ integer_of (number_of true w)
unfolding integer_of number_of
as_integer w f = go (ltb w (2 ^ 31)) refl
  where
    go : (t : Bool) → ltb w (2 ^ 31) ≡ t → to_z w32 w ≡ integer_of (number_of true w)
    go true e = rw (e, lt-leb (2 ^ 31) w (ltb-true w (2 ^ 31) e))
    go false e =
        let next : word_end - w ≡ suc (2 ^ 32 - suc w) = omega (arith, f) in
        rw (e, le-leb (2 ^ 31) w (ltb-false w (2 ^ 31) e), next)

pub signed_is : (w : ℕ) {z : ℤ} → z ≡ to_z w32 w → w < 2 ^ 32 → to_z w32 (of_z w32 z) ≡ integer_of (number_of true w)
signed_is w e f = ap (λ z. to_z w32 (of_z w32 z)) e ∙ ap (to_z w32) (of_z-to_z w32 w f) ∙ as_integer w f
