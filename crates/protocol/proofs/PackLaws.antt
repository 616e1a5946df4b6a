-- Shifts and masks as multiplication, division and remainder.
-- Assumes nothing.
use Prim.Native.Nat.{ℕ, ◌+◌, ◌-◌, ◌*◌, ◌/◌, ◌%◌, ◌^◌, ◌<◌}
use native.Mathlib.Omega.{arith}
use native.Mathlib.Nat.{mod-eq_of_lt, mul-add-div_right, mul-add-mod_self_right, div-eq_of_lt, add-zero}
use mathlib.Core.Path.{◌≡◌, ap, ◌∙◌}
use lib.Bits.{bit_and, bit_or, and_mask, and_high, or_shifted}

-- The one law of packing. `n & (2^k - 1)` is the lower k bits; `n & (2^(j+k) - 2^k)` is the next j bits where they stand; `hi << k | lo`, in
-- w bits, puts one field above another, and `>>` and `%` give both back. (`n >> k` is a division as it stands.)
pub record Packing : Type 0 where
  pub lower : (n k : ℕ) → bit_and n (2 ^ k - 1) ≡ n % 2 ^ k
  pub upper : (n j k : ℕ) → bit_and n (2 ^ (j + k) - 2 ^ k) ≡ n / 2 ^ k % 2 ^ j * 2 ^ k
  pub joined : (w k hi lo : ℕ) → hi * 2 ^ k < 2 ^ w → lo < 2 ^ k → bit_or ((hi * 2 ^ k) % 2 ^ w) lo ≡ hi * 2 ^ k + lo
  pub parted : (k hi lo : ℕ) → lo < 2 ^ k → ((hi * 2 ^ k + lo) / 2 ^ k ≡ hi) × ((hi * 2 ^ k + lo) % 2 ^ k ≡ lo)

pub packing : Packing
packing =
    record {
      lower = and_mask;
      upper = and_high;
      joined = λ w k hi lo h l. ap (λ n. bit_or n lo) (mod-eq_of_lt h) ∙ or_shifted hi k lo l;
      parted = λ k hi lo l. (
        mul-add-div_right (omega (arith, l)) hi lo ∙ ap (λ n. hi + n) (div-eq_of_lt l) ∙ add-zero hi,
        mul-add-mod_self_right hi (2 ^ k) lo ∙ mod-eq_of_lt l,
      );
    }
