-- Numbers in bytes: read at a place and written again.
-- Assumes nothing.
use Prim.Native.Nat.{ℕ, zero, suc, ◌+◌, ◌/◌, ◌%◌, ◌^◌, ◌<◌, ◌≤◌}
use native.Mathlib.Omega.{arith}
use mathlib.Core.Path.{◌≡◌, refl, ap, ◌∙◌}
use mathlib.Core.List.{List, [], ◌∷◌}
use lib.ListN.{length, get_or, take, drop}
use lib.Seq.{drop-cons}
use Rattle.protocol.specs.Numbers.{byte_end, half_end}
use Rattle.protocol.specs.Bytes.{Bytes, half, word, number, number_after}
use Rattle.protocol.proofs.ListLaws.{word_number}
use Rattle.tree.specs.Seen.{half_at, word_at}
use Rattle.tree.specs.Steps.{entries}

-- Bytes from a place on, one by one.
pub take-entries : (n i : ℕ) (r : List ℕ) → i + n ≤ length r → take n (drop i r) ≡ entries i n r
unfolding entries
take-entries zero i r h = refl
take-entries (suc n) i r h =
    ap (take (suc n)) (drop-cons r i 0 (omega arith)) ∙ ap (λ l. get_or r i 0 ∷ l) (take-entries n (suc i) r (omega arith))

-- A number of 16 bits and its two bytes.
pub number-half : (n : ℕ) → n < half_end → number (half n) ≡ n
unfolding number_after half
number-half n h = omega arith

half_is : (n : ℕ) {a b : ℕ} → n / 2 ^ 8 % 2 ^ 8 ≡ a → n % 2 ^ 8 ≡ b → half n ≡ a ∷ b ∷ []
unfolding half
half_is n e f = cc

half-number : (a b : ℕ) → a < byte_end → b < byte_end → half (number (a ∷ b ∷ [])) ≡ a ∷ b ∷ []
unfolding number_after
half-number a b p q = half_is (number (a ∷ b ∷ [])) (omega arith) (omega arith)

-- Numbers read at a place, written again.
pub half_again : (i : ℕ) (r : List ℕ) → Bytes r → half (half_at i r) ≡ get_or r i 0 ∷ get_or r (i + 1) 0 ∷ []
unfolding half_at
half_again i r all = half-number (get_or r i 0) (get_or r (i + 1) 0) (all i) (all (i + 1))

pub word_again : (i : ℕ) (r : List ℕ) → Bytes r
    → word (word_at i r) ≡ get_or r i 0 ∷ get_or r (i + 1) 0 ∷ get_or r (i + 2) 0 ∷ get_or r (i + 3) 0 ∷ []
unfolding word_at
word_again i r all =
    word_number (get_or r i 0) (get_or r (i + 1) 0) (get_or r (i + 2) 0) (get_or r (i + 3) 0) (all i) (all (i + 1)) (all (i + 2)) (all (i + 3))

-- One of 16 bits fits its width.
pub half-fits : (i : ℕ) (r : List ℕ) → Bytes r → half_at i r < half_end
unfolding half_at number_after
half-fits i r all = omega (arith, all i, all (i + 1))
