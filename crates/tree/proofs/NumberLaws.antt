-- Numbers read at a place of bytes.
-- Assumes nothing.
use Prim.Native.Nat.{ℕ, zero, suc, ◌+◌, ◌<◌, ◌≤◌}
use native.Mathlib.Omega.{arith}
use native.Mathlib.Nat.{add_assoc, add-zero, not-suc-le-zero}
use mathlib.Core.Path.{◌≡◌, refl, sym, ap, ap₂, ◌∙◌}
use mathlib.Core.List.{List, [], ◌∷◌}
use lib.ListN.{length, get_or, drop, get_or-eq_default}
use lib.Seq.{get_or-drop}
use Rattle.protocol.specs.Numbers.{word_end}
use Rattle.protocol.specs.Bytes.{Bytes, word, number, number_after}
use Rattle.tree.specs.Seen.{half_at, word_at}
use Rattle.tree.specs.Steps.{entries}

-- A number of 32 bits is written as bytes.
pub word_bytes : (n : ℕ) → Bytes (word n)
unfolding word
word_bytes n zero = omega arith
word_bytes n (suc zero) = omega arith
word_bytes n (suc (suc zero)) = omega arith
word_bytes n (suc (suc (suc zero))) = omega arith
word_bytes n (suc (suc (suc (suc i)))) = omega arith

-- So many bytes from a place on, one by one.
pub entries_at : (n i : ℕ) (r : List ℕ) (k : ℕ) → k < n → get_or (entries i n r) k 0 ≡ get_or r (i + k) 0
unfolding entries
entries_at zero i r k h = absurd (not-suc-le-zero h)
entries_at (suc n) i r zero h = ap (λ m. get_or r m 0) (sym (add-zero i))
entries_at (suc n) i r (suc k) h =
    let m : suc i + k ≡ i + suc k = omega arith in
    entries_at n (suc i) r k (omega arith) ∙ ap (λ m. get_or r m 0) m

pub entries_alike : (n i : ℕ) (r l : List ℕ) → length l ≡ n → ((k : ℕ) → k < n → get_or l k 0 ≡ get_or r (i + k) 0) → l ≡ entries i n r
unfolding entries
entries_alike zero i r [] h e = refl
entries_alike zero i r (x ∷ l) h e = absurd (omega (arith, h))
entries_alike (suc n) i r [] h e = absurd (omega (arith, h))
entries_alike (suc n) i r (x ∷ l) h e =
    let first : x ≡ get_or r i 0 = e 0 (omega arith) ∙ ap (λ m. get_or r m 0) (add-zero i) in
    let next : (k : ℕ) → k < n → get_or l k 0 ≡ get_or r (suc i + k) 0 =
    λ k p. let m : i + suc k ≡ suc i + k = omega arith in e (suc k) (omega (arith, p)) ∙ ap (λ m. get_or r m 0) m in
    ap₂ (λ y t. y ∷ t) first (entries_alike n (suc i) r l (omega (arith, h)) next)

-- A number of 32 bits that is read fits its width.
pub word_fits : (i : ℕ) (r : List ℕ) → Bytes r → word_at i r < word_end
unfolding word_at number_after
word_fits i r all = omega (arith, all i, all (i + 1), all (i + 2), all (i + 3))

-- A number past the end is 0.
pub half_past : (i : ℕ) (r : List ℕ) → length r ≤ i → 0 ≡ half_at i r
unfolding half_at number_after
half_past i r h =
    sym (ap₂ (λ a b. number (a ∷ b ∷ [])) (get_or-eq_default r 0 {n = i} h) (get_or-eq_default r 0 {n = i + 1} (omega arith)))

-- Numbers behind a place.
module _ (n : ℕ) (bs : List ℕ) (i : ℕ) where
  byte_behind : (k : ℕ) → get_or (drop n bs) (i + k) 0 ≡ get_or bs (n + i + k) 0
  byte_behind k = get_or-drop n bs (i + k) 0 ∙ ap (λ m. get_or bs m 0) (sym (add_assoc n i k))

  pub half_behind : half_at i (drop n bs) ≡ half_at (n + i) bs
  unfolding half_at
  half_behind = ap₂ (λ a b. number (a ∷ b ∷ [])) (get_or-drop n bs i 0) (byte_behind 1)

  pub word_behind : word_at i (drop n bs) ≡ word_at (n + i) bs
  unfolding word_at
  word_behind =
      ap₂ (λ a b. number (a ∷ b ∷ get_or (drop n bs) (i + 2) 0 ∷ get_or (drop n bs) (i + 3) 0 ∷ [])) (get_or-drop n bs i 0) (byte_behind 1)
      ∙ ap₂ (λ c d. number (get_or bs (n + i) 0 ∷ get_or bs (n + i + 1) 0 ∷ c ∷ d ∷ [])) (byte_behind 2) (byte_behind 3)
