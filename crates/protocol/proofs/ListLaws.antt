-- Lists of bytes: their parts, the numbers in them, and that parts of bytes are bytes.
-- Assumes nothing.
use Prim.Native.Nat.{ℕ, zero, suc, ◌+◌, ◌-◌, ◌*◌, ◌/◌, ◌%◌, ◌^◌, ◌<◌, ◌≤◌}
use native.Mathlib.Omega.{arith}
use native.Mathlib.Nat.{not-suc-le-zero, le_refl, div-div-eq-div-mul}
use native.Mathlib.Decide.{dec_lt}
use mathlib.Core.Path.{◌≡◌, sym, ap, subst, ◌∙◌}
use mathlib.Core.List.{List, [], ◌∷◌, ◌++◌}
use lib.ListN.{length, get_or, take, drop, take-append-drop, get_or-append, get_or-eq_default}
use lib.Seq.{take-suc, take-length, length-take-le, get_or-drop}
use Rattle.protocol.specs.Numbers.{byte_end, word_end}
use Rattle.protocol.specs.Bytes.{Bytes, half, word, number, number_after, sum}

-- How long a front part of a list is.
pub part_size : (k : ℕ) (l : List ℕ) → k ≤ length l → k ≡ length (take k l)
part_size k l h = sym (length-take-le k l h)

-- A list that is not empty is all but its last entry, and that entry.
pub init_last : (bs : List ℕ) → 1 ≤ length bs → bs ≡ take (length bs - 1) bs ++ get_or bs (length bs - 1) 0 ∷ []
init_last [] h = absurd (not-suc-le-zero h)
init_last (b ∷ bs) h =
    let n : length bs ≡ length (b ∷ bs) - 1 = omega arith in
    sym (take-length (b ∷ bs))
    ∙ take-suc (b ∷ bs) (length bs) 0 (le_refl (length (b ∷ bs)))
    ∙ ap (λ i. take i (b ∷ bs) ++ get_or (b ∷ bs) i 0 ∷ []) n

-- One byte more of a number that is divided by powers of 256.
digit : (n m : ℕ) → n / m / 2 ^ 8 ≡ n / (m * 2 ^ 8) → n / m ≡ n / (m * 2 ^ 8) * 2 ^ 8 + n / m % 2 ^ 8
digit n m e = omega (arith, e)

-- A word of 32 bits and its four bytes.
pub number_word : (n : ℕ) → n < word_end → number (word n) ≡ n
unfolding number_after word
number_word n h =
    let low : n / 2 ^ 8 ≡ n / 2 ^ 16 * 2 ^ 8 + n / 2 ^ 8 % 2 ^ 8 = digit n (2 ^ 8) (div-div-eq-div-mul n (2 ^ 8) (2 ^ 8)) in
    let high : n / 2 ^ 16 ≡ n / 2 ^ 24 * 2 ^ 8 + n / 2 ^ 16 % 2 ^ 8 =
    digit n (2 ^ 16) (div-div-eq-div-mul n (2 ^ 16) (2 ^ 8)) in
    let top : n / 2 ^ 24 % 2 ^ 8 ≡ n / 2 ^ 24 = omega arith in
    omega (arith, low, high, top)

-- Four bytes, and the word that they are.
word_bytes : (n : ℕ) {a b c d : ℕ} → n / 2 ^ 24 % 2 ^ 8 ≡ a → n / 2 ^ 16 % 2 ^ 8 ≡ b → n / 2 ^ 8 % 2 ^ 8 ≡ c → n % 2 ^ 8 ≡ d
    → word n ≡ a ∷ b ∷ c ∷ d ∷ []
unfolding word
word_bytes n e f g h = cc

pub word_number : (a b c d : ℕ) → a < byte_end → b < byte_end → c < byte_end → d < byte_end
    → word (number (a ∷ b ∷ c ∷ d ∷ [])) ≡ a ∷ b ∷ c ∷ d ∷ []
unfolding number_after
word_number a b c d p q r s = word_bytes (number (a ∷ b ∷ c ∷ d ∷ [])) (omega arith) (omega arith) (omega arith) (omega arith)

-- The same of a list of four bytes.
pub word_of_four : (bs : List ℕ) → length bs ≡ 4 → Bytes bs → word (number bs) ≡ bs
word_of_four [] h all = absurd (omega (arith, h))
word_of_four (a ∷ []) h all = absurd (omega (arith, h))
word_of_four (a ∷ b ∷ []) h all = absurd (omega (arith, h))
word_of_four (a ∷ b ∷ c ∷ []) h all = absurd (omega (arith, h))
word_of_four (a ∷ b ∷ c ∷ d ∷ []) h all = word_number a b c d (all 0) (all 1) (all 2) (all 3)
word_of_four (a ∷ b ∷ c ∷ d ∷ e ∷ bs) h all = absurd (omega (arith, h))

-- Parts of bytes are bytes.
pub bytes_drop : (n : ℕ) (bs : List ℕ) → Bytes bs → Bytes (drop n bs)
bytes_drop n bs all i = rw (get_or-drop n bs i 0) (all (n + i))

pub bytes_left : (x y : List ℕ) → Bytes (x ++ y) → Bytes x
bytes_left x y all i = go (dec_lt i (length x))
  where
    go : Dec (i < length x) → get_or x i 0 < byte_end
    go (yes h) = rw (get_or-append x y 0 i h) at (all i)
    go (no h) = rw (get_or-eq_default x 0 {n = i} (omega (arith, h))) (omega arith)

pub bytes_cons : (b : ℕ) (bs : List ℕ) → b < byte_end → Bytes bs → Bytes (b ∷ bs)
bytes_cons b bs h all zero = h
bytes_cons b bs h all (suc i) = all i

pub bytes_none : Bytes []
bytes_none i = omega arith

pub bytes_append : (x y : List ℕ) → Bytes x → Bytes y → Bytes (x ++ y)
bytes_append [] y p q = q
bytes_append (b ∷ x) y p q = bytes_cons b (x ++ y) (p 0) (bytes_append x y (λ i. p (suc i)) q)

pub bytes_take : (n : ℕ) (bs : List ℕ) → Bytes bs → Bytes (take n bs)
bytes_take n bs all = bytes_left (take n bs) (drop n bs) (subst Bytes (sym (take-append-drop n bs)) all)

-- A number of 16 bits is written as bytes.
pub half_bytes : (n : ℕ) → Bytes (half n)
unfolding half
half_bytes n zero = omega arith
half_bytes n (suc zero) = omega arith
half_bytes n (suc (suc i)) = omega arith

-- The sum with one byte more, mod 256.
pub sum_snoc : (bs : List ℕ) (b : ℕ) → sum (bs ++ b ∷ []) ≡ sum bs + b
unfolding sum
sum_snoc [] b = omega arith
sum_snoc (x ∷ bs) b = omega (arith, sum_snoc bs b)
