-- Numbers with a sign: words and the numbers that they hold, and numbers written and read again.
-- Assumes nothing.
use Prim.Native.Nat.{ℕ, suc, ◌+◌, ◌-◌, ◌*◌, ◌/◌, ◌%◌, ◌^◌, ◌<◌, ◌≤◌}
use native.Mathlib.Omega.{arith}
use native.Mathlib.Decide.{dec_lt}
use mathlib.Core.Path.{◌≡◌, refl, sym, ap, ap₂, subst, ◌∙◌}
use mathlib.Core.Bool.{Bool, true, false, cond, not, ◌&&◌, false≢true, and-true, and-false}
use mathlib.Core.List.{List, [], ◌∷◌, ◌++◌, append_assoc, append-nil}
use borrow.Author.Tests.{lt-ltb, ltb-true, ltb-false, leb-true, leb-false, le-leb, lt-leb, eq-eqb, ne_eqb, eqb-true, eqb-false, not-true}
use lib.ListN.{length, get_or, take, drop, get_or-append, get_or-eq_default}
use lib.Seq.{length-take-le, get_or-take, split_at, take-append_seam, get_or-append_seam}
use lib.Dec.{eqb, leb, ltb}
use Rattle.protocol.specs.Numbers.{word_end}
use Rattle.protocol.specs.Bytes.{every}
use Rattle.protocol.specs.Text.{digit, decimal}
use Rattle.protocol.specs.Signed.{Number, number_of, numeral, is_told, is_word, word_for, is_digit, digits_in, value_after, value, is_numeral, has_minus, is_number, number_in, number_size}
use Rattle.protocol.proofs.TestLaws.{and_left, and_right, and_both}
use Rattle.protocol.proofs.DecimalLaws.{decimal_small, decimal_more, decimal-value, decimal_long, decimal_digits, decimal_size, by_digits}

abbrev number : Bool → ℕ → Number
number below size = record { below = below; size = size }

-- The number that a word holds, test by test.
plain_is : (w : ℕ) → number_of false w ≡ number false w
unfolding number_of
plain_is w = refl

low_is : (w : ℕ) → w < 2 ^ 31 → number_of true w ≡ number false w
unfolding number_of
low_is w h = rw (lt-leb (2 ^ 31) w h)

high_is : (w : ℕ) → 2 ^ 31 ≤ w → number_of true w ≡ number true (word_end - w)
unfolding number_of
high_is w h = rw (le-leb (2 ^ 31) w h)

-- What holds of the three, holds of every word.
by_word : (P : Bool → ℕ → Number → Type 0) → ((w : ℕ) → w < word_end → P false w (number false w))
    → ((w : ℕ) → w < 2 ^ 31 → P true w (number false w)) → ((w : ℕ) → w < word_end → 2 ^ 31 ≤ w → P true w (number true (word_end - w)))
    → (s : Bool) (w : ℕ) → w < word_end → P s w (number_of s w)
by_word P plain low high false w h = subst (P false w) (sym (plain_is w)) (plain w h)
by_word P plain low high true w h = go (leb (2 ^ 31) w) refl
  where
    go : (t : Bool) → leb (2 ^ 31) w ≡ t → P true w (number_of true w)
    go true e = let l = leb-true (2 ^ 31) w e in subst (P true w) (sym (high_is w l)) (high w h l)
    go false e = let l = leb-false (2 ^ 31) w e in subst (P true w) (sym (low_is w l)) (low w l)

-- Every word's number can be told, is one of 32 bits, and has that word.
pub word_told : (s : Bool) (w : ℕ) → w < word_end → is_told s (number_of s w) ≡ true
unfolding is_told
word_told = by_word (λ s w n. is_told s n ≡ true) (λ w h. refl) (λ w h. refl) (λ w h k. lt-ltb 0 (word_end - w) (omega (arith, h)))

pub word_fits : (s : Bool) (w : ℕ) → w < word_end → is_word s (number_of s w) ≡ true
unfolding is_word
word_fits =
    by_word (λ s w n. is_word s n ≡ true) (λ w h. lt-ltb w word_end h) (λ w h. lt-ltb w (2 ^ 31) h)
    (λ w h k. le-leb (word_end - w) (2 ^ 31) (omega (arith, k)))

pub word_back : (s : Bool) (w : ℕ) → w < word_end → word_for (number_of s w) ≡ w
unfolding word_for
word_back = by_word (λ s w n. word_for n ≡ w) (λ w h. refl) (λ w h. refl) (λ w h k. omega (arith, h))

-- Such a number is the one that its word holds.
pub told_back : (s : Bool) (n : Number) → is_told s n ≡ true → is_word s n ≡ true → number_of s (word_for n) ≡ n
unfolding is_told is_word word_for
told_back s n = go s n.below n.size
  where
    go : (s b : Bool) (m : ℕ) → is_told s (number b m) ≡ true → is_word s (number b m) ≡ true
        → number_of s (word_for (number b m)) ≡ number b m
    go false true m h k = absurd (false≢true h)
    go true true m h k =
        let l = leb-true m (2 ^ 31) k in
        high_is (word_end - m) (omega (arith, l)) ∙ ap (number true) (omega (arith, l))
    go false false m h k = plain_is m
    go true false m h k = low_is m (ltb-true m (2 ^ 31) k)

pub word_below : (s : Bool) (n : Number) → is_told s n ≡ true → is_word s n ≡ true → word_for n < word_end
unfolding is_told is_word word_for
word_below s n = go s n.below n.size
  where
    go : (s b : Bool) (m : ℕ) → is_told s (number b m) ≡ true → is_word s (number b m) ≡ true → word_for (number b m) < word_end
    go s true m h k = omega (arith, ltb-true 0 m (and_right s _ h))
    go false false m h k = ltb-true m word_end k
    go true false m h k = omega (arith, ltb-true m (2 ^ 31) k)

-- A word in decimal, with a minus sign only where it is signed and below zero.
pub plain-numeral : (s : Bool) (w : ℕ) → s ≡ false → numeral (number_of s w) ≡ decimal w
unfolding numeral
plain-numeral s w h = ap (λ t. numeral (number_of t w)) h ∙ ap numeral (plain_is w)

pub low_numeral : (s : Bool) (w : ℕ) → w < 2 ^ 31 → numeral (number_of s w) ≡ decimal w
unfolding numeral
low_numeral false w h = ap numeral (plain_is w)
low_numeral true w h = ap numeral (low_is w h)

pub high_numeral : (s : Bool) (w : ℕ) → s ≡ true → 2 ^ 31 ≤ w → numeral (number_of s w) ≡ 45 ∷ decimal (word_end - w)
unfolding numeral
high_numeral s w h k = ap (λ t. numeral (number_of t w)) h ∙ ap numeral (high_is w k)

pub numeral_longest : (s : Bool) (w : ℕ) → w < word_end → length (numeral (number_of s w)) ≤ 11
unfolding numeral
numeral_longest =
    by_word (λ s w n. length (numeral n) ≤ 11) (λ w h. omega (arith, decimal_size 9 w (omega (arith, h))))
    (λ w h. omega (arith, decimal_size 9 w (omega (arith, h))))
    (λ w h k. omega (arith, decimal_size 9 (word_end - w) (omega (arith, k))))

-- Digits in front of what is none: how many there are, and their number.
digits_front : (ds : List ℕ) (c : ℕ) (rest : List ℕ) → every is_digit ds ≡ true → is_digit c ≡ false
    → digits_in (ds ++ c ∷ rest) ≡ length ds
unfolding digits_in every
digits_front [] c rest h e = rw e
digits_front (d ∷ ds) c rest h e =
    rw (and_left (is_digit d) (every is_digit ds) h) (ap suc (digits_front ds c rest (and_right (is_digit d) (every is_digit ds) h) e))

value_front : (ds : List ℕ) (c : ℕ) (rest : List ℕ) → every is_digit ds ≡ true → is_digit c ≡ false
    → value (ds ++ c ∷ rest) ≡ value_after 0 ds
value_front ds c rest h e =
    ap (λ n. value_after 0 (take n (ds ++ c ∷ rest))) (digits_front ds c rest h e) ∙ ap (value_after 0) (take-append_seam ds (c ∷ rest))

-- The digits in front of some bytes are digits, and they are bytes of it.
digits_taken : (bs : List ℕ) → every is_digit (take (digits_in bs) bs) ≡ true
unfolding digits_in every
digits_taken [] = refl
digits_taken (c ∷ cs) = go (digits_taken cs) (is_digit c) refl
  where
    go : every is_digit (take (digits_in cs) cs) ≡ true → (t : Bool) → is_digit c ≡ t
        → every is_digit (take (cond t (suc (digits_in cs)) 0) (c ∷ cs)) ≡ true
    go h true e = and_both e h
    go h false e = refl

pub digits_inside : (bs : List ℕ) → digits_in bs ≤ length bs
unfolding digits_in
digits_inside [] = omega arith
digits_inside (c ∷ cs) = go (digits_inside cs) (is_digit c)
  where
    go : digits_in cs ≤ length cs → (t : Bool) → cond t (suc (digits_in cs)) 0 ≤ suc (length cs)
    go h true = omega (arith, h)
    go h false = omega arith

-- A character that is a digit.
digit_is : (c : ℕ) → is_digit c ≡ true → (48 ≤ c) × (c ≤ 57)
digit_is c h = (leb-true 48 c (and_left (leb 48 c) _ h), leb-true c 57 (and_right (leb 48 c) _ h))

-- Digits read behind a number other than 0 are the digits of both.
digits_behind : (n : ℕ) (cs : List ℕ) → 1 ≤ n → every is_digit cs ≡ true → decimal (value_after n cs) ≡ decimal n ++ cs
unfolding value_after every
digits_behind n [] h a = sym (append-nil (decimal n))
digits_behind n (c ∷ cs) h a =
    let d = digit_is c (and_left (is_digit c) _ a) in
    let m : ℕ = n * 10 + (c - 48) in
    let up : m / 10 ≡ n = omega (arith, d.0, d.1) in
    let down : digit (m % 10) ≡ c = omega (arith, d.0, d.1) in
    digits_behind m cs (omega (arith, h)) (and_right (is_digit c) _ a)
    ∙ ap (λ l. l ++ cs) (decimal_more m (omega (arith, h)) ∙ ap₂ (λ k e. decimal k ++ e ∷ []) up down)
    ∙ append_assoc (decimal n) (c ∷ []) cs

-- Digits without a leading zero are those of their number.
digits_decimal : (ds : List ℕ) → every is_digit ds ≡ true → 1 ≤ length ds → (eqb (get_or ds 0 0) 48 && ltb 1 (length ds)) ≡ false
    → decimal (value_after 0 ds) ≡ ds
unfolding value_after every
digits_decimal [] a h z = absurd (omega (arith, h))
digits_decimal (c ∷ []) a h z =
    let d = digit_is c (and_left (is_digit c) _ a) in
    let e : digit (0 * 10 + (c - 48)) ≡ c = omega (arith, d.0) in
    decimal_small (0 * 10 + (c - 48)) (omega (arith, d.1)) ∙ ap (λ k. k ∷ []) e
digits_decimal (c ∷ x ∷ cs) a h z =
    let d = digit_is c (and_left (is_digit c) _ a) in
    let e : digit (0 * 10 + (c - 48)) ≡ c = omega (arith, d.0) in
    let several : ltb 1 (length (c ∷ x ∷ cs)) ≡ true = lt-ltb 1 (length (c ∷ x ∷ cs)) (omega arith) in
    let n = eqb-false c 48 (sym (and-true (eqb c 48)) ∙ ap (λ t. eqb c 48 && t) (sym several) ∙ z) in
    digits_behind (0 * 10 + (c - 48)) (x ∷ cs) (omega (arith, d.0, n)) (and_right (is_digit c) _ a)
    ∙ ap (λ l. l ++ x ∷ cs) (decimal_small (0 * 10 + (c - 48)) (omega (arith, d.1)) ∙ ap (λ k. k ∷ []) e)

-- What a numeral is, part by part.
record Numeral (bs : List ℕ) : Type 0 where
  some : 1 ≤ digits_in bs
  first : (eqb (get_or bs 0 0) 48 && ltb 1 (digits_in bs)) ≡ false
  end : get_or bs (digits_in bs) 0 ≡ 10
  inside : digits_in bs < length bs

numeral_parts : (bs : List ℕ) → is_numeral bs ≡ true → Numeral bs
unfolding is_numeral
numeral_parts bs h =
    let later = and_right (ltb 0 (digits_in bs)) _ h in
    let end = eqb-true (get_or bs (digits_in bs) 0) 10 (and_right (not (eqb (get_or bs 0 0) 48 && ltb 1 (digits_in bs))) _ later) in
    record {
      some = ltb-true 0 (digits_in bs) (and_left (ltb 0 (digits_in bs)) _ h);
      first = not-true _ (and_left (not (eqb (get_or bs 0 0) 48 && ltb 1 (digits_in bs))) _ later);
      end = end;
      inside = go (dec_lt (digits_in bs) (length bs)) end;
    }
  where
    go : Dec (digits_in bs < length bs) → get_or bs (digits_in bs) 0 ≡ 10 → digits_in bs < length bs
    go (yes k) e = k
    go (no k) e = absurd (omega (arith, e, get_or-eq_default bs 0 {n = digits_in bs} (omega (arith, k))))

-- It is its number in decimal, and 0Ah.
numeral_stands : (bs : List ℕ) → is_numeral bs ≡ true → bs ≡ decimal (value bs) ++ 10 ∷ drop (suc (digits_in bs)) bs
numeral_stands bs h =
    let p = numeral_parts bs h in
    let n : ℕ = digits_in bs in
    let size : length (take n bs) ≡ n = length-take-le n bs (digits_inside bs) in
    let first : (eqb (get_or (take n bs) 0 0) 48 && ltb 1 (length (take n bs))) ≡ false =
    ap₂ (λ c k. eqb c 48 && ltb 1 k) (get_or-take n bs 0 0 p.some) size ∙ p.first in
    split_at bs n 0 p.inside
    ∙ ap₂ (λ ds c. ds ++ c ∷ drop (suc n) bs)
    (sym (digits_decimal (take n bs) (digits_taken bs) (omega (arith, size, p.some)) first))
    p.end

pub numeral_inside : (bs : List ℕ) → is_numeral bs ≡ true → digits_in bs < length bs
numeral_inside bs h = (numeral_parts bs h).inside

-- With a first digit other than 0 it is not 0.
after_most : (n : ℕ) (cs : List ℕ) → n ≤ value_after n cs
unfolding value_after
after_most n [] = omega arith
after_most n (c ∷ cs) = omega (arith, after_most (n * 10 + (c - 48)) cs)

value_some : (bs : List ℕ) → 1 ≤ digits_in bs → eqb (get_or bs 0 0) 48 ≡ false → 0 < value bs
unfolding digits_in value_after
value_some [] h z = absurd (omega (arith, h))
value_some (c ∷ cs) h z = go (is_digit c) refl h
  where
    go : (t : Bool) → is_digit c ≡ t → 1 ≤ cond t (suc (digits_in cs)) 0
        → 0 < value_after 0 (take (cond t (suc (digits_in cs)) 0) (c ∷ cs))
    go true e h =
        omega (arith, after_most (0 * 10 + (c - 48)) (take (digits_in cs) cs), (digit_is c e).0, eqb-false c 48 z)
    go false e h = absurd (omega (arith, h))

pub value_above : (bs : List ℕ) → is_numeral bs ≡ true → eqb (get_or bs 0 0) 48 ≡ false → 0 < value bs
value_above bs h z = value_some bs (numeral_parts bs h).some z

-- What holds of a numeral, and of one behind a minus, holds of every number read.
by_number : (P : Bool → List ℕ → Number → ℕ → Type 0)
    → ((s : Bool) (bs : List ℕ) → is_numeral bs ≡ true → P s bs (number false (value bs)) (1 + digits_in bs))
    → ((cs : List ℕ) → is_numeral cs ≡ true → eqb (get_or cs 0 0) 48 ≡ false
    → P true (45 ∷ cs) (number true (value cs)) (2 + digits_in cs))
    → (s : Bool) (bs : List ℕ) → is_number s bs ≡ true → P s bs (number_in bs) (number_size bs)
unfolding is_number number_in number_size is_numeral digits_in
by_number P plain minus s [] h = absurd (false≢true h)
by_number P plain minus s (b ∷ cs) h = go s (eqb b 45) refl h
  where
    go : (s t : Bool) → eqb b 45 ≡ t → cond t (s && (is_numeral cs && not (eqb (get_or cs 0 0) 48))) (is_numeral (b ∷ cs)) ≡ true
        → P s (b ∷ cs) (cond t (number true (value cs)) (number false (value (b ∷ cs))))
        (cond t (2 + digits_in cs) (1 + digits_in (b ∷ cs)))
    go false true e h = absurd (false≢true h)
    go true true e h =
        subst (λ c. P true (c ∷ cs) (number true (value cs)) (2 + digits_in cs)) (sym (eqb-true b 45 e))
        (minus cs (and_left (is_numeral cs) _ h) (not-true _ (and_right (is_numeral cs) _ h)))
    go s false e h = plain s (b ∷ cs) h

one_more : (n : ℕ) → suc n ≡ 1 + n
one_more n = omega arith

two_more : (n : ℕ) → suc (suc n) ≡ 2 + n
two_more n = omega arith

-- A number that stands there is its text and 0Ah, it can be told, and it lies within the bytes.
pub number_stands : (s : Bool) (bs : List ℕ) → is_number s bs ≡ true → bs ≡ numeral (number_in bs) ++ (10 ∷ drop (number_size bs) bs)
unfolding numeral
number_stands =
    by_number (λ s bs n k. bs ≡ numeral n ++ (10 ∷ drop k bs))
    (λ s bs h. numeral_stands bs h ∙ ap (λ k. decimal (value bs) ++ (10 ∷ drop k bs)) (one_more (digits_in bs)))
    (λ cs h z.
    ap (λ l. 45 ∷ l) (numeral_stands cs h)
    ∙ ap (λ k. 45 ∷ (decimal (value cs) ++ (10 ∷ drop k (45 ∷ cs)))) (two_more (digits_in cs)))

pub number_told : (s : Bool) (bs : List ℕ) → is_number s bs ≡ true → is_told s (number_in bs) ≡ true
unfolding is_told
number_told =
    by_number (λ s bs n k. is_told s n ≡ true) (λ s bs h. refl)
    (λ cs h z. lt-ltb 0 (value cs) (value_above cs h z))

pub number_inside : (s : Bool) (bs : List ℕ) → is_number s bs ≡ true → number_size bs ≤ length bs
number_inside =
    by_number (λ s bs n k. k ≤ length bs) (λ s bs h. omega (arith, numeral_inside bs h))
    (λ cs h z. omega (arith, numeral_inside cs h))

-- The first character of a number in decimal: a digit, and no 0 but of 0 itself.
head_digit : (ds : List ℕ) → every is_digit ds ≡ true → 1 ≤ length ds → is_digit (get_or ds 0 0) ≡ true
unfolding every
head_digit [] a h = absurd (omega (arith, h))
head_digit (d ∷ ds) a h = and_left (is_digit d) _ a

head_above : (n : ℕ) → 1 ≤ n → eqb (get_or (decimal n) 0 0) 48 ≡ false
head_above n =
    by_digits (λ m s. 1 ≤ m → eqb (get_or s 0 0) 48 ≡ false) (λ m h k. ne_eqb (digit m) 48 (λ e. omega (arith, e, k)))
    (λ m h on k.
    ap (λ c. eqb c 48) (get_or-append (decimal (m / 10)) (digit (m % 10) ∷ []) 0 0 (decimal_long (m / 10)))
    ∙ on (omega (arith, h)))
    n

-- A number in decimal with 0Ah behind it.
module _ (n : ℕ) (rest : List ℕ) where
  abbrev ended : List ℕ
  ended = decimal n ++ (10 ∷ rest)

  ended_head : get_or ended 0 0 ≡ get_or (decimal n) 0 0
  ended_head = get_or-append (decimal n) (10 ∷ rest) 0 0 (decimal_long n)

  ended-plain : has_minus ended ≡ false
  ended-plain =
      let d = digit_is (get_or (decimal n) 0 0) (head_digit (decimal n) (decimal_digits n) (decimal_long n)) in
      ne_eqb (get_or ended 0 0) 45 (λ e. omega (arith, e, ended_head, d.0))

  ended_digits : digits_in ended ≡ length (decimal n)
  ended_digits = digits_front (decimal n) 10 rest (decimal_digits n) refl

  ended-value : value ended ≡ n
  ended-value = value_front (decimal n) 10 rest (decimal_digits n) refl ∙ decimal-value n

  ended_first : (eqb (get_or ended 0 0) 48 && ltb 1 (length (decimal n))) ≡ false
  ended_first = go (ltb n 10) refl
    where
      go : (t : Bool) → ltb n 10 ≡ t → (eqb (get_or ended 0 0) 48 && ltb 1 (length (decimal n))) ≡ false
      go true e =
          ap (λ k. eqb (get_or ended 0 0) 48 && ltb 1 k) (ap length (decimal_small n (ltb-true n 10 e)))
          ∙ and-false (eqb (get_or ended 0 0) 48)
      go false e =
          ap (λ t. t && ltb 1 (length (decimal n))) (ap (λ c. eqb c 48) ended_head ∙ head_above n (omega (arith, ltb-false n 10 e)))

  ended-numeral : is_numeral ended ≡ true
  unfolding is_numeral
  ended-numeral =
      rw ended_digits
      (and_both (lt-ltb 0 (length (decimal n)) (decimal_long n))
      (and_both (ap not ended_first) (eq-eqb (get_or ended (length (decimal n)) 0) 10 (get_or-append_seam (decimal n) 10 rest 0))))

-- A number that can be told, with 0Ah behind it, is read again.
record Again (s : Bool) (n : Number) (bs : List ℕ) : Type 0 where
  is : is_number s bs ≡ true
  found : number_in bs ≡ n
  size : number_size bs ≡ suc (length (numeral n))

again : (s : Bool) (n : Number) (rest : List ℕ) → is_told s n ≡ true → Again s n (numeral n ++ (10 ∷ rest))
unfolding is_told numeral is_number number_in number_size
again s n rest = go s n.below n.size
  where
    go : (s b : Bool) (m : ℕ) → is_told s (number b m) ≡ true → Again s (number b m) (numeral (number b m) ++ (10 ∷ rest))
    go s false m h =
        record {
          is = rw (ended-plain m rest) (ended-numeral m rest);
          found = rw (ended-plain m rest) (ap (number false) (ended-value m rest));
          size = rw (ended-plain m rest) (omega (arith, ended_digits m rest));
        }
    go false true m h = absurd (false≢true h)
    go true true m h =
        record {
          is = and_both (ended-numeral m rest) (ap not (ap (λ c. eqb c 48) (ended_head m rest) ∙ head_above m (ltb-true 0 m h)));
          found = ap (number true) (ended-value m rest);
          size = omega (arith, ended_digits m rest);
        }

pub number_read : (s : Bool) (n : Number) (rest : List ℕ) → is_told s n ≡ true → is_number s (numeral n ++ (10 ∷ rest)) ≡ true
number_read s n rest h = (again s n rest h).is

pub number-found : (s : Bool) (n : Number) (rest : List ℕ) → is_told s n ≡ true → number_in (numeral n ++ (10 ∷ rest)) ≡ n
number-found s n rest h = (again s n rest h).found

pub number-length : (s : Bool) (n : Number) (rest : List ℕ) → is_told s n ≡ true
    → number_size (numeral n ++ (10 ∷ rest)) ≡ suc (length (numeral n))
number-length s n rest h = (again s n rest h).size
