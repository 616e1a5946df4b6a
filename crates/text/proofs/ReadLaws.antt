-- Text read at the front of some bytes: a key byte by byte, digits one by one, and the number that they come to.
-- Assumes nothing.
use Prim.Native.Nat.{ℕ, suc, ◌+◌, ◌-◌, ◌*◌, ◌^◌, ◌<◌, ◌≤◌}
use native.Mathlib.Omega.{arith}
use native.Mathlib.Numerals.{add-one}
use native.Mathlib.Nat.{mod-eq_of_lt}
use native.Mathlib.Decide.{dec_le}
use mathlib.Core.Path.{◌≡◌, refl, sym, ap, ap₂, subst, ◌∙◌}
use mathlib.Core.Bool.{Bool, true, false, cond, not, ◌&&◌, and-false}
use mathlib.Core.List.{List, [], ◌∷◌}
use borrow.Author.Tests.{lt-ltb, le-ltb, ltb-true, ltb-false, le-leb, lt-leb, leb-true, eq-eqb, ne_eqb}
use lib.ListN.{length, get_or, take, drop, drop_of_length-le, get_or-eq_default}
use lib.Seq.{take-suc, drop-cons}
use lib.Dec.{eqb, ltb, leb}
use lib.Pointwise.{pointwise}
use Rattle.std.specs.Option.{is_some, unwrap_or}
use Rattle.std.proofs.Common.{Option, Some, None}
use Rattle.protocol.specs.Numbers.{word_end}
use Rattle.protocol.specs.Text.{begins}
use Rattle.protocol.specs.Signed.{Number, is_word, word_for, is_digit, digits_in, value_after, value, is_numeral, has_minus, is_number, number_in, number_size}
use Rattle.protocol.proofs.TestLaws.{leb_same}
use Rattle.protocol.proofs.DecimalLaws.{after-append}
use Rattle.protocol.proofs.SignedLaws.{value_above}
use Rattle.text.specs.Read.{in_word, Adds, at_most, negated, DigitsAre, Told, told_of, ToldIs, number}
use Rattle.text.specs.declared.read.Digits.{Digits}

-- A text in front of some bytes, as `starts_with` tells it.
pub starts_begins : (front bs : List ℕ) → pointwise eqb front (take (length front) bs) ≡ begins front bs
unfolding begins
starts_begins [] [] = refl
starts_begins [] (b ∷ bs) = refl
starts_begins (c ∷ front) [] = refl
starts_begins (c ∷ front) (b ∷ bs) = ap (λ t. eqb c b && t) (starts_begins front bs)

-- A number that is one of 32 bits, and one that is not.
pub word_fits : {n : ℕ} → n < word_end → in_word n ≡ Some n
word_fits {n} h = ap (λ b. cond b (Some n) None) (lt-ltb n word_end h)

word_beyond : {n : ℕ} → word_end ≤ n → in_word n ≡ None
word_beyond {n} h = ap (λ b. cond b (Some n) None) (le-ltb n word_end h)

-- The first i bytes are digits, and what follows decides how many there are.
pub record Scanning (bs : List ℕ) (number : Option ℕ) (i : ℕ) : Type 0 where
  pub within : i ≤ length bs
  pub count : digits_in bs ≡ i + digits_in (drop i bs)
  pub so_far : number ≡ in_word (value_after 0 (take i bs))

pub scan_begins : (bs : List ℕ) → Scanning bs (Some 0) 0
unfolding value_after
scan_begins bs = record { within = omega arith; count = omega arith; so_far = refl }

scan_stops : {bs : List ℕ} {m : Option ℕ} {i : ℕ} → Scanning bs m i → digits_in (drop i bs) ≡ 0 → DigitsAre bs (record { len = i; number = m })
scan_stops {bs} {m} {i} t e =
    let len : i ≡ digits_in bs = omega (arith, t.count, e) in
    record { len = len; number = subst (λ n. m ≡ in_word (value_after 0 (take n bs))) len t.so_far }

module _ {bs : List ℕ} {m : Option ℕ} {i : ℕ} (t : Scanning bs m i) (h : i < length bs) where
  scan_next : {b : Bool} → is_digit (get_or bs i 0) ≡ b → digits_in (drop i bs) ≡ cond b (suc (digits_in (drop (suc i) bs))) 0
  unfolding digits_in
  scan_next e = ap digits_in (drop-cons bs i 0 h) ∙ ap (λ b. cond b (suc (digits_in (drop (suc i) bs))) 0) e

  pub scan_other : is_digit (get_or bs i 0) ≡ false → DigitsAre bs (record { len = i; number = m })
  scan_other e = scan_stops t (scan_next e)

  pub scan_more : {r : Option ℕ} → is_digit (get_or bs i 0) ≡ true → Adds m (get_or bs i 0 - 48) r → Scanning bs r (i + 1)
  unfolding value_after
  scan_more {r} d k =
      let c : ℕ = get_or bs i 0 in
      let more : value_after 0 (take i bs) * 10 + (c - 48) ≡ value_after 0 (take (i + 1) bs) =
      sym
      (ap (λ n. value_after 0 (take n bs)) (add-one i)
      ∙ ap (value_after 0) (take-suc bs i 0 h)
      ∙ after-append 0 (take i bs) (c ∷ [])) in
      record {
        within = omega arith;
        count =
            t.count
            ∙ ap (λ n. i + n) (scan_next d)
            ∙ count_on i (digits_in (drop (suc i) bs))
            ∙ ap (λ n. i + 1 + digits_in (drop n bs)) (sym (add-one i));
        so_far = k (value_after 0 (take i bs)) t.so_far ∙ ap in_word more;
      }
    where
      count_on : (i n : ℕ) → i + suc n ≡ i + 1 + n
      count_on i n = omega arith

pub scan_ends : {bs : List ℕ} {m : Option ℕ} {i : ℕ} → Scanning bs m i → length bs ≤ i → DigitsAre bs (record { len = length bs; number = m })
unfolding digits_in
scan_ends {bs} {m} {i} t h =
    let e : i ≡ length bs = omega (arith, t.within, h) in
    subst (λ n. DigitsAre bs (record { len = n; number = m })) e (scan_stops t (ap digits_in (drop_of_length-le bs {i = i} h)))

-- Whether so many digits are a numeral, answer by answer.
module _ (bs : List ℕ) {len : ℕ} (e : len ≡ digits_in bs) where
  numeral_by : {some zero newline : Bool} → ltb 0 len ≡ some → eqb (get_or bs 0 0) 48 ≡ zero → eqb (get_or bs len 0) 10 ≡ newline
      → is_numeral bs ≡ (some && (not (zero && ltb 1 len) && newline))
  unfolding is_numeral
  numeral_by p q r = rw (← e, p, q, r)

  pub numeral_none : len ≡ 0 → false ≡ is_numeral bs
  numeral_none h = sym (numeral_by (le-ltb 0 len (omega (arith, h))) refl refl)

  pub numeral_other : (get_or bs len 0 ≡ 10 → ⊥) → false ≡ is_numeral bs
  numeral_other h =
      sym (numeral_by refl refl (ne_eqb (get_or bs len 0) 10 h)
      ∙ ap (λ t. ltb 0 len && t) (and-false (not (eqb (get_or bs 0 0) 48 && ltb 1 len)))
      ∙ and-false (ltb 0 len))

  pub numeral_open : length bs ≤ len → false ≡ is_numeral bs
  numeral_open h = numeral_other (λ z. omega (arith, z, get_or-eq_default bs 0 {n = len} h))

  pub numeral_first : (len ≡ 0 → ⊥) → get_or bs len 0 ≡ 10 → (get_or bs 0 0 ≡ 48 → ⊥) → true ≡ is_numeral bs
  numeral_first h k z =
      sym (numeral_by (lt-ltb 0 len (omega (arith, h))) (ne_eqb (get_or bs 0 0) 48 z) (eq-eqb (get_or bs len 0) 10 k))

  pub numeral_zero : (len ≡ 0 → ⊥) → get_or bs len 0 ≡ 10 → get_or bs 0 0 ≡ 48 → eqb len 1 ≡ is_numeral bs
  numeral_zero h k z =
      go (ltb 1 len) refl
      ∙ sym (numeral_by (lt-ltb 0 len (omega (arith, h))) (eq-eqb (get_or bs 0 0) 48 z) (eq-eqb (get_or bs len 0) 10 k))
    where
      go : (t : Bool) → ltb 1 len ≡ t → eqb len 1 ≡ (not (ltb 1 len) && true)
      go true l = rw l (ne_eqb len 1 (λ o. omega (arith, o, ltb-true 1 len l)))
      go false l = rw l (eq-eqb len 1 (omega (arith, h, ltb-false 1 len l)))

-- No number stands there.
pub told_none : {stands signed : Bool} {n : Number} {size : ℕ} → stands ≡ false → ToldIs stands signed n size (told_of None)
told_none {stands} {signed} {n} {size} e =
    record {
      is = sym e;
      fits = sym (ap (λ b. b && is_word signed n) e);
      word = sym (ap (λ b. cond (b && is_word signed n) (word_for n) 0) e);
      bytes = sym (ap (λ b. cond b size 0) e);
    }

-- One does.
module _ {stands signed : Bool} {n : Number} {size : ℕ} where
  told_some : {w : Option ℕ} {k : ℕ} → stands ≡ true → w ≡ cond (is_word signed n) (Some (word_for n)) None → k ≡ size
      → ToldIs stands signed n size (told_of (Some (record { word = w; size = k })))
  told_some {w} s e k =
      let on : (stands && is_word signed n) ≡ is_word signed n = ap (λ b. b && is_word signed n) s in
      record {
        is = sym s;
        fits = ap is_some e ∙ fits_if (is_word signed n) (word_for n) ∙ sym on;
        word = ap (λ o. unwrap_or o 0) e ∙ word_if (is_word signed n) (word_for n) ∙ sym (ap (λ b. cond b (word_for n) 0) on);
        bytes = k ∙ sym (ap (λ b. cond b size 0) s);
      }
    where
      fits_if : (b : Bool) (v : ℕ) → is_some {T = ℕ} (cond b (Some v) None) ≡ b
      fits_if true v = refl
      fits_if false v = refl

      word_if : (b : Bool) (v : ℕ) → unwrap_or {T = ℕ} (cond b (Some v) None) 0 ≡ cond b v 0
      word_if true v = refl
      word_if false v = refl

  module _ {r : Told} (t : ToldIs stands signed n size r) (h : r.is ≡ true) where
    pub told_fits : r.fits ≡ is_word signed n
    told_fits = t.fits ∙ ap (λ b. b && is_word signed n) (sym t.is ∙ h)

    pub told_word : r.fits ≡ true → r.word ≡ word_for n
    told_word f = t.word ∙ ap (λ b. cond b (word_for n) 0) (sym t.fits ∙ f)

    pub told_size : r.size ≡ size
    told_size = t.bytes ∙ ap (λ b. cond b size 0) (sym t.is ∙ h)

-- Behind a minus there is a 0.
pub minus_zero : (bs : List ℕ) → get_or bs 0 0 ≡ 48 → (is_numeral bs && not (eqb (get_or bs 0 0) 48)) ≡ false
minus_zero bs h = ap (λ t. is_numeral bs && not t) (eq-eqb (get_or bs 0 0) 48 h) ∙ and-false (is_numeral bs)

-- A number that was read, if it is at most a word, is one of those that are below the next.
most_is : (n most next : ℕ) → most + 1 ≡ next → next ≤ word_end → at_most (in_word n) most ≡ cond (ltb n next) (Some n) None
most_is n most next e h = go (dec_le next n)
  where
    go : Dec (next ≤ n) → at_most (in_word n) most ≡ cond (ltb n next) (Some n) None
    go (yes k) = past (dec_le word_end n) ∙ sym (ap (λ b. cond b (Some n) None) (le-ltb n next k))
      where
        past : Dec (word_end ≤ n) → at_most (in_word n) most ≡ None
        past (yes l) = ap (λ o. at_most o most) (word_beyond l)
        past (no l) =
            ap (λ o. at_most o most) (word_fits (omega (arith, l))) ∙ ap (λ b. cond b (Some n) None) (lt-leb n most (omega (arith, e, k)))
    go (no k) =
        ap (λ o. at_most o most) (word_fits (omega (arith, h, k)))
        ∙ ap (λ b. cond b (Some n) None) (le-leb n most (omega (arith, e, k)))
        ∙ sym (ap (λ b. cond b (Some n) None) (lt-ltb n next (omega (arith, k))))

-- A number with no sign, and one behind its minus.
word_most : (s : Bool) → cond s (2 ^ 31) word_end ≤ word_end
word_most true = omega arith
word_most false = omega arith

module _ (bs : List ℕ) (is : is_numeral bs ≡ true) {d : Digits} (read : DigitsAre bs d) where
  pub told_plain : {w : Option ℕ} (signed : Bool) (most : ℕ) → most + 1 ≡ cond signed (2 ^ 31) word_end → w ≡ at_most d.number most
      → ToldIs (is_numeral bs) signed (number false (value bs)) (1 + digits_in bs) (told_of (Some (record { word = w; size = d.len + 1 })))
  unfolding is_word word_for
  told_plain signed most e f =
      told_some is
      (f ∙ ap (λ o. at_most o most) read.number ∙ most_is (value bs) most (cond signed (2 ^ 31) word_end) e (word_most signed))
      (omega (arith, read.len))

  pub told_minus : {w : Option ℕ} → (get_or bs 0 0 ≡ 48 → ⊥) → w ≡ negated (at_most d.number (2 ^ 31))
      → ToldIs (is_numeral bs && not (eqb (get_or bs 0 0) 48)) true (number true (value bs)) (2 + digits_in bs)
      (told_of (Some (record { word = w; size = d.len + 2 })))
  unfolding is_word word_for
  told_minus z f =
      let n : ℕ = value bs in
      let first : eqb (get_or bs 0 0) 48 ≡ false = ne_eqb (get_or bs 0 0) 48 z in
      told_some (ap₂ (λ a b. a && not b) is first)
      (f
      ∙ ap (λ o. negated (at_most o (2 ^ 31))) read.number
      ∙ ap negated (most_is n (2 ^ 31) (2 ^ 31 + 1) refl (omega arith) ∙ ap (λ b. cond b (Some n) None) (sym (leb_ltb n (2 ^ 31))))
      ∙ below n (leb n (2 ^ 31)) refl (value_above bs is first))
      (omega (arith, read.len))
    where
      leb_ltb : (n k : ℕ) → leb n k ≡ ltb n (k + 1)
      leb_ltb n k = leb_same n k (suc n) (k + 1) (λ h. omega (arith, h)) (λ h. omega (arith, h))

      below : (n : ℕ) (b : Bool) → leb n (2 ^ 31) ≡ b → 0 < n
          → negated (cond b (Some n) None) ≡ cond b (Some (word_end - n)) None
      below n true l h = ap Some (mod-eq_of_lt (omega (arith, leb-true n (2 ^ 31) l, h)))
      below n false l h = refl

-- A number by its first byte.
pub number_none : (signed : Bool) (bs : List ℕ) → length bs ≡ 0 → is_number signed bs ≡ false
unfolding is_number is_numeral digits_in
number_none signed [] h = refl
number_none signed (b ∷ bs) h = absurd (omega (arith, h))

-- The byte and what is behind it.
module _ {bs rest : List ℕ} {b : ℕ} (e : bs ≡ b ∷ rest) (signed : Bool) where
  pub number_unsigned : signed ≡ false → b ≡ 45 → is_number signed bs ≡ false
  unfolding is_number
  number_unsigned h k = rw (e, k, h)

  pub number-plain : {r : Told} → (b ≡ 45 → ⊥) → ToldIs (is_numeral bs) signed (number false (value bs)) (1 + digits_in bs) r
      → ToldIs (is_number signed bs) signed (number_in bs) (number_size bs) r
  unfolding is_number number_in number_size
  number-plain n t = let f : has_minus bs ≡ false = ap has_minus e ∙ ne_eqb b 45 n in rw f t

  pub number_minus : {r : Told} → signed ≡ true → b ≡ 45
      → ToldIs (is_numeral rest && not (eqb (get_or rest 0 0) 48)) true (number true (value rest)) (2 + digits_in rest) r
      → ToldIs (is_number signed bs) signed (number_in bs) (number_size bs) r
  unfolding is_number number_in number_size
  number_minus h k t = rw (e, k, h) t
