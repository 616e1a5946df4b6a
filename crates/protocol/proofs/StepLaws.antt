-- 02, section 6: the table of steps, the distance of two words, and when a value is on its step.
-- Assumes nothing.
use Prim.Native.Nat.{ℕ, zero, suc, ◌+◌, ◌-◌, ◌*◌, ◌/◌, ◌%◌, ◌^◌, ◌<◌, ◌≤◌}
use native.Mathlib.Omega.{arith}
use native.Mathlib.Nat.{mod-one}
use mathlib.Core.Path.{◌≡◌, refl, sym, ap₂, ◌∙◌}
use mathlib.Core.Bool.{Bool, true, false, cond, ◌&&◌}
use mathlib.Core.List.{List, [], ◌∷◌, map}
use borrow.Author.Tests.{ltb-true, ltb-false, leb-true, leb-false, le-leb, lt-leb, eqb-true, eq-eqb, ne_eqb}
use lib.ListN.{length, get_or, get_or-eq_default}
use lib.Dec.{eqb, ltb, leb}
use lib.IntN.{pos, negsuc, nat_abs, sub_ℕ, ◌-ℤ◌}
use Rattle.protocol.specs.Numbers.{standard, enumeration, max_option, word_end, last_step_code}
use Rattle.protocol.specs.Bytes.{every, ordered, at_most}
use Rattle.protocol.specs.Tree.{Property, is_signed, step_code, enumeration_sound, kind_sound}
use Rattle.protocol.specs.Signed.{number_of, integer_of}
use Rattle.protocol.specs.Step.{steps, step_of, distance, step_start, on_step}
use Rattle.protocol.specs.Answer.{in_range, Outcome, saved, taken, out_of_range, off_step, outcome}
use Rattle.protocol.proofs.TestLaws.{and_left, every_at, every_place, place_at}

-- The rule of the table, by one test of all its entries: 1, 2, 5, and ten times as much for every three codes.
abbrev series : ℕ → ℕ
series code = get_or (1 ∷ 2 ∷ 5 ∷ []) (code % 3) 0 * 10 ^ (code / 3)

pub step_rule : (code : ℕ) → code ≤ last_step_code → step_of code ≡ series code
unfolding steps step_of every_place
step_rule code h =
    eqb-true (get_or steps code 1) (series code) (place_at (λ k x. eqb x (series k)) steps 1 refl code (omega (arith, h)))

-- A code that means none.
pub step_none : (code : ℕ) → last_step_code < code → step_of code ≡ 1
unfolding steps step_of
step_none code h = get_or-eq_default steps 1 h

-- No step is 0.
pub step_some : (code : ℕ) → 1 ≤ step_of code
unfolding steps step_of every
step_some code = ltb-true 0 (get_or steps code 1) (every_at (λ s. ltb 0 s) steps 1 refl refl code)

-- The distance of two integers.
abs_sub : (a b : ℕ) → nat_abs (sub_ℕ a b) ≡ (a - b) + (b - a)
abs_sub a b = go (ltb a b) refl
  where
    go : (t : Bool) → ltb a b ≡ t → nat_abs (cond t (negsuc (b - suc a)) (pos (a - b))) ≡ (a - b) + (b - a)
    go true e = let h = ltb-true a b e in omega (arith, h)
    go false e = let h = ltb-false a b e in omega (arith, h)

pos_pos : (n m : ℕ) → nat_abs (pos n -ℤ pos m) ≡ (n - m) + (m - n)
pos_pos n zero = omega arith
pos_pos n (suc m) = abs_sub n (suc m)

neg_pos : (a m : ℕ) → nat_abs (negsuc a -ℤ pos m) ≡ suc a + m
neg_pos a zero = abs_sub 0 (suc a) ∙ omega arith
neg_pos a (suc m) = omega arith

-- The integer of a signed word.
low_integer : (w : ℕ) → w < 2 ^ 31 → integer_of (number_of true w) ≡ pos w
unfolding integer_of number_of
low_integer w h = rw (lt-leb (2 ^ 31) w h)

high_integer : (w : ℕ) → w < word_end → 2 ^ 31 ≤ w → integer_of (number_of true w) ≡ negsuc (word_end - suc w)
unfolding integer_of number_of
high_integer w h k = let next : word_end - w ≡ suc (word_end - suc w) = omega (arith, h) in rw (le-leb (2 ^ 31) w k, next)

-- The distance is that of the words as they are compared.
abbrev apart : Bool → ℕ → ℕ → ℕ
apart signed m n = (ordered signed n - ordered signed m) + (ordered signed m - ordered signed n)

pub distance-ordered : (signed : Bool) (m n : ℕ) → m < word_end → n < word_end → distance signed m n ≡ apart signed m n
unfolding distance ordered integer_of number_of
distance-ordered false m n h k = pos_pos n m
distance-ordered true m n h k = go (leb (2 ^ 31) m) refl (leb (2 ^ 31) n) refl
  where
    go : (t : Bool) → leb (2 ^ 31) m ≡ t → (u : Bool) → leb (2 ^ 31) n ≡ u
        → nat_abs (integer_of (number_of true n) -ℤ integer_of (number_of true m)) ≡ apart true m n
    go false e false f =
        let a = leb-false (2 ^ 31) m e in
        let b = leb-false (2 ^ 31) n f in
        ap₂ (λ x y. nat_abs (x -ℤ y)) (low_integer n b) (low_integer m a) ∙ pos_pos n m ∙ omega (arith, a, b)
    go false e true f =
        let a = leb-false (2 ^ 31) m e in
        let b = leb-true (2 ^ 31) n f in
        ap₂ (λ x y. nat_abs (x -ℤ y)) (high_integer n k b) (low_integer m a) ∙ neg_pos (word_end - suc n) m ∙ omega (arith, a, b, k)
    go true e false f =
        let a = leb-true (2 ^ 31) m e in
        let b = leb-false (2 ^ 31) n f in
        ap₂ (λ x y. nat_abs (x -ℤ y)) (low_integer n b) (high_integer m h a) ∙ omega (arith, a, b, h)
    go true e true f =
        let a = leb-true (2 ^ 31) m e in
        let b = leb-true (2 ^ 31) n f in
        ap₂ (λ x y. nat_abs (x -ℤ y)) (high_integer n k b) (high_integer m h a)
        ∙ abs_sub (suc (word_end - suc m)) (suc (word_end - suc n))
        ∙ omega (arith, a, b, h, k)

-- Where min and max are both 0, min is what the distance is taken from there too.
start_min : (p : Property) → step_start p ≡ p.min
unfolding step_start
start_min p = go (eqb p.min 0 && eqb p.max 0) refl
  where
    go : (t : Bool) → (eqb p.min 0 && eqb p.max 0) ≡ t → cond t 0 p.min ≡ p.min
    go true e = sym (eqb-true p.min 0 (and_left (eqb p.min 0) _ e))
    go false e = refl

module _ (p : Property) (v : ℕ) where
  pub step-standard : p.kind ≡ standard → on_step p v ≡ eqb (distance (is_signed p) p.min v % step_of (step_code p)) 0
  unfolding on_step
  step-standard k = rw (eq-eqb p.kind standard k, start_min p)

  pub step_other : (p.kind ≡ standard → ⊥) → on_step p v ≡ true
  unfolding on_step
  step_other k = rw (ne_eqb p.kind standard k)

  -- With step 1 every value is on its step.
  pub step-one : (p.kind ≡ standard → step_code p ≡ 0) → on_step p v ≡ true
  unfolding on_step steps step_of
  step-one one = go (eqb p.kind standard) refl
    where
      go : (t : Bool) → eqb p.kind standard ≡ t
          → cond t (eqb (distance (is_signed p) (step_start p) v % step_of (step_code p)) 0) true ≡ true
      go true e =
          rw (one (eqb-true p.kind standard e)) (eq-eqb (distance (is_signed p) (step_start p) v % 1) 0 (mod-one (distance (is_signed p) (step_start p) v)))
      go false e = refl

-- Whatever the step code, type 2 is sound.
pub any_code : (p : Property) → p.kind ≡ enumeration → p.min ≡ 0 → p.max ≤ max_option → length p.options ≡ suc p.max → kind_sound p ≡ true
unfolding kind_sound enumeration_sound
any_code p k low high texts =
    rw (k, low, le-leb p.max max_option high) (eq-eqb (length p.options) (suc p.max) texts)

-- A property of type 1 with step 5, and what a write of each value does.
abbrev by_fives : ℕ → ℕ → ℕ → ℕ → Property
by_fives attribute format min max =
    record {
      node = 0;
      kind = standard;
      min = min;
      max = max;
      attribute = attribute;
      format = format;
      label = [];
      options = [] ∷ [];
    }

abbrev setting : ℕ
setting = 0x0003

abbrev action : ℕ
action = 0x0002

abbrev signed_fives : ℕ
signed_fives = 0x8200

abbrev plain_fives : ℕ
plain_fives = 0x0200

abbrev outcomes : Property → List ℕ → List Outcome
outcomes p vs = map (outcome p) vs

pub record Fives : Type 0 where
  -- 1 to 64: from 1 on; the largest is 61, and 66 is out of range before it is on the step
  pub ends : outcomes (by_fives setting plain_fives 1 64) (0 ∷ 1 ∷ 6 ∷ 7 ∷ 61 ∷ 64 ∷ 66 ∷ []) ≡ out_of_range ∷ saved ∷ saved ∷ off_step ∷ saved ∷ off_step ∷ out_of_range ∷ []
  -- -7 to 7: -7, -2 and 3; -5, 0 and 5 are none
  pub below_zero : outcomes (by_fives setting signed_fives 0xFFFFFFF9 7) (0xFFFFFFF9 ∷ 0xFFFFFFFE ∷ 3 ∷ 0xFFFFFFFB ∷ 0 ∷ 5 ∷ []) ≡ saved ∷ saved ∷ saved ∷ off_step ∷ off_step ∷ off_step ∷ []
  -- no range: FFFFFFF6h is -10 where it is signed, a multiple; where it is not it is none
  pub signed : outcomes (by_fives setting signed_fives 0 0) (0xFFFFFFF6 ∷ 10 ∷ 0 ∷ 7 ∷ 0xFFFFFFF5 ∷ []) ≡ saved ∷ saved ∷ saved ∷ off_step ∷ off_step ∷ []
  pub unsigned : outcomes (by_fives setting plain_fives 0 0) (0xFFFFFFF6 ∷ 0xFFFFFFFF ∷ 10 ∷ []) ≡ off_step ∷ saved ∷ saved ∷ []
  -- -2147483648 to 2147483647: the ends are 4294967295 apart, a multiple of 5
  pub widest : outcomes (by_fives setting signed_fives 0x80000000 0x7FFFFFFF) (0x7FFFFFFF ∷ 0x80000000 ∷ 0 ∷ []) ≡ saved ∷ saved ∷ off_step ∷ []
  -- an action takes any value
  pub actions : outcomes (by_fives action plain_fives 1 64) (1 ∷ 7 ∷ 66 ∷ []) ≡ taken ∷ taken ∷ taken ∷ []

pub fives : Fives
unfolding outcome in_range on_step steps step_of distance step_start at_most ordered number_of integer_of
fives = record { ends = refl; below_zero = refl; signed = refl; unsigned = refl; widest = refl; actions = refl }
