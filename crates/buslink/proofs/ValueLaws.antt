-- The value of a number as an integer: what is sent for it.
-- Assumes nothing.
use Prim.Native.Nat.{ℕ, zero, suc, ◌+◌, ◌-◌, ◌*◌, ◌^◌, ◌<◌, ◌≤◌}
use native.Mathlib.Omega.{arith}
use mathlib.Core.Path.{◌≡◌, refl, sym, ap, subst, ◌∙◌}
use mathlib.Core.Bool.{Bool, true, false, cond, ◌&&◌}
use borrow.Author.Tests.{eq-eqb, ne_eqb, ltb-true, ltb-false, le-leb, lt-leb, lt-ltb, le-ltb}
use lib.Dec.{eqb, ltb, leb}
use mir.Val.{SFits}
use Rattle.std.specs.Prelude.{Some, None}
use Rattle.std.proofs.Common.{ℤ, pos, neg_ℤ, ◌*ℤ◌, to_z, of_z, w32}
use Rattle.std.proofs.lemmas.Int.{ints, to_z-of_z}
use Rattle.std.specs.Int.Signed.{lt_z}
use Rattle.protocol.specs.Numbers.{word_end}
use Rattle.protocol.specs.Signed.{Number, number_of, integer_of, word_for}
use Rattle.buslink.specs.Indicator.{available, error, raw}
use Rattle.buslink.specs.Send.{scaled, fits, valued}
use Rattle.buslink.specs.Steps.{NumberIs, ValueIs}

-- Below zero there is a size.
abbrev pub Told : Number → Type 0
Told n = n.below ≡ true → 0 < n.size

pub number_told : (signed : Bool) (w : ℕ) → w < word_end → Told (number_of signed w)
unfolding number_of
number_told signed w h = go (signed && leb (2 ^ 31) w)
  where
    go : (t : Bool) → Told (cond t (record { below = true; size = word_end - w }) (record { below = false; size = w }))
    go true = λ e. omega (arith, h)
    go false = λ e. cc

pub scaled_told : (code : ℕ) (n : Number) → Told n → Told (scaled code n)
unfolding scaled
scaled_told code n h = go (eqb code raw)
  where
    go : (t : Bool) → Told (cond t n (record { below = n.below; size = n.size * 10 }))
    go true = h
    go false = λ e. omega (arith, h e)

-- The number of a word as an integer of 32 bits.
module _ (signed : Bool) (w : ℕ) where
  pub number_none : signed ≡ false → 2 ^ 31 ≤ w → NumberIs (number_of signed w) None
  unfolding number_of
  number_none e h = rw e (refl, h)

  pub number_some : (signed ≡ false → w < 2 ^ 31) → {z : ℤ} → z ≡ integer_of (number_of true w) → z ≡ integer_of (number_of signed w)
  unfolding number_of
  number_some h e = e ∙ ap integer_of (go signed h)
    where
      go : (t : Bool) → (t ≡ false → w < 2 ^ 31) → number_of true w ≡ number_of t w
      go true h = refl
      go false h = rw (lt-leb (2 ^ 31) w (h refl))

-- The value: the number, or ten times the number.
module _ (code : ℕ) (n : Number) where
  raw_scaled : code ≡ raw → scaled code n ≡ n
  unfolding scaled
  raw_scaled h = rw (eq-eqb code raw h)

  abbrev tenfold : Number
  tenfold = record { below = n.below; size = n.size * 10 }

  tenfold_scaled : (code ≡ raw → ⊥) → scaled code n ≡ tenfold
  unfolding scaled
  tenfold_scaled h = rw (ne_eqb code raw h)

  tenfold_integer : integer_of tenfold ≡ integer_of n *ℤ pos 10
  unfolding integer_of
  tenfold_integer = go n.below n.size
    where
      go : (t : Bool) (s : ℕ) → cond t (neg_ℤ (pos (s * 10))) (pos (s * 10)) ≡ cond t (neg_ℤ (pos s)) (pos s) *ℤ pos 10
      go true s = omega (arith, ints)
      go false s = omega (arith, ints)

-- Whether a value fits, by its size.
fits_below : (n : Number) → n.below ≡ true → 2 ^ 23 < n.size → fits n ≡ false
unfolding fits
fits_below n e h = rw e (lt-leb n.size (2 ^ 23) h)

fits_above : (n : Number) → n.below ≡ false → 2 ^ 23 ≤ n.size → fits n ≡ false
unfolding fits
fits_above n e h = rw e (le-ltb n.size (2 ^ 23) h)

fits_size : (n : Number) → (n.below ≡ true → n.size ≤ 2 ^ 23) → (n.below ≡ false → n.size < 2 ^ 23) → fits n ≡ true
unfolding fits
fits_size n = go n.below n.size
  where
    go : (t : Bool) (s : ℕ) → (t ≡ true → s ≤ 2 ^ 23) → (t ≡ false → s < 2 ^ 23) → cond t (leb s (2 ^ 23)) (ltb s (2 ^ 23)) ≡ true
    go true s a b = le-leb s (2 ^ 23) (a refl)
    go false s a b = lt-ltb s (2 ^ 23) (b refl)

fits_most : (m : ℕ) (n : Number) → (n.below ≡ true → n.size ≤ m) → (n.below ≡ false → n.size < suc m) → n.size ≤ m
fits_most m n = go n.below n.size
  where
    go : (t : Bool) (s : ℕ) → (t ≡ true → s ≤ m) → (t ≡ false → s < suc m) → s ≤ m
    go true s a b = a refl
    go false s a b = omega (arith, b refl)

-- An integer of 32 bits.
integer_fits : (n : Number) → n.size < 2 ^ 31 → SFits w32 (integer_of n)
unfolding integer_of
integer_fits n = go n.below n.size
  where
    go : (t : Bool) (s : ℕ) → s < 2 ^ 31 → SFits w32 (cond t (neg_ℤ (pos s)) (pos s))
    go true zero h = record { sfits = h }
    go true (suc s) h = record { sfits = omega (arith, h) }
    go false s h = record { sfits = h }

-- A number's size, by the tests of its integer.
module _ (n : Number) {z : ℤ} (is : z ≡ integer_of n) (b : ℕ) where
  size_under : lt_z z (neg_ℤ (pos (suc b))) ≡ true → (n.below ≡ true) × (suc b < n.size)
  unfolding integer_of
  size_under h = go n.below n.size (sym (ap (λ z. lt_z z (neg_ℤ (pos (suc b)))) is) ∙ h)
    where
      go : (t : Bool) (s : ℕ) → lt_z (cond t (neg_ℤ (pos s)) (pos s)) (neg_ℤ (pos (suc b))) ≡ true → (t ≡ true) × (suc b < s)
      go true zero a = absurd (cc)
      go true (suc s) a = (refl, omega (arith, ltb-true b s a))
      go false s a = absurd (cc)

  size_over : lt_z z (pos (suc b)) ≡ false → (n.below ≡ false) × (suc b ≤ n.size)
  unfolding integer_of
  size_over h = go n.below n.size (sym (ap (λ z. lt_z z (pos (suc b))) is) ∙ h)
    where
      go : (t : Bool) (s : ℕ) → lt_z (cond t (neg_ℤ (pos s)) (pos s)) (pos (suc b)) ≡ false → (t ≡ false) × (suc b ≤ s)
      go true zero a = absurd (omega (arith, ltb-false 0 (suc b) a))
      go true (suc s) a = absurd (cc)
      go false s a = (refl, omega (arith, ltb-false s (suc b) a))

  size_down : lt_z z (neg_ℤ (pos (suc b))) ≡ false → n.below ≡ true → n.size ≤ suc b
  unfolding integer_of
  size_down h = go n.below n.size (sym (ap (λ z. lt_z z (neg_ℤ (pos (suc b)))) is) ∙ h)
    where
      go : (t : Bool) (s : ℕ) → lt_z (cond t (neg_ℤ (pos s)) (pos s)) (neg_ℤ (pos (suc b))) ≡ false → t ≡ true → s ≤ suc b
      go true zero a e = omega arith
      go true (suc s) a e = omega (arith, ltb-false b s a)
      go false s a e = absurd (cc)

  size_up : lt_z z (pos (suc b)) ≡ true → n.below ≡ false → n.size < suc b
  unfolding integer_of
  size_up h = go n.below n.size (sym (ap (λ z. lt_z z (pos (suc b))) is) ∙ h)
    where
      go : (t : Bool) (s : ℕ) → lt_z (cond t (neg_ℤ (pos s)) (pos s)) (pos (suc b)) ≡ true → t ≡ false → s < suc b
      go true s a e = absurd (cc)
      go false s a e = ltb-true s (suc b) a

-- What the code makes of a number, by the tests of its integer.
module _ (code : ℕ) (n : Number) where
  pub value_large : NumberIs n None → ValueIs (scaled code n) None
  unfolding scaled
  value_large (e, h) = go (eqb code raw)
    where
      go : (t : Bool) → fits (cond t n (record { below = n.below; size = n.size * 10 })) ≡ false
      go true = fits_above n e (omega (arith, h))
      go false = fits_above (record { below = n.below; size = n.size * 10 }) e (omega (arith, h))

module _ (code : ℕ) (n : Number) {z : ℤ} (is : z ≡ integer_of n) where
  pub raw_under : code ≡ raw → lt_z z (neg_ℤ (pos 8388608)) ≡ true → ValueIs (scaled code n) None
  raw_under r h = let s = size_under n is 8388607 h in rw (raw_scaled code n r) (fits_below n s.0 (omega (arith, s.1)))

  pub raw_over : code ≡ raw → lt_z z (pos 8388608) ≡ false → ValueIs (scaled code n) None
  raw_over r h = let s = size_over n is 8388607 h in rw (raw_scaled code n r) (fits_above n s.0 (omega (arith, s.1)))

  pub raw_value : code ≡ raw → lt_z z (neg_ℤ (pos 8388608)) ≡ false → lt_z z (pos 8388608) ≡ true → ValueIs (scaled code n) (Some z)
  raw_value r low high = rw (raw_scaled code n r) (fits_size n (size_down n is 8388607 low) (size_up n is 8388607 high), is)

  pub tenfold_under : (code ≡ raw → ⊥) → lt_z z (neg_ℤ (pos 838860)) ≡ true → ValueIs (scaled code n) None
  tenfold_under r h = let s = size_under n is 838859 h in rw (tenfold_scaled code n r) (fits_below (tenfold code n) s.0 (omega (arith, s.1)))

  pub tenfold_over : (code ≡ raw → ⊥) → lt_z z (pos 838861) ≡ false → ValueIs (scaled code n) None
  tenfold_over r h = let s = size_over n is 838860 h in rw (tenfold_scaled code n r) (fits_above (tenfold code n) s.0 (omega (arith, s.1)))

  tenfold_fits : lt_z z (neg_ℤ (pos 838860)) ≡ false → lt_z z (pos 838861) ≡ true → SFits w32 (z *ℤ pos 10)
  tenfold_fits low high =
      subst (SFits w32) (tenfold_integer code n ∙ sym (ap (λ z. z *ℤ pos 10) is))
      (integer_fits (tenfold code n) (omega (arith, fits_most 838860 n (size_down n is 838859 low) (size_up n is 838860 high))))

  pub tenfold_value : (code ≡ raw → ⊥) → lt_z z (neg_ℤ (pos 838860)) ≡ false → lt_z z (pos 838861) ≡ true
      → ValueIs (scaled code n) (Some (to_z w32 (of_z w32 (z *ℤ pos 10))))
  tenfold_value r low high =
      rw (tenfold_scaled code n r) (
        fits_size (tenfold code n) (λ e. omega (arith, size_down n is 838859 low e)) (λ e. omega (arith, size_up n is 838860 high e)),
        to_z-of_z w32 (z *ℤ pos 10) (tenfold_fits low high) ∙ ap (λ z. z *ℤ pos 10) is ∙ sym (tenfold_integer code n),
      )

-- What is sent for a value.
word_is : (n : Number) → Told n → of_z w32 (integer_of n) ≡ word_for n
unfolding integer_of word_for
word_is n = go n.below n.size
  where
    go : (t : Bool) (s : ℕ) → (t ≡ true → 0 < s) → of_z w32 (cond t (neg_ℤ (pos s)) (pos s)) ≡ cond t (word_end - s) s
    go true zero h = absurd (omega (arith, h refl))
    go true (suc s) h = refl
    go false s h = refl

module _ (code : ℕ) (n : Number) where
  pub sent_value : Told n → {z : ℤ} → ValueIs n (Some z) → {v : ℕ} → v ≡ of_z w32 z → record { value = v; status = available; format = code } ≡ valued code n
  unfolding valued
  sent_value told (fit, is) e = rw (fit, e, is, word_is n told)

  pub sent_none : ValueIs n None → record { value = 0; status = available + error; format = code } ≡ valued code n
  unfolding valued
  sent_none beyond = rw beyond
