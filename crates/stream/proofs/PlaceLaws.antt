-- The form of a stream state: where it says that the reader stands, and the place put into it.
-- Assumes nothing.
use Prim.Native.Nat.{ℕ, ◌<◌, ◌≤◌}
use native.Mathlib.Omega.{arith}
use mathlib.Core.Path.{◌≡◌, refl, sym, ap, subst, ◌∙◌}
use mathlib.Core.Bool.{Bool, true, false, ◌&&◌, ◌||◌}
use mathlib.Core.List.{List}
use borrow.Author.Tests.{eq-eqb, ne_eqb, le-leb, lt-leb}
use lib.ListN.{length}
use lib.Dec.{eqb, leb}
use Rattle.protocol.specs.Numbers.{max_content}
use Rattle.stream.specs.declared.state.Phase.{Phase}
use Rattle.stream.specs.declared.state.Phase.TheVariants.{Outside, OutsideWaiting, Inside, InsideWaiting}
use Rattle.stream.specs.State.{state_length, phase_in, length_in, has_form}
use Rattle.stream.specs.Steps.{phase_number, most_of, place, Stands}

number_low : (p : Phase) → phase_number p ≤ 3
number_low Outside = omega arith
number_low OutsideWaiting = omega arith
number_low Inside = omega arith
number_low InsideWaiting = omega arith

pub most_low : (p : Phase) → most_of p ≤ max_content
most_low Outside = omega arith
most_low OutsideWaiting = omega arith
most_low Inside = omega arith
most_low InsideWaiting = omega arith

and-false : (t : Bool) → (t && false) ≡ false
and-false true = refl
and-false false = refl

module _ (st : List ℕ) where
  has_form_by : (t u v w x : Bool) → eqb (length st) state_length ≡ t → leb (phase_in st) 3 ≡ u → leb (length_in st) max_content ≡ v
      → leb 2 (phase_in st) ≡ w → eqb (length_in st) 0 ≡ x → has_form st ≡ (t && (u && (v && (w || x))))
  unfolding has_form
  has_form_by t u v w x p q r s e = rw (p, q, r, s, e)

  pub other_length : (length st ≡ state_length → ⊥) → has_form st ≡ false
  other_length h = has_form_by false _ _ _ _ (ne_eqb (length st) state_length h) refl refl refl refl

  pub other_phase : length st ≡ state_length → 3 < phase_in st → has_form st ≡ false
  other_phase l h =
      has_form_by true false _ _ _ (eq-eqb (length st) state_length l) (lt-leb (phase_in st) 3 h) refl refl refl

  -- Behind the tests on length and phase.
  module _ (l : length st ≡ state_length) (p : Phase) (e : phase_in st ≡ phase_number p) {len : ℕ} (f : len ≡ length_in st) where
    low : phase_in st ≤ 3
    low = subst (λ n. n ≤ 3) (sym e) (number_low p)

    form_by : (v : Bool) → leb len max_content ≡ v → has_form st ≡ (v && (leb 2 (phase_number p) || eqb len 0))
    form_by v g =
        has_form_by true true v _ _
        (eq-eqb (length st) state_length l)
        (le-leb (phase_in st) 3 low)
        (ap (λ n. leb n max_content) (sym f) ∙ g)
        (ap (leb 2) e)
        (ap (λ n. eqb n 0) (sym f))

    pub too_much : most_of p < len → has_form st ≡ false
    too_much h = go p form_by h
      where
        go : (p : Phase) → ((v : Bool) → leb len max_content ≡ v → has_form st ≡ (v && (leb 2 (phase_number p) || eqb len 0)))
            → most_of p < len
            → has_form st ≡ false
        go Outside by h = by (leb len max_content) refl ∙ ap (λ t. leb len max_content && t) (ne_eqb len 0 (λ q. omega (arith, q, h))) ∙ and-false (leb len max_content)
        go OutsideWaiting by h = by (leb len max_content) refl ∙ ap (λ t. leb len max_content && t) (ne_eqb len 0 (λ q. omega (arith, q, h))) ∙ and-false (leb len max_content)
        go Inside by h = by false (lt-leb len max_content h)
        go InsideWaiting by h = by false (lt-leb len max_content h)

    pub stands_at : len ≤ most_of p → Stands st (place p len)
    stands_at h = record { form = go p form_by h; phase = e; len = f }
      where
        go : (p : Phase) → ((v : Bool) → leb len max_content ≡ v → has_form st ≡ (v && (leb 2 (phase_number p) || eqb len 0)))
            → len ≤ most_of p
            → has_form st ≡ true
        go Outside by h = by true (le-leb len max_content (omega (arith, h))) ∙ eq-eqb len 0 (omega (arith, h))
        go OutsideWaiting by h = by true (le-leb len max_content (omega (arith, h))) ∙ eq-eqb len 0 (omega (arith, h))
        go Inside by h = by true (le-leb len max_content h)
        go InsideWaiting by h = by true (le-leb len max_content h)
