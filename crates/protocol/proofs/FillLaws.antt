-- A text of any length written into lent room: refused, counted and found too long, or written.
-- Assumes nothing.
use Prim.Native.Nat.{ℕ, ◌<◌, ◌≤◌}
use native.Mathlib.Omega.{arith}
use mathlib.Core.Path.{◌≡◌, refl, sym, ap, subst, ◌∙◌}
use mathlib.Core.Bool.{Bool, true, false, cond}
use mathlib.Core.List.{List, [], ◌++◌}
use borrow.Author.Tests.{lt-ltb, le-ltb, eq-eqb, ne_eqb, eqb-true, eqb-false, ltb-true, ltb-false}
use lib.ListN.{length, take}
use lib.Dec.{eqb, ltb}
use Rattle.protocol.specs.Numbers.{done, no_room}
use Rattle.protocol.specs.Frame.{Received}
use Rattle.protocol.specs.Buffer.{over, farthest, Laid, text_number, Fills}
use Rattle.protocol.proofs.BufferLaws.{over_front}
use Rattle.protocol.proofs.LayLaws.{laid_none, laid_front}

module _ (what : Received) where
  pub text-refused : (room : ℕ) → (what.number ≡ done → ⊥) → text_number what room ≡ what.number
  unfolding text_number
  text-refused room e = rw (ne_eqb what.number done e)

  pub text_short : (room : ℕ) → what.number ≡ done → room < length what.payload → text_number what room ≡ no_room
  unfolding text_number
  text_short room e l = rw (eq-eqb what.number done e, lt-ltb room (length what.payload) l)

  pub text-done : (room : ℕ) → what.number ≡ done → length what.payload ≤ room → text_number what room ≡ done
  unfolding text_number
  text-done room e l = rw (eq-eqb what.number done e, le-ltb room (length what.payload) l)

module _ (what : Received) (old : List ℕ) where
  pub fills_refused : {n : ℕ} → n ≡ what.number → (n ≡ done → ⊥) → what.payload ≡ [] → Fills what old n 0 old
  fills_refused e f g =
      let n = text-refused what (length old) (λ d. f (e ∙ d)) in
      record {
        number = e ∙ sym n;
        len = ap length (sym g);
        bytes = sym (ap (λ b. cond b (over what.payload old) old) (ne_eqb _ done (λ d. f (e ∙ sym n ∙ d))));
      }

  module _ (e : what.number ≡ done) (room : length old < farthest) where
    -- Written where there is room.
    pub fills_whole : {end : ℕ} {new : List ℕ} → length what.payload ≤ length old → Laid 0 what.payload old end new → Fills what old done end new
    fills_whole fits w =
        let front = laid_front fits room w in
        let n = text-done what (length old) e fits in
        record { number = sym n; len = front.0; bytes = rw n front.1 }

    -- Counted with no room at all, which leaves the output.
    module _ {size : ℕ} {mid : List ℕ} (few : length what.payload < farthest) (counted : Laid 0 what.payload [] size mid) where
      same : mid ++ old ≡ old
      same = laid_none old counted

      pub fills_short : length (mid ++ old) < size → Fills what old no_room size (mid ++ old)
      fills_short l =
          let short : length old < length what.payload = omega (arith, counted.next, l, ap length same) in
          let n = text_short what (length old) e short in
          record { number = sym n; len = omega (arith, counted.next, few); bytes = rw n same }

      pub fits_counted : size ≤ length (mid ++ old) → length what.payload ≤ length (mid ++ old)
      fits_counted l = omega (arith, counted.next, l, ap length same, room)

      pub fills_counted : {n end : ℕ} {new : List ℕ} → Fills what (mid ++ old) n end new → Fills what old n end new
      fills_counted {n} {end} {new} l = subst (λ x. Fills what x n end new) same l

-- What such a call tells, number by number.
module _ (what : Received) (old : List ℕ) {len : ℕ} {new : List ℕ} where
  pub filled : {n : ℕ} → Fills what old n len new → n ≡ done → (what.number ≡ done) × (take len new ≡ what.payload)
  unfolding text_number
  filled f e = go (eqb what.number done) refl
    where
      is : text_number what (length old) ≡ done
      is = sym f.number ∙ e

      go : (b : Bool) → eqb what.number done ≡ b → (what.number ≡ done) × (take len new ≡ what.payload)
      go true b = (
        eqb-true what.number done b,
        over_front what.payload old f.len (f.bytes ∙ ap (λ c. cond c (over what.payload old) old) (eq-eqb _ done is)),
      )
      go false b = absurd (eqb-false what.number done b (sym (text-refused what (length old) (eqb-false what.number done b)) ∙ is))

  pub fills_kept : {n : ℕ} → Fills what old n len new → (n ≡ done → ⊥) → new ≡ old
  fills_kept f e = f.bytes ∙ ap (λ c. cond c (over what.payload old) old) (ne_eqb _ done (λ d. e (f.number ∙ d)))

  pub fills_other : {n : ℕ} → Fills what old n len new → (n ≡ done → ⊥) → (n ≡ no_room → ⊥) → n ≡ what.number
  unfolding text_number
  fills_other {n} f e g = go (eqb what.number done) refl (ltb (length old) (length what.payload)) refl
    where
      go : (b : Bool) → eqb what.number done ≡ b → (c : Bool) → ltb (length old) (length what.payload) ≡ c → n ≡ what.number
      go true b true c = absurd (g (f.number ∙ rw (b, c)))
      go true b false c = absurd (e (f.number ∙ rw (b, c)))
      go false b c d = f.number ∙ rw b

  pub fills_less : Fills what old no_room len new → (what.number ≡ no_room → ⊥) → length old < len
  unfolding text_number
  fills_less f e = go (eqb what.number done) refl (ltb (length old) (length what.payload)) refl
    where
      go : (b : Bool) → eqb what.number done ≡ b → (c : Bool) → ltb (length old) (length what.payload) ≡ c → length old < len
      go true b true c = omega (arith, f.len, ltb-true (length old) (length what.payload) c)
      go true b false c = let n : no_room ≡ done = f.number ∙ rw (b, c) in absurd (omega (arith, n))
      go false b c d = absurd (e (sym (f.number ∙ rw b)))

  pub fills_room : Fills what old done len new → len ≤ length old
  unfolding text_number
  fills_room f = go (eqb what.number done) refl (ltb (length old) (length what.payload)) refl
    where
      go : (b : Bool) → eqb what.number done ≡ b → (c : Bool) → ltb (length old) (length what.payload) ≡ c → len ≤ length old
      go true b true c = let n : done ≡ no_room = f.number ∙ rw (b, c) in absurd (omega (arith, n))
      go true b false c = omega (arith, f.len, ltb-false (length old) (length what.payload) c)
      go false b c d = absurd (eqb-false what.number done b (sym (f.number ∙ rw b)))
