-- Bytes laid as far as there is room: one behind the other, counted only, and at the front of an output.
-- Assumes nothing.
use Prim.Native.Nat.{ℕ, suc, ◌+◌, ◌-◌, ◌<◌, ◌≤◌, min}
use native.Mathlib.Omega.{arith}
use native.Mathlib.Nat.{add-zero, add-suc, suc-add}
use native.Mathlib.Decide.{dec_le}
use mathlib.Core.Path.{◌≡◌, refl, sym, ap, ap₂, subst, ◌∙◌}
use mathlib.Core.List.{List, [], ◌∷◌, ◌++◌, append_assoc}
use lib.ListN.{length, take, drop, set, length-append, length-take, take-append-drop, drop_of_length-le}
use lib.Seq.{sets-eq, set_out, length-sets}
use Rattle.protocol.specs.Buffer.{put_at, over, fitting, Put, lay, farthest, Laid}
use Rattle.protocol.proofs.BufferLaws.{put_nil, over_put, no_room_lem}

-- Two lists, one behind the other.
lay_join : (at : ℕ) (ys zs xs : List ℕ) → lay (at + length ys) zs (lay at ys xs) ≡ lay at (ys ++ zs) xs
unfolding lay
lay_join at [] zs xs = ap (λ n. lay n zs xs) (add-zero at)
lay_join at (y ∷ ys) zs xs =
    ap (λ n. lay n zs (lay (suc at) ys (set xs at y))) (add-suc at (length ys) ∙ sym (suc-add at (length ys)))
    ∙ lay_join (suc at) ys zs (set xs at y)

lay_nil : (at : ℕ) (xs : List ℕ) → lay at [] xs ≡ xs
unfolding lay
lay_nil at xs = refl

-- Past the end of the buffer nothing is stored.
lay_past : (at : ℕ) (ys xs : List ℕ) → length xs ≤ at → lay at ys xs ≡ xs
unfolding lay
lay_past at [] xs h = refl
lay_past at (y ∷ ys) xs h = ap (lay (suc at) ys) (set_out xs at y h) ∙ lay_past (suc at) ys xs (omega (arith, h))

-- Where there is room for all, they are put.
pub lay-fits : (at : ℕ) (ys xs : List ℕ) → at + length ys ≤ length xs → lay at ys xs ≡ put_at at ys xs
unfolding lay put_at
lay-fits at ys xs h = sets-eq ys xs at h ∙ append_assoc (take at xs) ys (drop (at + length ys) xs)

-- A buffer of that many bytes keeps its length.
length-lay : (at : ℕ) (ys xs : List ℕ) → length (lay at ys xs) ≡ length xs
unfolding lay
length-lay at ys xs = length-sets xs at ys

pub laid_same : {at r : ℕ} {ys old new : List ℕ} → Laid at ys old r new → length new ≡ length old
laid_same {at} {ys = ys} {old = old} p = ap length p.bytes ∙ length-lay at ys old

-- Nothing laid.
pub laid_nil : {at r : ℕ} (old : List ℕ) → r ≡ min farthest (at + 0) → Laid at [] old r old
unfolding lay
laid_nil old e = record { next = e; bytes = refl }

-- What was laid, for what it is.
pub laid_as : {at r : ℕ} {ys zs old new : List ℕ} → ys ≡ zs → Laid at ys old r new → Laid at zs old r new
laid_as {at} {r} {old = old} {new = new} e p = subst (λ l. Laid at l old r new) e p

-- A helper's bytes behind those of another.
pub laid_join : {at r r' : ℕ} {ys zs old mid new : List ℕ} → length old < farthest → Laid at ys old r mid → Laid r zs mid r' new
    → Laid at (ys ++ zs) old r' new
laid_join {at} {r} {r'} {ys} {zs} {old} {mid} h p q =
    record {
      next = omega (arith, p.next, q.next, length-append ys zs);
      bytes = q.bytes ∙ go (dec_le (at + length ys) farthest);
    }
  where
    go : Dec (at + length ys ≤ farthest) → lay r zs mid ≡ lay at (ys ++ zs) old
    go (yes k) =
        ap₂ (λ n l. lay n zs l) (omega (arith, p.next, k)) p.bytes ∙ lay_join at ys zs old
    go (no k) =
        lay_past r zs mid (omega (arith, p.next, k, laid_same p, h))
        ∙ p.bytes
        ∙ sym (lay_past (at + length ys) zs (lay at ys old) (omega (arith, k, length-lay at ys old, h)))
        ∙ lay_join at ys zs old

-- Bytes put as far as there is room are laid.
pub fitting-lay : (at : ℕ) (ys old : List ℕ) → put_at at (fitting at ys old) old ≡ lay at ys old
fitting-lay at ys old =
    let n : ℕ = length old - at in
    sym (ap (λ l. lay at l old) (sym (take-append-drop n ys)) ∙ sym (lay_join at (take n ys) (drop n ys) old) ∙ rest (dec_le (length old) (at + length (take n ys))) ∙ front (dec_le at (length old)))
  where
    rest : Dec (length old ≤ at + length (take (length old - at) ys))
        → lay (at + length (take (length old - at) ys)) (drop (length old - at) ys) (lay at (take (length old - at) ys) old)
        ≡ lay at (take (length old - at) ys) old
    rest (yes h) =
        lay_past (at + length (take (length old - at) ys)) (drop (length old - at) ys) (lay at (take (length old - at) ys) old)
        (omega (arith, h, length-lay at (take (length old - at) ys) old))
    rest (no h) =
        ap (λ l. lay (at + length (take (length old - at) ys)) l (lay at (take (length old - at) ys) old))
        (drop_of_length-le ys {i = length old - at} (omega (arith, h, length-take (length old - at) ys)))
        ∙ lay_nil (at + length (take (length old - at) ys)) (lay at (take (length old - at) ys) old)

    front : Dec (at ≤ length old) → lay at (take (length old - at) ys) old ≡ put_at at (take (length old - at) ys) old
    front (yes h) = lay-fits at (take (length old - at) ys) old (omega (arith, h, length-take (length old - at) ys))
    front (no h) =
        let none : take (length old - at) ys ≡ [] = ap (λ n. take n ys) (no_room_lem (length old) at (omega (arith, h))) in
        ap (λ l. lay at l old) none ∙ lay_nil at old ∙ (put_nil at old).bytes ∙ sym (ap (λ l. put_at at l old) none)

pub put_laid : {at next r : ℕ} {ys old new : List ℕ} → Put at (fitting at ys old) old next new → r ≡ min farthest (at + length ys)
    → Laid at ys old r new
put_laid {at} {ys = ys} {old = old} p e = record { next = e; bytes = p.bytes ∙ fitting-lay at ys old }

-- With no room at all, a length and nothing else.
pub laid_none : {r : ℕ} {ys mid : List ℕ} (old : List ℕ) → Laid 0 ys [] r mid → mid ++ old ≡ old
laid_none {ys = ys} old p = ap (λ l. l ++ old) (p.bytes ∙ lay_past 0 ys [] (omega arith))

-- Bytes laid where there is room for all are put.
pub laid_put : {at r : ℕ} {ys old new : List ℕ} → at + length ys ≤ length old → length old < farthest → Laid at ys old r new
    → Put at ys old r new
laid_put {at} {ys = ys} {old = old} h k p = record { next = omega (arith, p.next, h, k); bytes = p.bytes ∙ lay-fits at ys old h }

-- At the front of an output that has room for all.
pub laid_front : {r : ℕ} {ys old new : List ℕ} → length ys ≤ length old → length old < farthest → Laid 0 ys old r new
    → (r ≡ length ys) × (new ≡ over ys old)
laid_front {ys = ys} {old = old} h k p =
    (omega (arith, p.next, h, k), p.bytes ∙ lay-fits 0 ys old (omega (arith, h)) ∙ over_put ys old)

-- Bytes laid so far: with what is left they are the whole.
pub record Laying (whole old : List ℕ) (at : ℕ) (rest out : List ℕ) (next : ℕ) : Type 0 where
  pub place : next ≤ farthest
  pub same : length out ≡ length old
  pub on : (r : ℕ) (new : List ℕ) → Laid next rest out r new → Laid at whole old r new

pub lay-begins : {at : ℕ} (whole old : List ℕ) → at ≤ farthest → Laying whole old at whole old at
lay-begins whole old h = record { place = h; same = refl; on = λ r new l. l }

pub lay-ends : {at next : ℕ} {whole old out : List ℕ} → Laying whole old at [] out next → Laid at whole old next out
lay-ends {next = next} {out = out} g = g.on next out (laid_nil out (omega (arith, g.place)))

module _ {whole old : List ℕ} {at : ℕ} {out : List ℕ} {next : ℕ} where
  -- What is left, for what it is.
  pub lay_as : {rest rest' : List ℕ} → rest ≡ rest' → Laying whole old at rest out next → Laying whole old at rest' out next
  lay_as e g = subst (λ l. Laying whole old at l out next) e g

  pub lay_more : {ys rest mid : List ℕ} {r : ℕ} → length old < farthest → Laying whole old at (ys ++ rest) out next → Laid next ys out r mid
      → Laying whole old at rest mid r
  lay_more h g p =
      record {
        place = omega (arith, p.next);
        same = laid_same p ∙ g.same;
        on = λ r new l. g.on r new (laid_join (omega (arith, h, g.same)) p l);
      }
