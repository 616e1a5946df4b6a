-- Records of one size that lie one behind the other.
-- Assumes nothing.
use Prim.Native.Nat.{ℕ, zero, suc, ◌+◌, ◌-◌, ◌*◌, ◌<◌}
use native.Mathlib.Omega.{arith}
use native.Mathlib.Nat.{not-suc-le-zero, zero-mul, suc-mul, add_comm, add-zero, sub-zero, zero-sub, suc-sub-suc}
use mathlib.Core.Path.{◌≡◌, refl, sym, ap, ap₂, ◌∙◌}
use mathlib.Core.Bool.{Bool, cond}
use mathlib.Core.List.{List, [], ◌∷◌, ◌++◌}
use lib.ListN.{length, get_or, drop}
use lib.Seq.{drop-drop, get_or-drop}
use Rattle.protocol.specs.Tree.{places_from}
use Rattle.tree.specs.Seen.{records_from}

module _ {A : Type 0} (size : ℕ) (read : List ℕ → A) where
  pub records_length : (n : ℕ) (r : List ℕ) → length (records_from size read n r) ≡ n
  unfolding records_from
  records_length zero r = refl
  records_length (suc n) r = ap suc (records_length n (drop size r))

  -- One record further.
  further : (k : ℕ) (r : List ℕ) → drop (k * size) (drop size r) ≡ drop (suc k * size) r
  further k r = drop-drop (k * size) size r ∙ ap (λ n. drop n r) (add_comm size (k * size) ∙ sym (suc-mul k size))

  -- The record at a place of the list.
  pub records_at : (n : ℕ) (r : List ℕ) (k : ℕ) (d : A) → k < n → get_or (records_from size read n r) k d ≡ read (drop (k * size) r)
  unfolding records_from
  records_at zero r k d h = absurd (not-suc-le-zero h)
  records_at (suc n) r zero d h = ap (λ m. read (drop m r)) (sym (zero-mul size))
  records_at (suc n) r (suc k) d h = records_at n (drop size r) k d (omega arith) ∙ ap read (further k r)

  -- The records from a place of the list on.
  pub records_drop : (n : ℕ) (r : List ℕ) (k : ℕ) → drop k (records_from size read n r) ≡ records_from size read (n - k) (drop (k * size) r)
  unfolding records_from
  records_drop n r zero = ap₂ (λ m at. records_from size read m (drop at r)) (sym (sub-zero n)) (sym (zero-mul size))
  records_drop zero r (suc k) = ap (λ m. records_from size read m (drop (suc k * size) r)) (sym (zero-sub (suc k)))
  records_drop (suc n) r (suc k) = records_drop n (drop size r) k
      ∙ ap₂ (λ m s. records_from size read m s) (sym (suc-sub-suc n k)) (further k r)

-- The first byte of the record at a place.
pub first_at : (size n start : ℕ) (bs : List ℕ) (k : ℕ) → k < n
    → get_or (records_from size (λ r. get_or r 0 0) n (drop start bs)) k 0 ≡ get_or bs (start + k * size) 0
first_at size n start bs k h =
    records_at size (λ r. get_or r 0 0) n (drop start bs) k 0 h
    ∙ ap (λ l. get_or l 0 0) (drop-drop (k * size) start bs)
    ∙ get_or-drop (start + k * size) bs 0 0
    ∙ ap (λ i. get_or bs i 0) (add-zero (start + k * size))

-- A test that looks only at part of what is read.
module _ {A B : Type 0} (size : ℕ) (read : List ℕ → A) (part : List ℕ → B) where
  pub records_places : (f : A → Bool) (g : B → Bool) → ((r : List ℕ) → f (read r) ≡ g (part r))
      → (n : ℕ) (r : List ℕ) (k : ℕ) → places_from k f (records_from size read n r) ≡ places_from k g (records_from size part n r)
  unfolding records_from places_from
  records_places f g h zero r k = refl
  records_places f g h (suc n) r k =
      ap (λ t. cond t (k ∷ []) [] ++ places_from (suc k) f (records_from size read n (drop size r))) (h r)
      ∙ ap (λ l. cond (g (part r)) (k ∷ []) [] ++ l) (records_places f g h n (drop size r) (suc k))
