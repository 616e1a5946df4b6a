-- Tests: their conjunction, an answer that a test picks, and a test on every entry of a list.
-- Assumes nothing.
use Prim.Native.Nat.{ℕ, zero, suc, ◌+◌, ◌<◌, ◌≤◌}
use native.Mathlib.Omega.{arith}
use native.Mathlib.Nat.{add-zero, zero-add, add-suc, suc-add, le_of_suc-le-suc, not-suc-le-zero}
use mathlib.Core.Path.{◌≡◌, refl, sym, ap, ap₂, ◌∙◌}
use mathlib.Core.Bool.{Bool, true, false, cond, ◌&&◌, and-eq-true_iff}
use mathlib.Core.List.{List, [], ◌∷◌, ◌++◌, map}
use borrow.Author.Tests.{eqb-true, eqb-false, leb-true, leb-false}
use lib.ListN.{length, get_or, set}
use lib.Dec.{eqb, leb}
use Rattle.protocol.specs.Bytes.{every}

-- Both tests pass.
pub and_left : (a b : Bool) → (a && b) ≡ true → a ≡ true
and_left a b h = ((and-eq-true_iff a b).0 h).0

pub and_right : (a b : Bool) → (a && b) ≡ true → b ≡ true
and_right a b h = ((and-eq-true_iff a b).0 h).1

pub and_both : {a b : Bool} → a ≡ true → b ≡ true → (a && b) ≡ true
and_both {a} {b} p q = (and-eq-true_iff a b).1 (p, q)

-- Two tests that hold together come out the same.
pub eqb_same : (a b c d : ℕ) → (a ≡ b → c ≡ d) → (c ≡ d → a ≡ b) → eqb a b ≡ eqb c d
eqb_same a b c d f g = go (eqb a b) refl (eqb c d) refl
  where
    go : (t : Bool) → eqb a b ≡ t → (u : Bool) → eqb c d ≡ u → eqb a b ≡ eqb c d
    go true e true h = e ∙ sym h
    go true e false h = absurd (eqb-false c d h (f (eqb-true a b e)))
    go false e true h = absurd (eqb-false a b e (g (eqb-true c d h)))
    go false e false h = e ∙ sym h

pub leb_same : (a b c d : ℕ) → (a ≤ b → c ≤ d) → (c ≤ d → a ≤ b) → leb a b ≡ leb c d
leb_same a b c d f g = go (leb a b) refl (leb c d) refl
  where
    go : (t : Bool) → leb a b ≡ t → (u : Bool) → leb c d ≡ u → leb a b ≡ leb c d
    go true e true h = e ∙ sym h
    go true e false h = absurd (omega (arith, f (leb-true a b e), leb-false c d h))
    go false e true h = absurd (omega (arith, g (leb-true c d h), leb-false a b e))
    go false e false h = e ∙ sym h

-- A fact of both answers of a test is one of the answer that it picks; each may use how the test came out.
pub if_both : {A : Type 0} (P : A → Type 0) (t : Bool) {x y : A} → P x → P y → P (cond t x y)
if_both P true p q = p
if_both P false p q = q

pub if_case : {A : Type 0} (P : A → Type 0) (t : Bool) {x y : A} → (t ≡ true → P x) → (t ≡ false → P y) → P (cond t x y)
if_case P true p q = p refl
if_case P false p q = q refl

module _ {A : Type 0} (f : A → Bool) where
  -- An entry of a list of which every entry passes, and so does the default.
  pub every_at : (xs : List A) (d : A) → every f xs ≡ true → f d ≡ true → (k : ℕ) → f (get_or xs k d) ≡ true
  unfolding every
  every_at [] d h e k = e
  every_at (x ∷ xs) d h e zero = and_left (f x) (every f xs) h
  every_at (x ∷ xs) d h e (suc k) = every_at xs d (and_right (f x) (every f xs) h) e k

  pub every_append : (x y : List A) → every f x ≡ true → every f y ≡ true → every f (x ++ y) ≡ true
  unfolding every
  every_append [] y h k = k
  every_append (b ∷ x) y h k =
      and_both (and_left (f b) (every f x) h) (every_append x y (and_right (f b) (every f x) h) k)

  pub every_one : (x : A) → f x ≡ true → every f (x ∷ []) ≡ true
  unfolding every
  every_one x h = and_both h refl

  pub every_set : (xs : List A) (i : ℕ) (y : A) → every f xs ≡ true → f y ≡ true → every f (set xs i y) ≡ true
  unfolding every
  every_set [] i y h e = refl
  every_set (x ∷ xs) zero y h e = and_both e (and_right (f x) (every f xs) h)
  every_set (x ∷ xs) (suc i) y h e = and_both (and_left (f x) (every f xs) h) (every_set xs i y (and_right (f x) (every f xs) h) e)

  pub every_weaker : (g : A → Bool) → ((x : A) → f x ≡ true → g x ≡ true) → (xs : List A) → every f xs ≡ true → every g xs ≡ true
  unfolding every
  every_weaker g w [] h = refl
  every_weaker g w (x ∷ xs) h =
      and_both (w x (and_left (f x) (every f xs) h)) (every_weaker g w xs (and_right (f x) (every f xs) h))

  -- Two tests that agree where this one passes.
  pub every-same : (g h : A → Bool) → ((x : A) → f x ≡ true → g x ≡ h x) → (xs : List A) → every f xs ≡ true → every g xs ≡ every h xs
  unfolding every
  every-same g h w [] e = refl
  every-same g h w (x ∷ xs) e =
      ap₂ (λ a b. a && b) (w x (and_left (f x) (every f xs) e)) (every-same g h w xs (and_right (f x) (every f xs) e))

  pub every_map : {B : Type 0} (g : B → A) → ((x : B) → f (g x) ≡ true) → (xs : List B) → every f (map g xs) ≡ true
  unfolding every
  every_map g h [] = refl
  every_map g h (x ∷ xs) = and_both (h x) (every_map g h xs)

-- A table's rule: a test of each place and entry, computed once for the whole table, passes at every place.
module _ (f : ℕ → ℕ → Bool) where
  unfoldable pub every_place : ℕ → List ℕ → Bool
  every_place k [] = true
  every_place k (x ∷ xs) = f k x && every_place (suc k) xs

  place_from : (xs : List ℕ) (d k i : ℕ) → every_place k xs ≡ true → i < length xs → f (k + i) (get_or xs i d) ≡ true
  unfolding every_place
  place_from [] d k i h l = absurd (not-suc-le-zero l)
  place_from (x ∷ xs) d k zero h l = ap (λ n. f n x) (add-zero k) ∙ and_left (f k x) (every_place (suc k) xs) h
  place_from (x ∷ xs) d k (suc i) h l =
      ap (λ n. f n (get_or xs i d)) (add-suc k i ∙ sym (suc-add k i))
      ∙ place_from xs d (suc k) i (and_right (f k x) (every_place (suc k) xs) h) (le_of_suc-le-suc l)

  pub place_at : (xs : List ℕ) (d : ℕ) → every_place 0 xs ≡ true → (i : ℕ) → i < length xs → f i (get_or xs i d) ≡ true
  place_at xs d h i l = ap (λ n. f n (get_or xs i d)) (sym (zero-add i)) ∙ place_from xs d 0 i h l
