-- Lists that are the same are equal, and equal ones are the same; numbers that differ.
-- Assumes nothing.
use Prim.Native.Nat.{ℕ}
use mathlib.Core.Path.{◌≡◌, refl, sym, ap₂, ◌∙◌}
use mathlib.Core.Bool.{true, false≢true}
use mathlib.Core.List.{List, [], ◌∷◌}
use borrow.Author.Tests.{eqb-true, eq-eqb}
use lib.Dec.{eqb}
use Rattle.protocol.proofs.TestLaws.{and_left, and_right, and_both}
use Rattle.tree.specs.Seen.{same}

pub same_eq : (xs ys : List ℕ) → same xs ys ≡ true → xs ≡ ys
unfolding same
same_eq [] [] h = refl
same_eq [] (y ∷ ys) h = absurd (false≢true h)
same_eq (x ∷ xs) [] h = absurd (false≢true h)
same_eq (x ∷ xs) (y ∷ ys) h =
    ap₂ ◌∷◌ (eqb-true x y (and_left (eqb x y) (same xs ys) h)) (same_eq xs ys (and_right (eqb x y) (same xs ys) h))

pub same_refl : (xs : List ℕ) → same xs xs ≡ true
unfolding same
same_refl [] = refl
same_refl (x ∷ xs) = and_both (eq-eqb x x refl) (same_refl xs)

-- Two numbers differ if those that were read for them do.
pub differ : {m m' n n' : ℕ} → m ≡ m' → n ≡ n' → (m ≡ n → ⊥) → m' ≡ n' → ⊥
differ e f h q = h (e ∙ q ∙ sym f)
