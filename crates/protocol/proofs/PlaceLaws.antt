-- The places of the entries that pass a test, from a place on.
-- Assumes nothing.
use Prim.Native.Nat.{ℕ, ◌+◌, ◌<◌, ◌≤◌}
use native.Mathlib.Numerals.{add-one}
use mathlib.Core.Path.{◌≡◌, sym, ap, ◌∙◌}
use mathlib.Core.Bool.{Bool, true, false, cond}
use mathlib.Core.List.{List, [], ◌∷◌, ◌++◌}
use lib.ListN.{length, get_or, drop, drop_of_length-le}
use lib.Seq.{drop-cons}
use Rattle.protocol.specs.Tree.{places_from}

module _ {A : Type 0} (f : A → Bool) (xs : List A) where
  abbrev places_on : ℕ → List ℕ
  places_on k = places_from k f (drop k xs)

  pub places_end : (k : ℕ) → length xs ≤ k → places_on k ≡ []
  unfolding places_from
  places_end k h = ap (places_from k f) (drop_of_length-le xs {i = k} h)

  places_step : (d : A) (k : ℕ) → k < length xs → places_on k ≡ cond (f (get_or xs k d)) (k ∷ []) [] ++ places_on (k + 1)
  unfolding places_from
  places_step d k h =
      ap (places_from k f) (drop-cons xs k d h)
      ∙ ap (λ n. cond (f (get_or xs k d)) (k ∷ []) [] ++ places_from n f (drop n xs)) (sym (add-one k))

  pub places_here : (d : A) (k : ℕ) → k < length xs → f (get_or xs k d) ≡ true → places_on k ≡ k ∷ places_on (k + 1)
  places_here d k h e = places_step d k h ∙ rw e

  pub places_past : (d : A) (k : ℕ) → k < length xs → f (get_or xs k d) ≡ false → places_on k ≡ places_on (k + 1)
  places_past d k h e = places_step d k h ∙ rw e
