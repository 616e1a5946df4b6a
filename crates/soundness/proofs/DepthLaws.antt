-- The nodes' parents and depths, checked one after the other.
-- Assumes nothing.
use Prim.Native.Nat.{ℕ, zero, suc, ◌<◌, ◌≤◌}
use native.Mathlib.Omega.{arith}
use mathlib.Core.Path.{◌≡◌, refl, sym, ap, ◌∙◌}
use mathlib.Core.Bool.{Bool, true, false, ◌&&◌}
use mathlib.Core.List.{List, [], ◌∷◌, ◌++◌, map}
use borrow.Author.Tests.{leb-true, ltb-true, le-leb, lt-ltb}
use lib.ListN.{length, get_or, drop, length-append}
use lib.Dec.{eqb, leb, ltb}
use Rattle.protocol.specs.Numbers.{max_depth}
use Rattle.protocol.specs.Bytes.{every}
use Rattle.protocol.specs.Tree.{Node, parents_from, parents_sound, depths_after, depths_sound}
use Rattle.protocol.proofs.TestLaws.{and_left, and_right, and_both, every_append, every_one}
use Rattle.tree.specs.Form.{node_size}
use Rattle.tree.specs.Seen.{records_from, node_seen}
use Rattle.soundness.specs.Check.{depths_fit, parents_fit}

-- Two tests that pass together come out the same.
pub alike : (t u : Bool) → (t ≡ true → u ≡ true) → (u ≡ true → t ≡ true) → t ≡ u
alike true u f g = sym (f refl)
alike false true f g = g refl
alike false false f g = refl

module _ {A : Type 0} (f : A → Bool) where
  every_front : (x y : List A) → every f (x ++ y) ≡ true → every f x ≡ true
  unfolding every
  every_front [] y h = refl
  every_front (a ∷ x) y h =
      and_both (and_left (f a) (every f (x ++ y)) h) (every_front x y (and_right (f a) (every f (x ++ y)) h))

  every_last : (x : List A) (a : A) → every f (x ++ a ∷ []) ≡ true → f a ≡ true
  unfolding every
  every_last [] a h = and_left (f a) true h
  every_last (b ∷ x) a h = every_last x a (and_right (f b) (every f (x ++ a ∷ [])) h)

-- A depth that is allowed.
abbrev shallow : ℕ → Bool
shallow d = leb d max_depth

-- Depths that are known stay.
depths_stay : (ns : List Node) (known : List ℕ) → every shallow (depths_after known ns) ≡ true → every shallow known ≡ true
unfolding depths_after
depths_stay [] known h = h
depths_stay (n ∷ ns) known h =
    every_front shallow known (suc (get_or known n.parent 0) ∷ []) (depths_stay ns (known ++ suc (get_or known n.parent 0) ∷ []) h)

abbrev parents_of : List Node → List ℕ
parents_of ns = map (λ n. n.parent) ns

-- Checked one after the other, parents and depths are sound exactly where they are as a whole.
depths_fit-sound : (ns : List Node) (known : List ℕ) → depths_fit (parents_of ns) known ≡ true → every shallow known ≡ true
    → (parents_from (length known) ns ≡ true) × (every shallow (depths_after known ns) ≡ true)
unfolding depths_fit parents_from depths_after
depths_fit-sound [] known h e = (refl, e)
depths_fit-sound (n ∷ ns) known h e =
    let d : ℕ = get_or known n.parent 0 in
    let rest = and_right (ltb n.parent (length known)) _ h in
    let small : d < max_depth = ltb-true d max_depth (and_left (ltb d max_depth) _ rest) in
    let more : every shallow (known ++ suc d ∷ []) ≡ true =
    every_append shallow known (suc d ∷ []) e (every_one shallow (suc d) (le-leb (suc d) max_depth small)) in
    let both = depths_fit-sound ns (known ++ suc d ∷ []) (and_right (ltb d max_depth) _ rest) more in
    let size : length (known ++ suc d ∷ []) ≡ suc (length known) = omega (arith, length-append known (suc d ∷ [])) in
    (and_both (and_left (ltb n.parent (length known)) _ h) (ap (λ k. parents_from k ns) (sym size) ∙ both.0), both.1)

depths_fit_passes : (ns : List Node) (known : List ℕ) → parents_from (length known) ns ≡ true → every shallow (depths_after known ns) ≡ true
    → depths_fit (parents_of ns) known ≡ true
unfolding depths_fit parents_from depths_after
depths_fit_passes [] known p e = refl
depths_fit_passes (n ∷ ns) known p e =
    let d : ℕ = get_or known n.parent 0 in
    let deep : suc d ≤ max_depth = leb-true (suc d) max_depth (every_last shallow known (suc d) (depths_stay ns (known ++ suc d ∷ []) e)) in
    let size : length (known ++ suc d ∷ []) ≡ suc (length known) = omega (arith, length-append known (suc d ∷ [])) in
    and_both (and_left (ltb n.parent (length known)) _ p)
    (and_both (lt-ltb d max_depth deep)
    (depths_fit_passes ns (known ++ suc d ∷ []) (ap (λ k. parents_from k ns) size ∙ and_right (ltb n.parent (length known)) _ p) e))

pub depths_fit_exact : (ns : List Node) → parents_fit (parents_of ns) ≡ (parents_sound ns && depths_sound ns)
unfolding parents_fit parents_sound depths_sound depths_after
depths_fit_exact [] = refl
depths_fit_exact (n ∷ ns) =
    alike _ _
    (λ h.
    let both = depths_fit-sound ns (1 ∷ []) (and_right (eqb n.parent 0) _ h) (every_one shallow 1 refl) in
    and_both (and_both (and_left (eqb n.parent 0) _ h) both.0) both.1)
    (λ h.
    let p = and_left (eqb n.parent 0 && parents_from 1 ns) _ h in
    and_both (and_left (eqb n.parent 0) _ p)
    (depths_fit_passes ns (1 ∷ []) (and_right (eqb n.parent 0) _ p) (and_right (eqb n.parent 0 && parents_from 1 ns) _ h)))

-- The parents that are seen in bytes.
pub parents_seen : (bs : List ℕ) (n : ℕ) (r : List ℕ)
    → records_from node_size (λ s. get_or s 0 0) n r ≡ parents_of (records_from node_size (node_seen bs) n r)
unfolding records_from node_seen
parents_seen bs zero r = refl
parents_seen bs (suc n) r = ap (λ l. get_or r 0 0 ∷ l) (parents_seen bs n (drop node_size r))
