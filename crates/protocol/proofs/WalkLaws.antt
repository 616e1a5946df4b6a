-- The walk of a tree, node by node: what stands below one, and how deep each node is.
-- Assumes nothing.
use Prim.Native.Nat.{ℕ, zero, suc, ◌+◌, ◌<◌, ◌≤◌}
use native.Mathlib.Omega.{arith}
use native.Mathlib.Nat.{not-suc-le-zero, add-zero}
use native.Mathlib.Numerals.{add-one}
use mathlib.Core.Path.{◌≡◌, refl, sym, ap, subst, ◌∙◌}
use mathlib.Core.Bool.{Bool, true, false}
use mathlib.Core.List.{List, [], ◌∷◌, ◌++◌, append_assoc}
use borrow.Author.Tests.{eq-eqb, ne_eqb, ltb-true, leb-true}
use lib.ListN.{length, get_or, drop, drop_of_length-le, length-append, get_or-append}
use lib.Seq.{drop-cons, get_or_at}
use lib.Dec.{eqb, ltb, leb}
use Rattle.protocol.specs.Numbers.{max_depth}
use Rattle.protocol.specs.Tree.{Node, Tree, node_in, parents_from, depths_after, depths_sound}
use Rattle.protocol.specs.Text.{each}
use Rattle.protocol.specs.Listing.{below, subtree}
use Rattle.protocol.proofs.TestLaws.{and_left, and_right, every_at}
use Rattle.protocol.proofs.OnceLaws.{Rules}

-- What stands below the node at place k, from place j on: past the end, at a child, and at another node.
module _ (t : Tree) (j k : ℕ) (path : List ℕ) (n : ℕ) where
  pub below_end : length t.nodes ≤ j → below (drop j t.nodes) j k path n ≡ []
  unfolding below
  below_end h = ap (λ l. below l j k path n) (drop_of_length-le t.nodes {i = j} h)

  below_at : j < length t.nodes → (b : Bool) → eqb (node_in t j).parent k ≡ b
      → below (drop j t.nodes) j k path n
      ≡ elim b [
        | true ↦ subtree t j (path ++ n ∷ []) ++ below (drop (j + 1) t.nodes) (j + 1) k path (suc n)
        | false ↦ below (drop (j + 1) t.nodes) (j + 1) k path n
      ]
  unfolding below subtree
  below_at h true e =
      ap (λ l. below l j k path n) (drop-cons t.nodes j (record { parent = 0; name = [] }) h) ∙ rw (add-one, e, below)
  below_at h false e =
      ap (λ l. below l j k path n) (drop-cons t.nodes j (record { parent = 0; name = [] }) h) ∙ rw (add-one, e, below)

  pub below_child : j < length t.nodes → (node_in t j).parent ≡ k
      → below (drop j t.nodes) j k path n
      ≡ subtree t j (path ++ n ∷ []) ++ below (drop (j + 1) t.nodes) (j + 1) k path (suc n)
  below_child h e = below_at h true (eq-eqb _ _ e)

  pub below_other : j < length t.nodes → ((node_in t j).parent ≡ k → ⊥)
      → below (drop j t.nodes) j k path n ≡ below (drop (j + 1) t.nodes) (j + 1) k path n
  below_other h e = below_at h false (ne_eqb _ _ e)

-- What each entry gives, of two lists one behind the other.
module _ {A B : Type 0} (f : A → List B) where
  pub each_append : (xs ys : List A) → each f (xs ++ ys) ≡ each f xs ++ each f ys
  unfolding each
  each_append [] ys = refl
  each_append (x ∷ xs) ys = ap (λ l. f x ++ l) (each_append xs ys) ∙ sym (append_assoc (f x) (each f xs) (each f ys))

-- Depths that are known stay, and each that is added is one more than that of the parent.
abbrev added : List ℕ → Node → List ℕ
added known n = known ++ suc (get_or known n.parent 0) ∷ []

added_size : (known : List ℕ) (n : Node) → length (added known n) ≡ suc (length known)
added_size known n = omega (arith, length-append known (suc (get_or known n.parent 0) ∷ []))

pub depths_stay : (ns : List Node) (known : List ℕ) (i : ℕ) → i < length known → get_or (depths_after known ns) i 0 ≡ get_or known i 0
unfolding depths_after
depths_stay [] known i h = refl
depths_stay (n ∷ ns) known i h =
    depths_stay ns (added known n) i (omega (arith, h, added_size known n))
    ∙ get_or-append known (suc (get_or known n.parent 0) ∷ []) 0 i h

depth_added : (ns : List Node) (known : List ℕ) (i : ℕ) (d : Node) → parents_from (length known) ns ≡ true → i < length ns
    → get_or (depths_after known ns) (length known + i) 0 ≡ suc (get_or (depths_after known ns) (get_or ns i d).parent 0)
unfolding depths_after parents_from
depth_added [] known i d s h = absurd (not-suc-le-zero h)
depth_added (n ∷ ns) known zero d s h =
    let before : n.parent < length known = ltb-true n.parent (length known) (and_left (ltb n.parent (length known)) _ s) in
    depths_stay ns (added known n) (length known + 0) (omega (arith, added_size known n))
    ∙ get_or_at known (suc (get_or known n.parent 0)) [] 0 (length known + 0) (sym (add-zero (length known)))
    ∙ ap suc (sym (get_or-append known (suc (get_or known n.parent 0) ∷ []) 0 n.parent before))
    ∙ ap suc (sym (depths_stay ns (added known n) n.parent (omega (arith, before, added_size known n))))
depth_added (n ∷ ns) known (suc i) d s h =
    let one : length known + suc i ≡ length (added known n) + i = omega (arith, added_size known n) in
    ap (λ m. get_or (depths_after (added known n) ns) m 0) one
    ∙ depth_added ns (added known n) i d
    (subst (λ m. parents_from m ns ≡ true) (sym (added_size known n)) (and_right (ltb n.parent (length known)) _ s))
    (omega (arith, h))

-- The depth of a node of a tree.
abbrev pub depth_of : Tree → ℕ → ℕ
depth_of t k = get_or (depths_after [] t.nodes) k 0

-- The device has depth 1, and a child is one deeper than its parent.
device_deep : (ns : List Node) → 1 ≤ length ns → get_or (depths_after [] ns) 0 0 ≡ 1
unfolding depths_after
device_deep [] h = absurd (not-suc-le-zero h)
device_deep (n ∷ ns) h = depths_stay ns (suc 0 ∷ []) 0 (omega arith)

child_deeper : (ns : List Node) (j : ℕ) (d : Node) → parents_from 1 (drop 1 ns) ≡ true → 1 ≤ j → j < length ns
    → get_or (depths_after [] ns) j 0 ≡ suc (get_or (depths_after [] ns) (get_or ns j d).parent 0)
unfolding depths_after
child_deeper [] j d p l h = absurd (not-suc-le-zero h)
child_deeper (n ∷ ns) zero d p l h = absurd (not-suc-le-zero l)
child_deeper (n ∷ ns) (suc j) d p l h =
    let one : suc j ≡ 1 + j = omega arith in
    ap (λ m. get_or (depths_after (suc 0 ∷ []) ns) m 0) one ∙ depth_added ns (suc 0 ∷ []) j d p (omega (arith, h))

-- In a sound tree none is deeper than 16.
module _ (t : Tree) (r : Rules t) where
  pub not_deep : (k : ℕ) → depth_of t k ≤ max_depth
  unfolding depths_sound
  not_deep k = leb-true (depth_of t k) max_depth (every_at (λ d. leb d max_depth) (depths_after [] t.nodes) 0 r.depths refl k)

  pub device_depth : depth_of t 0 ≡ 1
  device_depth = device_deep t.nodes r.device

  pub depth_child : (j : ℕ) → 1 ≤ j → j < length t.nodes → depth_of t j ≡ suc (depth_of t (node_in t j).parent)
  depth_child j l h = child_deeper t.nodes j _ r.parents l h
