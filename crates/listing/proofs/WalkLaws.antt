-- The lines of all that the walk comes to, node after node.
-- Assumes nothing.
use Prim.Native.Nat.{ℕ, suc, ◌+◌, ◌*◌, ◌<◌, ◌≤◌}
use native.Mathlib.Omega.{arith}
use native.Mathlib.Numerals.{add-one}
use mathlib.Core.Path.{◌≡◌, refl, sym, ap, ◌∙◌}
use mathlib.Core.Bool.{true}
use mathlib.Core.List.{List, [], ◌∷◌, ◌++◌, map}
use borrow.Table.Elements.{map_app}
use lib.ListN.{length, get_or, drop}
use Rattle.protocol.specs.Numbers.{max_nodes, max_depth}
use Rattle.protocol.specs.Tree.{Tree, node_in}
use Rattle.protocol.specs.Text.{each}
use Rattle.protocol.specs.Listing.{Visit, Item, below, subtree, walk, items_at, items, entry_of, entry_text, entries, listing}
use Rattle.protocol.proofs.WalkLaws.{each_append, below_end, below_child, below_other, depth_of, not_deep, device_depth, depth_child}
use Rattle.protocol.proofs.OnceLaws.{Rules, rules}
use Rattle.tree.specs.Seen.{seen}
use Rattle.tree.specs.Form.{node_size}
use Rattle.tree.proofs.FieldLaws.{node_count_lem, parent_at}
use Rattle.soundness.specs.Sound.{is_tree}
use Rattle.soundness.proofs.FormLaws.{seen-sound, records_within}
use Rattle.protocol.specs.declared.path.Path.{Path}
use Rattle.protocol.specs.KeptPath.{path_in, PathIs}
use Rattle.text.specs.declared.output.Output.{Output}
use Rattle.text.specs.Lays.{Lays}
use Rattle.text.proofs.LaysLaws.{lays_as, lays_join, Going, going_begins, going_ends, going_as, going_more}
use Rattle.listing.specs.Steps.{items_text, own_text, walk_text, Stands}

-- Lines of items, and of visits, one behind the other.
items-append : (t : Tree) (xs ys : List Item) → items_text t (xs ++ ys) ≡ items_text t xs ++ items_text t ys
items-append t xs ys = ap (each entry_text) (map_app (entry_of t) xs ys) ∙ each_append entry_text (map (entry_of t) xs) (map (entry_of t) ys)

walk-append : (t : Tree) (vs ws : List Visit) → walk_text t (vs ++ ws) ≡ walk_text t vs ++ walk_text t ws
walk-append t vs ws =
    ap (items_text t) (each_append (items_at t) vs ws) ∙ items-append t (each (items_at t) vs) (each (items_at t) ws)

-- A node: what is printed of it, and what stands below it.
subtree-text : (t : Tree) (k : ℕ) (path : List ℕ)
    → walk_text t (subtree t k path) ≡ own_text t k path ++ walk_text t (below (drop (k + 1) t.nodes) (k + 1) k path 1)
unfolding subtree each
subtree-text t k path =
    items-append t (items_at t (record { place = k; path = path })) (each (items_at t) (below (drop (suc k) t.nodes) (suc k) k path 1))
    ∙ ap (λ j. own_text t k path ++ walk_text t (below (drop j t.nodes) j k path 1)) (sym (add-one k))

pub node_put : (t : Tree) (k : ℕ) (path : List ℕ) {a b c : Output} → Lays (own_text t k path) a b
    → Lays (walk_text t (below (drop (k + 1) t.nodes) (k + 1) k path 1)) b c → Lays (walk_text t (subtree t k path)) a c
node_put t k path p q = lays_as (sym (subtree-text t k path)) (lays_join p q)

-- The device, and all below it.
pub tree_put : (t : Tree) {p : Path} {a b c : Output} → PathIs (1 ∷ []) 1 p → Lays (own_text t 0 (1 ∷ [])) a b
    → Lays (walk_text t (below (drop (0 + 1) t.nodes) (0 + 1) 0 (path_in p) 1)) b c → Lays (listing t) a c
unfolding listing entries items walk
tree_put t e p q = node_put t 0 (1 ∷ []) p (lays_as (ap (λ l. walk_text t (below (drop (0 + 1) t.nodes) (0 + 1) 0 l 1)) e.is) q)

-- The children of a node of a lent tree put up to one of the list; the last has a number.
pub record Descending (bs : List ℕ) (k : ℕ) (path : List ℕ) (start now : Output) (number j : ℕ) : Type 0 where
  pub behind : k + number < j
  pub going : Going (walk_text (seen bs) (below (drop (k + 1) (seen bs).nodes) (k + 1) k path 1)) start (walk_text (seen bs) (below (drop j (seen bs).nodes) j k path (number + 1))) now

pub descend-begins : (bs : List ℕ) (k : ℕ) (path : List ℕ) (start : Output) → Descending bs k path start start 0 (k + 1)
descend-begins bs k path start =
    record {
      behind = omega arith;
      going = going_begins (walk_text (seen bs) (below (drop (k + 1) (seen bs).nodes) (k + 1) k path 1)) start;
    }

-- The record of a node of a sound tree is there, and begins with its parent.
module _ (bs : List ℕ) {j : ℕ} (h : j < length (seen bs).nodes) where
  pub row_within : is_tree bs ≡ true → 2 + j * node_size < length bs
  row_within t = omega (arith, h, records_within bs t)

  pub row_parent : get_or bs (2 + j * node_size) 0 ≡ (node_in (seen bs) j).parent
  row_parent = parent_at bs j (omega (arith, h, node_count_lem bs)) refl

module _ (bs path : List ℕ) {k : ℕ} {start now : Output} {number j : ℕ} (w : Descending bs k path start now number j) (h : j < length (seen bs).nodes) {p : ℕ} (e : p ≡ (node_in (seen bs) j).parent) where
  pub descend_past : (p ≡ k → ⊥) → Descending bs k path start now number (j + 1)
  descend_past f =
      record {
        behind = omega (arith, w.behind);
        going = going_as (ap (walk_text (seen bs)) (below_other (seen bs) j k path (number + 1) h (λ d. f (e ∙ d)))) w.going;
      }

  pub descend_here : {child : List ℕ} {next : Output} → p ≡ k → child ≡ path ++ (number + 1) ∷ []
      → Lays (walk_text (seen bs) (subtree (seen bs) j child)) now next → Descending bs k path start next (number + 1) (j + 1)
  descend_here f c q =
      let t : Tree = seen bs in
      let this : List Visit = subtree t j (path ++ (number + 1) ∷ []) in
      let others : List Visit = below (drop (j + 1) t.nodes) (j + 1) k path (number + 1 + 1) in
      let parted : walk_text t (below (drop j t.nodes) j k path (number + 1)) ≡ walk_text t this ++ walk_text t others =
      ap (walk_text t)
      (below_child t j k path (number + 1) h (sym e ∙ f)
      ∙ ap (λ n. this ++ below (drop (j + 1) t.nodes) (j + 1) k path n) (sym (add-one (number + 1))))
      ∙ walk-append t this others in
      record {
        behind = omega (arith, w.behind);
        going = going_more (going_as parted w.going) (lays_as (ap (λ l. walk_text t (subtree t j l)) c) q);
      }

pub descend-ends : (bs path : List ℕ) {k : ℕ} {start now : Output} {number j : ℕ} → Descending bs k path start now number j
    → length (seen bs).nodes ≤ j → Lays (walk_text (seen bs) (below (drop (k + 1) (seen bs).nodes) (k + 1) k path 1)) start now
unfolding each
descend-ends bs path {k} {number = number} {j = j} w h =
    going_ends (going_as (ap (walk_text (seen bs)) (below_end (seen bs) j k path (number + 1) h)) w.going)

-- Where a node stands: the device, and a child.
seen_rules : (bs : List ℕ) → is_tree bs ≡ true → Rules (seen bs)
seen_rules bs h = rules (seen bs) (seen-sound bs h)

pub few_nodes : (bs : List ℕ) → is_tree bs ≡ true → length (seen bs).nodes ≤ max_nodes
few_nodes bs t = (seen_rules bs t).few

module _ {bs : List ℕ} (t : is_tree bs ≡ true) where
  pub stands_device : {len : ℕ} → len ≡ 1 → Stands bs 0 len
  stands_device e =
      let r = seen_rules bs t in
      record { within = r.device; depth = e ∙ sym (device_depth (seen bs) r) }

  module _ {k len : ℕ} (s : Stands bs k len) {j p : ℕ} (h : k < j) (l : j < length (seen bs).nodes) (e : p ≡ (node_in (seen bs) j).parent) (f : p ≡ k) where
    child_depth : depth_of (seen bs) j ≡ suc len
    child_depth =
        depth_child (seen bs) (seen_rules bs t) j (omega (arith, h)) l
        ∙ ap (λ n. suc (depth_of (seen bs) n)) (sym e ∙ f)
        ∙ ap suc (sym s.depth)

    -- A child is one deeper, and so there is room for its number.
    pub child_room : len < max_depth
    child_room = omega (arith, child_depth, not_deep (seen bs) (seen_rules bs t) j)

    pub stands_child : {len' : ℕ} → len' ≡ len + 1 → Stands bs j len'
    stands_child g = record { within = l; depth = omega (arith, g, child_depth) }
