-- The lines of a node and of a property, one behind the other, and those of a node's properties.
-- Assumes nothing.
use Prim.Native.Nat.{ℕ, ◌+◌, ◌*◌, ◌<◌, ◌≤◌}
use native.Mathlib.Omega.{arith}
use native.Mathlib.Numerals.{add-one}
use mathlib.Core.Path.{◌≡◌, refl, sym, ap, ◌∙◌}
use mathlib.Core.Bool.{true}
use mathlib.Core.List.{List, [], ◌∷◌, ◌++◌}
use borrow.Author.Tests.{eq-eqb, ne_eqb}
use lib.ListN.{length, get_or, drop}
use lib.Dec.{eqb}
use Rattle.protocol.specs.Tree.{Tree, places_from, children_of, properties_of, node_in, property_in}
use Rattle.protocol.specs.Text.{each, decimal, dotted, line}
use Rattle.protocol.specs.Listing.{node, property, property_items, items_at, entry_of, entry_text, path_key, name_key, children_key, properties_key, index_key, label_key, type_key}
use Rattle.protocol.proofs.PlaceLaws.{places_here, places_past, places_end}
use Rattle.tree.specs.Form.{property_size, properties_start}
use Rattle.tree.specs.Seen.{seen, node_count}
use Rattle.tree.proofs.FieldLaws.{node_count_lem, property_count_lem, property_node_at}
use Rattle.soundness.specs.Sound.{is_tree}
use Rattle.soundness.proofs.FormLaws.{records_within}
use Rattle.text.specs.declared.output.Output.{Output}
use Rattle.text.specs.Lays.{Lays}
use Rattle.text.proofs.LaysLaws.{lays_as, lays_join, Going, going_begins, going_ends, going_as, going_more}
use Rattle.listing.specs.Steps.{item_text, properties_text, own_text}

-- Four lines, one behind the other.
module _ (t : Tree) (path : List ℕ) {a b c d e : Output} where
  pub node_put : (k : ℕ) {name : List ℕ} {n m : ℕ} → name ≡ (node_in t k).name → n ≡ length (children_of t k) → m ≡ length (properties_of t k)
      → Lays (line path_key (dotted path)) a b → Lays (line name_key name) b c → Lays (line children_key (decimal n)) c d
      → Lays (line properties_key (decimal m)) d e → Lays (item_text t (node k path)) a e
  unfolding entry_of entry_text
  node_put k f g h p q r s =
      lays_join p
      (lays_join (lays_as (ap (line name_key) f) q)
      (lays_join (lays_as (ap (λ x. line children_key (decimal x)) g) r) (lays_as (ap (λ x. line properties_key (decimal x)) h) s)))

  pub property_put : (place index : ℕ) {label : List ℕ} {kind : ℕ} → label ≡ (property_in t place).label → kind ≡ (property_in t place).kind
      → Lays (line path_key (dotted path)) a b → Lays (line index_key (decimal index)) b c → Lays (line label_key label) c d
      → Lays (line type_key (decimal kind)) d e → Lays (item_text t (property place path index)) a e
  unfolding entry_of entry_text
  property_put place index f g p q r s =
      lays_join p
      (lays_join q (lays_join (lays_as (ap (line label_key) f) r) (lays_as (ap (λ x. line type_key (decimal x)) g) s)))

-- The properties of a node that stand at a place of the list or behind it.
abbrev properties_from : Tree → ℕ → ℕ → List ℕ
properties_from t k p = places_from p (λ x. eqb x.node k) (drop p t.properties)

module _ (t : Tree) (k : ℕ) where
  properties_here : (p : ℕ) → p < length t.properties → (property_in t p).node ≡ k → properties_from t k p ≡ p ∷ properties_from t k (p + 1)
  properties_here p h e = places_here (λ x. eqb x.node k) t.properties _ p h (eq-eqb (property_in t p).node k e)

  properties_past : (p : ℕ) → p < length t.properties → ((property_in t p).node ≡ k → ⊥) → properties_from t k p ≡ properties_from t k (p + 1)
  properties_past p h e = places_past (λ x. eqb x.node k) t.properties _ p h (ne_eqb (property_in t p).node k e)

  properties_end : (p : ℕ) → length t.properties ≤ p → properties_from t k p ≡ []
  properties_end p h = places_end (λ x. eqb x.node k) t.properties p h

  properties_all : properties_of t k ≡ properties_from t k 0
  unfolding properties_of
  properties_all = refl

-- The properties of a node of a lent tree put up to one of the list; the last has an index.
pub record Owning (bs : List ℕ) (k : ℕ) (path : List ℕ) (start now : Output) (index p : ℕ) : Type 0 where
  pub few : index ≤ p
  pub going : Going (properties_text (seen bs) path 1 (properties_of (seen bs) k)) start (properties_text (seen bs) path (index + 1) (properties_from (seen bs) k p)) now

pub owning_begins : (bs : List ℕ) (k : ℕ) (path : List ℕ) (start : Output) → Owning bs k path start start 0 0
owning_begins bs k path start =
    record {
      few = omega arith;
      going =
          going_as (ap (properties_text (seen bs) path 1) (properties_all (seen bs) k))
          (going_begins (properties_text (seen bs) path 1 (properties_of (seen bs) k)) start);
    }

-- The record of a property of a sound tree is there, and begins with its node.
module _ (bs : List ℕ) {start p place : ℕ} (s : start ≡ properties_start (node_count bs)) (e : place ≡ start + p * property_size) (h : p < length (seen bs).properties) where
  pub row_within : is_tree bs ≡ true → place < length bs
  row_within t = omega (arith, e, s, h, records_within bs t, node_count_lem bs)

  pub row_node : get_or bs place 0 ≡ (property_in (seen bs) p).node
  row_node =
      property_node_at bs p (omega (arith, h, property_count_lem bs)) refl
      (ap (λ i. get_or bs i 0) (omega (arith, e, s)))

module _ (bs path : List ℕ) {k : ℕ} {start now : Output} {index p : ℕ} (w : Owning bs k path start now index p) (h : p < length (seen bs).properties) {n : ℕ} (e : n ≡ (property_in (seen bs) p).node) where
  pub owning_past : (n ≡ k → ⊥) → Owning bs k path start now index (p + 1)
  owning_past f =
      record {
        few = omega (arith, w.few);
        going =
            going_as (ap (properties_text (seen bs) path (index + 1)) (properties_past (seen bs) k p h (λ d. f (e ∙ d)))) w.going;
      }

  pub owning_here : {next : Output} → n ≡ k → Lays (item_text (seen bs) (property p path (index + 1))) now next
      → Owning bs k path start next (index + 1) (p + 1)
  unfolding property_items each
  owning_here f q =
      record {
        few = omega (arith, w.few);
        going =
            going_more
            (going_as
            (ap (properties_text (seen bs) path (index + 1)) (properties_here (seen bs) k p h (sym e ∙ f))
            ∙ ap (λ i. item_text (seen bs) (property p path (index + 1)) ++ properties_text (seen bs) path i (properties_from (seen bs) k (p + 1)))
            (sym (add-one (index + 1))))
            w.going)
            q;
      }

pub owning_ends : (bs path : List ℕ) {k : ℕ} {start now : Output} {index p : ℕ} → Owning bs k path start now index p
    → length (seen bs).properties ≤ p → Lays (properties_text (seen bs) path 1 (properties_of (seen bs) k)) start now
unfolding property_items each
owning_ends bs path {k} {index = index} {p = p} w h =
    going_ends (going_as (ap (properties_text (seen bs) path (index + 1)) (properties_end (seen bs) k p h)) w.going)

-- A node's lines, and behind them those of its properties.
pub own_put : (t : Tree) (k : ℕ) (path : List ℕ) {a b c : Output} → Lays (item_text t (node k path)) a b
    → Lays (properties_text t path 1 (properties_of t k)) b c → Lays (own_text t k path) a c
unfolding items_at each
own_put t k path p q = lays_join p q
