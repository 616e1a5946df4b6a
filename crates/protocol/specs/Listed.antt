-- 02, section 1: every node and property of a sound tree stands in the listing exactly once. Here is what theorems need to say
-- this: how often one stands there, what the walk gives for a node's children, and that lines end where they should.
use Rattle.std.specs.Prelude.{ℕ, suc, ◌+◌, ◌≡◌, Bool, cond, not, List, [], ◌∷◌, ◌++◌, eqb}
use Rattle.std.proofs.Math.Option.{Option, none, some}
use Rattle.protocol.specs.Bytes.{every}
use Rattle.protocol.specs.Tree.{Tree, property_of, node_at}
use Rattle.protocol.specs.Listing.{Visit, Item, node, property, Entry, node_entry, property_entry}

-- What the entries of a list count for together.
module _ {A : Type 0} (f : A → ℕ) where
  unfoldable pub total : List A → ℕ
  total [] = 0
  total (x ∷ xs) = f x + total xs

-- A fact of every entry of a list.
module _ {A : Type 0} (P : A → Type 0) where
  abbrev pub All : List A → Type 0
  All [] = Unit {0}
  All (x ∷ xs) = P x × All xs

-- The one place counts for 1, and any other for 0.
abbrev pub one : ℕ → ℕ → ℕ
one k j = cond (eqb k j) 1 0

abbrev pub node_is : ℕ → Item → ℕ
node_is k (node j path) = one k j
node_is k (property p path index) = 0

abbrev pub property_is : ℕ → Item → ℕ
property_is k (node j path) = 0
property_is k (property p path index) = one k p

-- How often the node at a place, and the property at a place, stand among items.
abbrev pub node_times : ℕ → List Item → ℕ
node_times k is = total (node_is k) is

abbrev pub property_times : ℕ → List Item → ℕ
property_times k is = total (property_is k) is

-- The path that is printed of a node, and the path and index of a property, are those by which a request finds it.
unfoldable pub property_found : Tree → List ℕ → ℕ → Option ℕ
property_found t path index = elim (node_at t path) [ none ↦ none | some k ↦ property_of t k (record { 0 = index }) ]

abbrev pub FindsItem : Tree → Item → Type 0
FindsItem t (node k path) = node_at t path ≡ some k
FindsItem t (property p path index) = property_found t path index ≡ some p

-- What each entry gives with its number, counted from n, one behind the other.
unfoldable pub each_from : (ℕ → ℕ → List Visit) → ℕ → List ℕ → List Visit
each_from f n [] = []
each_from f n (x ∷ xs) = f x n ++ each_from f (suc n) xs

-- A list that a number does not stand in.
abbrev pub lacks : ℕ → List ℕ → Bool
lacks x s = every (λ c. not (eqb c x)) s

-- An entry whose name or label has no 0Ah: each of its lines ends where it should.
abbrev pub unbroken : Entry → Bool
unbroken (node_entry path name children properties) = lacks 10 name
unbroken (property_entry path index label kind) = lacks 10 label
