-- No public promise is stated by these definitions: they follow the code step by step.
use Rattle.std.specs.Prelude.{ℕ, ◌<◌, ◌≡◌, List, [], map, length, get_or}
use Rattle.protocol.specs.Tree.{Tree, depths_after}
use Rattle.protocol.specs.Text.{each}
use Rattle.protocol.specs.Listing.{Visit, Item, items_at, property_items, entry_of, entry_text}
use Rattle.tree.specs.Seen.{seen}

-- The lines of an item, of several, of a node's properties, of a node with its properties, and of all that the walk comes to.
abbrev pub item_text : Tree → Item → List ℕ
item_text t i = entry_text (entry_of t i)

abbrev pub items_text : Tree → List Item → List ℕ
items_text t xs = each entry_text (map (entry_of t) xs)

abbrev pub properties_text : Tree → List ℕ → ℕ → List ℕ → List ℕ
properties_text t path index ps = items_text t (property_items path index ps)

abbrev pub own_text : Tree → ℕ → List ℕ → List ℕ
own_text t k path = items_text t (items_at t (record { place = k; path = path }))

abbrev pub walk_text : Tree → List Visit → List ℕ
walk_text t vs = items_text t (each (items_at t) vs)

-- A node of a tree, whose path is as long as the node is deep.
pub record Stands (tree : List ℕ) (k len : ℕ) : Type 0 where
  pub within : k < length (seen tree).nodes
  pub depth : len ≡ get_or (depths_after [] (seen tree).nodes) k 0
