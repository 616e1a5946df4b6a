-- 02, section 1: the listing of a tree. Only the tree is shown: no cell is looked at.
use Rattle.std.specs.Prelude.{ℕ, suc, true, false, List, [], ◌∷◌, ◌++◌, map, length, drop, eqb}
use Rattle.protocol.specs.Tree.{Node, Tree, children_of, properties_of, node_in, property_in}
use Rattle.protocol.specs.Text.{each, decimal, dotted, line}

-- A node as the walk comes to it: its place in the list, and its path.
pub record Visit : Type 0 where
  pub place : ℕ
  pub path : List ℕ

abbrev visit : ℕ → List ℕ → Visit
visit place path = record { place = place; path = path }

-- Of the nodes from place j on, those below the node at place k, which has a path and whose next child has number n: each child
-- before what stands below it. (What stands below a node stands behind it in the list.)
unfoldable pub below : List Node → ℕ → ℕ → List ℕ → ℕ → List Visit
below [] j k path n = []
below (x ∷ xs) j k path n =
    elim (eqb x.parent k) [
      | true ↦ visit j (path ++ n ∷ []) ∷ (below xs (suc j) j (path ++ n ∷ []) 1 ++ below xs (suc j) k path (suc n))
      | false ↦ below xs (suc j) k path n
    ]

-- A node, then its children's subtrees in number order; `subtree_is` says this of `children_of`.
unfoldable pub subtree : Tree → ℕ → List ℕ → List Visit
subtree t k path = visit k path ∷ below (drop (suc k) t.nodes) (suc k) k path 1

-- The whole tree, from the device on, whose path is 1.
unfoldable pub walk : Tree → List Visit
walk t = subtree t 0 (1 ∷ [])

-- What is printed one behind the other: a node or a property, by its place in its list, with the node's path; a property with its
-- index too.
pub data Item : Type 0 where
  node : ℕ → List ℕ → Item
  property : ℕ → List ℕ → ℕ → Item

-- Properties in list order, from an index on.
unfoldable pub property_items : List ℕ → ℕ → List ℕ → List Item
property_items path index [] = []
property_items path index (p ∷ ps) = property p path index ∷ property_items path (suc index) ps

-- Each node, then its properties.
unfoldable pub items_at : Tree → Visit → List Item
items_at t v = node v.place v.path ∷ property_items v.path 1 (properties_of t v.place)

unfoldable pub items : Tree → List Item
items t = each (items_at t) (walk t)

-- What is printed of a node: its path, its name, and how many children and properties it has; and of a property: its node's path,
-- its index, its label and its type.
pub data Entry : Type 0 where
  node_entry : List ℕ → List ℕ → ℕ → ℕ → Entry
  property_entry : List ℕ → ℕ → List ℕ → ℕ → Entry

unfoldable pub entry_of : Tree → Item → Entry
entry_of t (node k path) =
    node_entry path (node_in t k).name (length (children_of t k)) (length (properties_of t k))
entry_of t (property p path index) = property_entry path index (property_in t p).label (property_in t p).kind

-- "path", "name", "children", "properties", "index", "label", "type"
abbrev pub path_key : List ℕ
path_key = 112 ∷ 97 ∷ 116 ∷ 104 ∷ []

abbrev pub name_key : List ℕ
name_key = 110 ∷ 97 ∷ 109 ∷ 101 ∷ []

abbrev pub children_key : List ℕ
children_key = 99 ∷ 104 ∷ 105 ∷ 108 ∷ 100 ∷ 114 ∷ 101 ∷ 110 ∷ []

abbrev pub properties_key : List ℕ
properties_key = 112 ∷ 114 ∷ 111 ∷ 112 ∷ 101 ∷ 114 ∷ 116 ∷ 105 ∷ 101 ∷ 115 ∷ []

abbrev pub index_key : List ℕ
index_key = 105 ∷ 110 ∷ 100 ∷ 101 ∷ 120 ∷ []

abbrev pub label_key : List ℕ
label_key = 108 ∷ 97 ∷ 98 ∷ 101 ∷ 108 ∷ []

abbrev pub type_key : List ℕ
type_key = 116 ∷ 121 ∷ 112 ∷ 101 ∷ []

-- The lines of an entry.
unfoldable pub entry_text : Entry → List ℕ
entry_text (node_entry path name children properties) =
    line path_key (dotted path)
    ++ (line name_key name ++ (line children_key (decimal children) ++ line properties_key (decimal properties)))
entry_text (property_entry path index label kind) =
    line path_key (dotted path)
    ++ (line index_key (decimal index) ++ (line label_key label ++ line type_key (decimal kind)))

-- What is listed of a tree, and its listing.
unfoldable pub entries : Tree → List Entry
entries t = map (entry_of t) (items t)

unfoldable pub listing : Tree → List ℕ
listing t = each entry_text (entries t)
