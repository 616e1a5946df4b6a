-- docs/FORMATS.md, Tree: the lent form of a tree.
use Rattle.std.specs.Prelude.{ℕ, ◌+◌, ◌*◌, List, [], ◌∷◌, ◌++◌, length}
use Rattle.protocol.specs.Bytes.{half, word, text}
use Rattle.protocol.specs.Tree.{Node, Property, Tree}
use Rattle.protocol.specs.Answer.{record_texts}

-- How many bytes a record takes.
abbrev pub node_size : ℕ
node_size = 3

abbrev pub property_size : ℕ
property_size = 16

-- Where the property records begin in a tree of so many nodes, and where the texts begin. Two counts stand in front.
abbrev pub properties_start : ℕ → ℕ
properties_start nodes = 2 + nodes * node_size

abbrev pub texts_start : ℕ → ℕ → ℕ
texts_start nodes properties = properties_start nodes + properties * property_size

-- The texts of all entries, and their records one behind the other, each with the place where its texts lie.
module _ {A : Type 0} (textsIn : A → List ℕ) where
  unfoldable pub all_texts : List A → List ℕ
  all_texts [] = []
  all_texts (x ∷ xs) = textsIn x ++ all_texts xs

  unfoldable pub all_records : (ℕ → A → List ℕ) → ℕ → List A → List ℕ
  all_records recordFor at [] = []
  all_records recordFor at (x ∷ xs) = recordFor at x ++ all_records recordFor (at + length (textsIn x)) xs

-- A node: its parent, and the place of its name.
abbrev pub node_texts : Node → List ℕ
node_texts n = text n.name

unfoldable pub node_record : ℕ → Node → List ℕ
node_record at n = n.parent ∷ half at

-- A property: its node, its type, min, max, attribute and format, and the place of its label, behind which lie its unit or
-- options.
unfoldable pub property_record : ℕ → Property → List ℕ
property_record at p =
    p.node ∷ p.kind ∷ (word p.min ++ (word p.max ++ (half p.attribute ++ (half p.format ++ half at))))

-- The names of all nodes, then the labels and units or options of all properties.
abbrev pub names_of : Tree → List ℕ
names_of t = all_texts node_texts t.nodes

abbrev pub labels_of : Tree → List ℕ
labels_of t = all_texts record_texts t.properties

abbrev pub names_start : Tree → ℕ
names_start t = texts_start (length t.nodes) (length t.properties)

-- The two counts, the node records, the property records, the texts in the same order.
unfoldable pub tree_form : Tree → List ℕ
tree_form t =
    length t.nodes
    ∷ length t.properties
    ∷ (all_records node_texts node_record (names_start t) t.nodes
    ++ (all_records record_texts property_record (names_start t + length (names_of t)) t.properties
    ++ (names_of t ++ labels_of t)))
