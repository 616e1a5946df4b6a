-- 01, The tree: nodes, properties, the rules they keep, and the cells beside them.
use Rattle.std.specs.Prelude.{ℕ, zero, suc, ◌/◌, ◌%◌, ◌^◌, Bool, true, false, cond, not, ◌&&◌, List, [], ◌∷◌, ◌++◌, length, get_or, drop, set, eqb, ltb, leb}
use Rattle.std.proofs.Math.Option.{Option, none, some}
use Rattle.std.proofs.Math.ListN.{get_elem?}
use Rattle.protocol.specs.declared.NodeNumber.{NodeNumber}
use Rattle.protocol.specs.declared.PropertyIndex.{PropertyIndex}
use Rattle.protocol.specs.Numbers.{done, not_live, standard, enumeration, bit_read, bit_write, bit_live, bit_signed, bit_step, step_bits, last_step_code, max_depth, max_nodes, max_properties, max_name, max_texts, max_option, first_character, last_character, half_end, word_end}
use Rattle.protocol.specs.Bytes.{every, texts, bit, at_most}

-- A node names its parent by the parent's place in the list. The device, which has none, names itself, place 0.
pub record Node : Type 0 where
  pub parent : ℕ
  pub name : List ℕ

-- A property names its node by the node's place. `kind` is the record type; `options` holds the one unit text of type 1 or
-- the options of type 2.
pub record Property : Type 0 where
  pub node : ℕ
  pub kind : ℕ
  pub min : ℕ
  pub max : ℕ
  pub attribute : ℕ
  pub format : ℕ
  pub label : List ℕ
  pub options : List (List ℕ)

pub record Tree : Type 0 where
  pub nodes : List Node
  pub properties : List Property

-- The three attribute bits that count.
abbrev pub can_read : Property → Bool
can_read p = bit bit_read p.attribute

abbrev pub can_write : Property → Bool
can_write p = bit bit_write p.attribute

abbrev pub is_live : Property → Bool
is_live p = bit bit_live p.attribute

-- Format bit 15.
abbrev pub is_signed : Property → Bool
is_signed p = bit bit_signed p.format

-- 02, section 6: the step code, format bits 11 to 8.
abbrev pub step_code : Property → ℕ
step_code p = p.format / 2 ^ bit_step % 2 ^ step_bits

-- An action: write and no read.
abbrev pub is_action : Property → Bool
is_action p = can_write p && not (can_read p)

-- The places, counted from k, of the entries that pass a test, in list order.
module _ {A : Type 0} where
  unfoldable pub places_from : ℕ → (A → Bool) → List A → List ℕ
  places_from k f [] = []
  places_from k f (x ∷ xs) = cond (f x) (k ∷ []) [] ++ places_from (suc k) f xs

-- The entry with a number. The first has 1.
unfoldable pub numbered : List ℕ → ℕ → Option ℕ
numbered xs zero = none
numbered xs (suc n) = get_elem? xs n

-- The places of a node's children, in list order. The device is nobody's child.
unfoldable pub children_of : Tree → ℕ → List ℕ
children_of t place = places_from 1 (λ n. eqb n.parent place) (drop 1 t.nodes)

-- The places of a node's properties, in list order.
unfoldable pub properties_of : Tree → ℕ → List ℕ
properties_of t place = places_from 0 (λ p. eqb p.node place) t.properties

-- 02, section 5: the places of the live properties, in list order.
unfoldable pub live_of : Tree → List ℕ
live_of t = places_from 0 is_live t.properties

-- A child by its node number, and a property by its property index: one type for each, so that neither stands for the other.
abbrev pub child_of : Tree → ℕ → NodeNumber → Option ℕ
child_of t place n = numbered (children_of t place) n.0

abbrev pub property_of : Tree → ℕ → PropertyIndex → Option ℕ
property_of t place i = numbered (properties_of t place) i.0

-- The node of a path: from a node at a place, child after child; from the top, the device, whose path is 1.
unfoldable pub descend : Tree → ℕ → List ℕ → Option ℕ
descend t place [] = some place
descend t place (n ∷ ns) = elim (child_of t place (record { 0 = n })) [ none ↦ none | some child ↦ descend t child ns ]

unfoldable pub node_at : Tree → List ℕ → Option ℕ
node_at t [] = none
node_at t (n ∷ ns) = cond (eqb n 1) (descend t 0 ns) none

-- What stands at a place of a list. (No answer comes from a place past the end.)
abbrev pub node_in : Tree → ℕ → Node
node_in t place = get_or t.nodes place (record { parent = 0; name = [] })

abbrev pub property_in : Tree → ℕ → Property
property_in t place =
    get_or t.properties place
    (record {
      node = 0;
      kind = 0;
      min = 0;
      max = 0;
      attribute = 0;
      format = 0;
      label = [];
      options = [];
    })

-- The rules. Characters are 20h to 7Eh.
abbrev pub is_character : ℕ → Bool
is_character b = leb first_character b && leb b last_character

abbrev pub is_text : List ℕ → Bool
is_text s = every is_character s

-- A name or label: at most 23 characters.
unfoldable pub is_name : List ℕ → Bool
is_name s = leb (length s) max_name && is_text s

-- Each node from place k on names a parent that stands before it.
unfoldable pub parents_from : ℕ → List Node → Bool
parents_from k [] = true
parents_from k (n ∷ ns) = ltb n.parent k && parents_from (suc k) ns

unfoldable pub parents_sound : List Node → Bool
parents_sound [] = false
parents_sound (device ∷ ns) = eqb device.parent 0 && parents_from 1 ns

-- The depth of each node, after those whose depths are known: the device has 1, a child one more than its parent.
unfoldable pub depths_after : List ℕ → List Node → List ℕ
depths_after known [] = known
depths_after known (n ∷ ns) = depths_after (known ++ suc (get_or known n.parent 0) ∷ []) ns

-- The depth limit.
unfoldable pub depths_sound : List Node → Bool
depths_sound ns = every (λ d. leb d max_depth) (depths_after [] ns)

-- A live property has read and not write.
unfoldable pub live_sound : Property → Bool
live_sound p = cond (is_live p) (can_read p && not (can_write p)) true

-- Type 1, its numbers: min at most max in the order that format bit 15 gives, and (02, section 6) a code that means a step.
abbrev pub standard_fits : Property → Bool
standard_fits p = at_most (is_signed p) p.min p.max && leb (step_code p) last_step_code

-- Type 1: one text, and numbers that fit.
unfoldable pub standard_sound : Property → Bool
standard_sound p = eqb (length p.options) 1 && standard_fits p

-- Type 2: min 0, max at most 15, one option for each value.
unfoldable pub enumeration_sound : Property → Bool
enumeration_sound p = eqb p.min 0 && (leb p.max max_option && eqb (length p.options) (suc p.max))

unfoldable pub kind_sound : Property → Bool
kind_sound p = cond (eqb p.kind standard) (standard_sound p) (eqb p.kind enumeration && enumeration_sound p)

-- A unit or all options of a property: characters, and at most 160 bytes with their zeros.
unfoldable pub options_sound : List (List ℕ) → Bool
options_sound ss = every is_text ss && leb (length (texts ss)) max_texts

abbrev pub widths_sound : Property → Bool
widths_sound p =
    ltb p.min word_end && (ltb p.max word_end && (ltb p.attribute half_end && ltb p.format half_end))

-- One property, in a tree of so many nodes.
unfoldable pub property_sound : ℕ → Property → Bool
property_sound nodes p =
    ltb p.node nodes
    && (widths_sound p && (live_sound p && (kind_sound p && (is_name p.label && options_sound p.options))))

-- The two counts, and every rule above.
unfoldable pub nodes_sound : List Node → Bool
nodes_sound ns =
    leb (length ns) max_nodes && (parents_sound ns && (depths_sound ns && every (λ n. is_name n.name) ns))

unfoldable pub properties_sound : Tree → Bool
properties_sound t =
    leb (length t.properties) max_properties && every (property_sound (length t.nodes)) t.properties

unfoldable pub sound : Tree → Bool
sound t = nodes_sound t.nodes && properties_sound t

-- The cell of a property: its word, and its ready mark, which counts for a live property alone.
pub record Cell : Type 0 where
  pub word : ℕ
  pub ready : Bool

abbrev pub cell_in : List Cell → ℕ → Cell
cell_in cs place = get_or cs place (record { word = 0; ready = false })

unfoldable pub cells_sound : Tree → List Cell → Bool
cells_sound t cs = eqb (length cs) (length t.properties) && every (λ c. ltb c.word word_end) cs

-- Row 12: a property has a number to read where it has read and, if it is live, its cell is ready.
unfoldable pub readable : Property → Cell → Bool
readable p c = can_read p && cond (is_live p) c.ready true

-- Row 12 and demand 2: the number that a property has to read, or none.
unfoldable pub reading : Property → Cell → Option ℕ
reading p c = cond (readable p c) (some c.word) none

-- House: saved cells that are lent again. What was read before the restart is no reading: a live property is not ready until the
-- converter posts to it. Its word, and the cell of any other property, stay.
abbrev pub unready : Cell → Cell
unready c = record { word = c.word; ready = false }

abbrev pub restored_cell : Property → Cell → Cell
restored_cell p c = cond (is_live p) (unready c) c

unfoldable pub restored : List Property → List Cell → List Cell
restored [] cs = cs
restored (p ∷ ps) [] = []
restored (p ∷ ps) (c ∷ cs) = restored_cell p c ∷ restored ps cs

-- A cell that the converter posted to: marked not ready it keeps its word.
abbrev pub posted : Cell → ℕ → Bool → Cell
posted c w true = record { word = w; ready = true }
posted c w false = unready c

pub record Posting : Type 0 where
  pub number : ℕ
  pub cells : List Cell

-- A posting: row 14 for a place with no property or with one that is not live.
unfoldable pub post : Tree → List Cell → ℕ → ℕ → Bool → Posting
post t cs place w ready =
    cond (ltb place (length t.properties) && is_live (property_in t place))
    (record { number = done; cells = set cs place (posted (cell_in cs place) w ready) })
    (record { number = not_live; cells = cs })
