-- What the lookups hand back: the numbers of a property, and where a text lies.
use Rattle.std.specs.Prelude.{ℕ, ◌+◌, ◌-◌, ◌*◌, ◌<◌, ◌≤◌, ◌≡◌, Bool, true, cond, List, [], length, take, drop, ltb}
use Rattle.std.specs.declared.ops.Range.{Range}
use Rattle.protocol.specs.Tree.{Property, Tree, places_from, property_in}
use Rattle.tree.specs.Form.{node_size, property_size, properties_start}
use Rattle.tree.specs.Seen.{half_at, node_count, property_count}
use Rattle.tree.specs.declared.record.Fields.{Fields}

-- The fields of a property that are numbers.
pub record FieldsAre (p : Property) (r : Fields) : Type 0 where
  pub node : r.node ≡ p.node
  pub kind : r.kind ≡ p.kind
  pub min : r.min ≡ p.min
  pub max : r.max ≡ p.max
  pub attribute : r.attribute ≡ p.attribute
  pub format : r.format ≡ p.format

-- A property of these numbers, with no texts.
abbrev pub numbers_of : Fields → Property
numbers_of f =
    record {
      node = f.node;
      kind = f.kind;
      min = f.min;
      max = f.max;
      attribute = f.attribute;
      format = f.format;
      label = [];
      options = [];
    }

-- The places, from a place on, of the properties that pass a test; and the next one, or a place behind the last property.
module _ (test : Property → Bool) (t : Tree) where
  unfoldable pub places_in : ℕ → List ℕ
  places_in k = places_from k test (drop k t.properties)

  pub record NextIs (from r : ℕ) : Type 0 where
    pub behind : from ≤ r
    pub same : places_in from ≡ places_in r
    pub is : r < length t.properties → test (property_in t r) ≡ true

-- The next one where a closure tells of a property's numbers what a test tells of the property, whichever test that is.
abbrev pub TellsOf : (Fields → Bool → Type 0) → (Property → Bool) → Type 0
TellsOf post test = (p : Property) (f : Fields) (b : Bool) → FieldsAre p f → post f b → b ≡ test p

abbrev pub NextWhere : (Fields → Bool → Type 0) → Tree → ℕ → ℕ → Type 0
NextWhere post t from r = (test : Property → Bool) → TellsOf post test → NextIs test t from r

-- Where a text begins that is said to lie at a place: there, or at the front where the bytes have ended before it.
abbrev pub text_start : List ℕ → ℕ → ℕ
text_start bs from = cond (ltb (length bs) from) 0 from

-- The same of a node's name and of a property's label; at the front where there is no such node or property.
unfoldable pub name_start : List ℕ → ℕ → ℕ
name_start bs node = cond (ltb node (node_count bs)) (text_start bs (half_at (3 + node * node_size) bs)) 0

unfoldable pub label_start : List ℕ → ℕ → ℕ
label_start bs place =
    cond (ltb place (property_count bs)) (text_start bs (half_at (properties_start (node_count bs) + place * property_size + 14) bs)) 0

-- The part of some bytes, from a place on, that holds a text.
pub record PartIs (from : ℕ) (s bs : List ℕ) (r : Range ℕ) : Type 0 where
  pub starts : r.start ≡ from
  pub ends : r.end ≡ from + length s
  pub within : r.end ≤ length bs
  pub is : take (r.end - r.start) (drop r.start bs) ≡ s
