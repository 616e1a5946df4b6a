-- docs/FORMATS.md, Tree: what is seen in lent bytes, whatever they are. A byte past the end is 0, and a text that no zero ends
-- goes to the end.
use Rattle.std.specs.Prelude.{ℕ, zero, suc, ◌+◌, ◌%◌, Bool, true, false, cond, ◌&&◌, List, [], ◌∷◌, get_or, take, drop, eqb}
use Rattle.protocol.specs.Numbers.{enumeration}
use Rattle.protocol.specs.Bytes.{number}
use Rattle.protocol.specs.Request.{before_zero}
use Rattle.protocol.specs.Tree.{Node, Property, Tree}
use Rattle.tree.specs.Form.{node_size, property_size, properties_start}

-- Numbers of 16 and 32 bits at a place.
unfoldable pub half_at : ℕ → List ℕ → ℕ
half_at i r = number (get_or r i 0 ∷ get_or r (i + 1) 0 ∷ [])

unfoldable pub word_at : ℕ → List ℕ → ℕ
word_at i r = number (get_or r i 0 ∷ get_or r (i + 1) 0 ∷ get_or r (i + 2) 0 ∷ get_or r (i + 3) 0 ∷ [])

-- The text at the front, what lies behind it, and several texts.
abbrev pub first_text : List ℕ → List ℕ
first_text bs = take (before_zero bs) bs

abbrev pub after_text : List ℕ → List ℕ
after_text bs = drop (suc (before_zero bs)) bs

unfoldable pub texts_from : ℕ → List ℕ → List (List ℕ)
texts_from zero bs = []
texts_from (suc n) bs = first_text bs ∷ texts_from n (after_text bs)

-- Records of one size, each read by `read`.
module _ {A : Type 0} (size : ℕ) (read : List ℕ → A) where
  unfoldable pub records_from : ℕ → List ℕ → List A
  records_from zero r = []
  records_from (suc n) r = read r ∷ records_from n (drop size r)

-- The node whose record begins r, in a tree of bytes bs.
unfoldable pub node_seen : List ℕ → List ℕ → Node
node_seen bs r = record { parent = get_or r 0 0; name = first_text (drop (half_at 1 r) bs) }

-- How many texts are a unit or options: one, or for an enumeration one for each value. Max is at most 15 there, or the tree is
-- not sound.
unfoldable pub option_count : ℕ → ℕ → ℕ
option_count kind max = cond (eqb kind enumeration) (suc (max % 16)) 1

unfoldable pub property_seen : List ℕ → List ℕ → Property
property_seen bs r =
    record {
      node = get_or r 0 0;
      kind = get_or r 1 0;
      min = word_at 2 r;
      max = word_at 6 r;
      attribute = half_at 10 r;
      format = half_at 12 r;
      label = first_text (drop (half_at 14 r) bs);
      options = texts_from (option_count (get_or r 1 0) (word_at 6 r)) (after_text (drop (half_at 14 r) bs));
    }

abbrev pub node_count : List ℕ → ℕ
node_count bs = get_or bs 0 0

abbrev pub property_count : List ℕ → ℕ
property_count bs = get_or bs 1 0

unfoldable pub seen : List ℕ → Tree
seen bs =
    record {
      nodes = records_from node_size (node_seen bs) (node_count bs) (drop 2 bs);
      properties = records_from property_size (property_seen bs) (property_count bs) (drop (properties_start (node_count bs)) bs);
    }

-- Two lists are the same.
unfoldable pub same : List ℕ → List ℕ → Bool
same [] [] = true
same [] (y ∷ ys) = false
same (x ∷ xs) [] = false
same (x ∷ xs) (y ∷ ys) = eqb x y && same xs ys
