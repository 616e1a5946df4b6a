-- No public promise is stated by these definitions: they follow the code step by step.
-- The check of a tree. That it comes to `is_tree` is proved in proofs/CheckLaws.
use Rattle.std.specs.Prelude.{ℕ, zero, suc, ◌≡◌, ◌<◌, ◌+◌, ◌*◌, ◌-◌, Bool, true, false, cond, ◌&&◌, List, [], ◌∷◌, ◌++◌, length, get_or, take, drop, eqb, ltb, leb}
use Rattle.std.specs.Prelude as std
use denote.Bor.{Bor}
use Rattle.std.proofs.Math.Option.{Option, none, some}
use Rattle.protocol.specs.Refusal.{option_of}
use Rattle.protocol.specs.Numbers.{standard, enumeration, max_depth, name_room, max_nodes, max_properties, max_option, max_texts}
use Rattle.protocol.specs.Tree.{Property, is_character, standard_fits, live_sound}
use Rattle.tree.specs.Form.{node_size, property_size, properties_start, texts_start}
use Rattle.tree.specs.Seen.{half_at, word_at, records_from, option_count, property_seen, node_count, property_count}

-- How many characters stand in front of some bytes.
unfoldable pub characters_in : List ℕ → ℕ
characters_in [] = 0
characters_in (b ∷ bs) = cond (is_character b) (suc (characters_in bs)) 0

-- The place after some texts, which lie at the front of bytes that begin at a place: none where a byte is no character, or
-- where the bytes end before the texts do. A zero ends a text, and the last that is left ends them all.
unfoldable pub texts_end : List ℕ → ℕ → ℕ → Option ℕ
texts_end [] left at = none
texts_end (b ∷ bs) left at =
    cond (eqb b 0)
    (cond (leb left 1) (some (suc at)) (texts_end bs (left - 1) (suc at)))
    (cond (is_character b) (texts_end bs left (suc at)) none)

-- The same of texts in a tree, which may take so many bytes.
abbrev pub texts_end_in : List ℕ → ℕ → ℕ → ℕ → Option ℕ
texts_end_in bs room left at = texts_end (take room (drop at bs)) left at

unfoldable pub and_then : Option ℕ → (ℕ → Option ℕ) → Option ℕ
and_then none f = none
and_then (some n) f = f n

-- A node's record where the texts before it ended at a place: the place that it names is that one, and a name lies there. Gives
-- the end of the name.
unfoldable pub node_end : List ℕ → List ℕ → ℕ → Option ℕ
node_end bs r at = cond (eqb (half_at 1 r) at) (texts_end_in bs name_room 1 at) none

-- The rules of a property's numbers. (How many options there are follows from them.)
unfoldable pub kind_fits : Property → Bool
kind_fits p =
    cond (eqb p.kind standard)
    (standard_fits p)
    (eqb p.kind enumeration && (eqb p.min 0 && leb p.max max_option))

unfoldable pub fields_fit : ℕ → Property → Bool
fields_fit nodes p = ltb p.node nodes && (live_sound p && kind_fits p)

unfoldable pub property_end : List ℕ → List ℕ → ℕ → Option ℕ
property_end bs r at =
    cond (fields_fit (node_count bs) (property_seen bs r) && eqb (half_at 14 r) at)
    (and_then (texts_end_in bs name_room 1 at) (λ mid. texts_end_in bs max_texts (option_count (get_or r 1 0) (word_at 6 r)) mid))
    none

-- Records one after the other, each from where the texts of the one before ended.
module _ (size : ℕ) (recordEnd : List ℕ → ℕ → Option ℕ) where
  unfoldable pub records_end : ℕ → List ℕ → ℕ → Option ℕ
  records_end zero r at = some at
  records_end (suc n) r at = and_then (recordEnd r at) (λ next. records_end n (drop size r) next)

-- The end of so many records as code finds it, whose `post` tells of each what `recordEnd` tells of its bytes.
module _ (post : Bor (List ℕ) → ℕ → ℕ → std.Option ℕ → Type 0) (bs : List ℕ) (count : ℕ) where
  abbrev pub Tells : ℕ → ℕ → (List ℕ → ℕ → Option ℕ) → Type 0
  Tells size from recordEnd =
      (t : Bor (List ℕ)) (k at : ℕ) (o : std.Option ℕ) → t.now ≡ bs → k < count → post t k at o → o ≡ option_of (recordEnd (drop (from + k * size) bs) at)

  abbrev pub RecordsEnd : ℕ → std.Option ℕ → Type 0
  RecordsEnd start r =
      (size from : ℕ) (recordEnd : List ℕ → ℕ → Option ℕ) → Tells size from recordEnd
      → r ≡ option_of (records_end size recordEnd count (drop from bs) start)

-- Parents, each of which stands before its child, and depths: those of the nodes passed are known.
unfoldable pub depths_fit : List ℕ → List ℕ → Bool
depths_fit [] known = true
depths_fit (p ∷ ps) known =
    ltb p (length known) && (ltb (get_or known p 0) max_depth && depths_fit ps (known ++ suc (get_or known p 0) ∷ []))

-- The parents of all nodes, the device's first.
abbrev pub parents_in : List ℕ → List ℕ
parents_in bs = records_from node_size (λ r. get_or r 0 0) (node_count bs) (drop 2 bs)

unfoldable pub parents_fit : List ℕ → Bool
parents_fit [] = false
parents_fit (p ∷ ps) = eqb p 0 && depths_fit ps (1 ∷ [])

-- The counts fit, and the records are all there.
unfoldable pub counts_fit : List ℕ → Bool
counts_fit bs =
    leb 2 (length bs)
    && (leb (node_count bs) max_nodes
    && (leb (property_count bs) max_properties && leb (texts_start (node_count bs) (property_count bs)) (length bs)))

-- The texts of all records, from where they begin to the last byte.
unfoldable pub texts_fit : List ℕ → Option ℕ
texts_fit bs =
    and_then (records_end node_size (node_end bs) (node_count bs) (drop 2 bs) (texts_start (node_count bs) (property_count bs)))
    (λ mid. records_end property_size (property_end bs) (property_count bs) (drop (properties_start (node_count bs)) bs) mid)

abbrev pub ends_at : Option ℕ → ℕ → Bool
ends_at none n = false
ends_at (some m) n = eqb m n

unfoldable pub checked : List ℕ → Bool
checked bs = counts_fit bs && (parents_fit (parents_in bs) && ends_at (texts_fit bs) (length bs))
