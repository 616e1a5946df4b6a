-- A property's numbers, and the texts of nodes and properties, at their places in lent bytes.
-- Assumes nothing.
use Prim.Native.Nat.{ℕ, zero, suc, ◌+◌, ◌-◌, ◌*◌, ◌%◌, ◌<◌, ◌≤◌}
use native.Mathlib.Omega.{arith}
use native.Mathlib.Nat.{add-zero}
use native.Mathlib.Numerals.{add-one}
use mathlib.Core.Path.{◌≡◌, refl, sym, ap, ap₂, subst, ◌∙◌}
use mathlib.Core.Bool.{Bool, true, false, cond}
use mathlib.Core.List.{List, [], ◌∷◌, ◌++◌, append-nil}
use borrow.Author.Tests.{ltb-true, ltb-false, lt-ltb, le-ltb}
use lib.ListN.{length, get_or, take, drop, replicate, length-append, length-drop, take-append-drop, drop_of_length-le, get_or-eq_default}
use lib.Seq.{get_or-drop, drop-drop, drop-length, length-take-le}
use lib.Dec.{eqb, ltb}
use Rattle.protocol.specs.Numbers.{enumeration}
use Rattle.protocol.specs.Bytes.{text, texts}
use Rattle.protocol.specs.Buffer.{Put}
use Rattle.protocol.specs.Request.{before_zero}
use Rattle.protocol.specs.Text.{begins}
use Rattle.protocol.specs.Tree.{Node, Property, Tree, node_in, property_in}
use Rattle.protocol.specs.Answer.{record_texts}
use Rattle.protocol.proofs.BufferLaws.{part_lent}
use Rattle.protocol.proofs.RequestLaws.{zero_within}
use Rattle.protocol.proofs.LoadLaws.{begins_front}
use Rattle.std.specs.declared.ops.Range.{Range}
use Rattle.tree.specs.declared.record.Fields.{Fields}
use Rattle.tree.specs.Form.{node_size, property_size, properties_start}
use Rattle.tree.specs.Seen.{half_at, word_at, first_text, after_text, texts_from, node_seen, property_seen, option_count, node_count, property_count, seen}
use Rattle.tree.specs.Steps.{PlaceIs, entries, start_of, text_of}
use Rattle.std.proofs.Common as std
use Rattle.std.proofs.Common.{Some, None, unwrap_or}
use Rattle.tree.specs.Lookup.{FieldsAre, text_start, name_start, label_start, PartIs}
use Rattle.tree.proofs.RecordLaws.{records_length, records_at}
use Rattle.tree.proofs.NumberLaws.{entries_at, entries_alike, half_behind, word_behind}
use Rattle.tree.proofs.TextLaws.{texts-one}

-- Where the record of a node begins, and that of a property.
abbrev node_place : ℕ → ℕ
node_place place = 2 + place * node_size

abbrev property_place : List ℕ → ℕ → ℕ
property_place bs place = properties_start (node_count bs) + place * property_size

-- What stands where there is no such place.
abbrev empty_tree : Tree
empty_tree = record { nodes = []; properties = [] }

abbrev no_node : Node
no_node = node_in empty_tree 0

abbrev no_property : Property
no_property = property_in empty_tree 0

-- How many nodes and properties are seen.
module _ (bs : List ℕ) where
  pub node_count_lem : length (seen bs).nodes ≡ node_count bs
  unfolding seen
  node_count_lem = records_length node_size (node_seen bs) (node_count bs) (drop 2 bs)

  pub property_count_lem : length (seen bs).properties ≡ property_count bs
  unfolding seen
  property_count_lem =
      records_length property_size (property_seen bs) (property_count bs) (drop (properties_start (node_count bs)) bs)

-- What stands at a place of a tree that is seen.
module _ (bs : List ℕ) (place : ℕ) where
  pub node_at_lem : place < node_count bs → node_in (seen bs) place ≡ node_seen bs (drop (node_place place) bs)
  unfolding seen
  node_at_lem h =
      records_at node_size (node_seen bs) (node_count bs) (drop 2 bs) place no_node h
      ∙ ap (node_seen bs) (drop-drop (place * node_size) 2 bs)

  pub node_none : node_count bs ≤ place → node_in (seen bs) place ≡ no_node
  node_none h = get_or-eq_default (seen bs).nodes no_node {n = place} (omega (arith, node_count_lem bs))

  pub property_at_lem : place < property_count bs → property_in (seen bs) place ≡ property_seen bs (drop (property_place bs place) bs)
  unfolding seen
  property_at_lem h =
      records_at property_size (property_seen bs) (property_count bs) (drop (properties_start (node_count bs)) bs) place no_property h
      ∙ ap (property_seen bs) (drop-drop (place * property_size) (properties_start (node_count bs)) bs)

  pub property_none : property_count bs ≤ place → property_in (seen bs) place ≡ no_property
  property_none h = get_or-eq_default (seen bs).properties no_property {n = place} (omega (arith, property_count_lem bs))

-- A property has few options.
pub options_few : (kind max : ℕ) → option_count kind max ≤ 16
unfolding option_count
options_few kind max = few (eqb kind enumeration)
  where
    few : (t : Bool) → cond t (suc (max % 16)) 1 ≤ 16
    few true = omega arith
    few false = omega arith

-- The bytes of a record that are left, with zeros behind them, are the record.
zero_at_lem : (n k : ℕ) → ◌≡◌ {A = ℕ} (get_or (replicate n 0) k 0) 0
zero_at_lem zero k = refl
zero_at_lem (suc n) zero = refl
zero_at_lem (suc n) (suc k) = zero_at_lem n k

padded : (xs ys : List ℕ) → ((k : ℕ) → get_or ys k 0 ≡ 0) → (k : ℕ) → get_or (xs ++ ys) k 0 ≡ get_or xs k 0
padded [] ys none k = none k
padded (x ∷ xs) ys none zero = refl
padded (x ∷ xs) ys none (suc k) = padded xs ys none k

pub cut_is : (bs : List ℕ) (at : ℕ) → length bs < at + property_size
    → drop at bs ++ drop (length (drop at bs)) (replicate property_size 0) ≡ entries at property_size bs
cut_is bs at h =
    let rest : List ℕ = drop at bs in
    let zeros : List ℕ = replicate property_size 0 in
    entries_alike property_size at bs (rest ++ drop (length rest) zeros)
    (simp (length-append, length-drop) (omega (arith, length-drop at bs)))
    (λ k l.
    padded rest (drop (length rest) zeros) (λ i. get_or-drop (length rest) zeros i 0 ∙ zero_at_lem property_size (length rest + i)) k
    ∙ get_or-drop at bs k 0)

pub cut_rest : (bs : List ℕ) (at : ℕ) {rest put : List ℕ} → length bs < at + property_size → rest ≡ take (length bs - at) (drop at bs) → put ≡ rest
    → put ++ drop (length rest) (replicate property_size 0) ≡ entries at property_size bs
cut_rest bs at h e f =
    let is = e ∙ part_lent at bs in
    ap₂ (λ x y. x ++ drop (length y) (replicate property_size 0)) (f ∙ is) is ∙ cut_is bs at h

pub cut_behind : (bs : List ℕ) (at : ℕ) → length bs ≤ at → replicate property_size 0 ≡ entries at property_size bs
cut_behind bs at h =
    ap (λ l. l ++ drop (length l) (replicate property_size 0)) (sym (drop_of_length-le bs {i = at} h)) ∙ cut_is bs at (omega (arith, h))

-- The numbers of a record are those of any bytes that begin alike.
fields_alike : (x y bs : List ℕ) {r : Fields} → ((k : ℕ) → k < property_size → get_or x k 0 ≡ get_or y k 0)
    → FieldsAre (property_seen [] x) r → FieldsAre (property_seen bs y) r
unfolding property_seen half_at word_at
fields_alike x y bs e f =
    record {
      node = f.node ∙ e 0 (omega arith);
      kind = f.kind ∙ e 1 (omega arith);
      min = f.min ∙ rw (e 2 (omega arith), e 3 (omega arith), e 4 (omega arith), e 5 (omega arith));
      max = f.max ∙ rw (e 6 (omega arith), e 7 (omega arith), e 8 (omega arith), e 9 (omega arith));
      attribute = f.attribute ∙ rw (e 10 (omega arith), e 11 (omega arith));
      format = f.format ∙ rw (e 12 (omega arith), e 13 (omega arith));
    }

pub fields_cut : (bs : List ℕ) (at : ℕ) {r : Fields} → FieldsAre (property_seen [] (entries at property_size bs)) r
    → FieldsAre (property_seen bs (drop at bs)) r
fields_cut bs at =
    fields_alike (entries at property_size bs) (drop at bs) bs (λ k h. entries_at property_size at bs k h ∙ sym (get_or-drop at bs k 0))

pub fields_whole : (bs : List ℕ) (at : ℕ) {r : Fields} → FieldsAre (property_seen [] (take (length bs - at) (drop at bs))) r
    → FieldsAre (property_seen bs (drop at bs)) r
fields_whole bs at =
    fields_alike (take (length bs - at) (drop at bs)) (drop at bs) bs (λ k h. ap (λ l. get_or l k 0) (part_lent at bs))

module _ (bs : List ℕ) (place : ℕ) where
  pub fields_at : {at : ℕ} {r : Fields} → place < property_count bs → at ≡ property_place bs place
      → FieldsAre (property_seen bs (drop at bs)) r → FieldsAre (property_in (seen bs) place) r
  fields_at {r = r} h e f =
      subst (λ p. FieldsAre p r) (sym (property_at_lem bs place h)) (subst (λ n. FieldsAre (property_seen bs (drop n bs)) r) e f)

  pub fields_none : {r : Fields} → property_count bs ≤ place
      → (r.node ≡ 0) × ((r.kind ≡ 0) × ((r.min ≡ 0) × ((r.max ≡ 0) × ((r.attribute ≡ 0) × (r.format ≡ 0)))))
      → FieldsAre (property_in (seen bs) place) r
  fields_none {r} h e =
      subst (λ p. FieldsAre p r) (sym (property_none bs place h))
      (record { node = e.0; kind = e.1.0; min = e.1.1.0; max = e.1.1.1.0; attribute = e.1.1.1.1.0; format = e.1.1.1.1.1 })

-- Texts of bytes: one, one and more behind it, and one where the bytes have ended.
text_first : (bs : List ℕ) → texts (texts_from 1 bs) ≡ text (first_text bs)
unfolding texts_from
text_first bs = texts-one (first_text bs)

texts_rest : (n : ℕ) (bs : List ℕ) → texts (texts_from (n + 1) bs) ≡ text (first_text bs) ++ texts (texts_from n (after_text bs))
unfolding texts texts_from
texts_rest n bs = ap (λ m. texts (texts_from m bs)) (add-one n)

text-ended : (bs : List ℕ) → texts (texts_from 1 (drop (length bs) bs)) ≡ text []
unfolding texts texts_from before_zero
text-ended bs = text_first (drop (length bs) bs) ∙ ap (λ l. text (first_text l)) (drop-length bs)

-- Where a node's record says that its name lies.
pub name_place : (bs : List ℕ) (place : ℕ) → half_at 1 (drop (node_place place) bs) ≡ half_at (3 + place * node_size) bs
name_place bs place =
    let n : node_place place + 1 ≡ 3 + place * node_size = omega arith in
    half_behind (node_place place) bs 1 ∙ ap (λ m. half_at m bs) n

-- A node's name, and a property's texts.
module _ (bs : List ℕ) (place : ℕ) where
  pub name_texts : (o : std.Option ℕ) → PlaceIs (node_count bs) place (half_at (3 + place * node_size) bs) o
      → texts (texts_from 1 (drop (unwrap_or o (length bs)) bs)) ≡ text (node_in (seen bs) place).name
  unfolding node_seen
  name_texts None h = text-ended bs ∙ sym (ap (λ x. text x.name) (node_none bs place h))
  name_texts (Some from) h =
      text_first (drop from bs)
      ∙ ap (λ i. text (first_text (drop i bs))) (h.1 ∙ sym (name_place bs place))
      ∙ sym (ap (λ x. text x.name) (node_at_lem bs place h.0))

  pub record-texts-at : {at count from : ℕ} → (place < property_count bs) × (at ≡ property_place bs place)
      → count ≡ option_count (get_or bs (at + 1) 0) (word_at (at + 6) bs)
      → from ≡ half_at (at + 14) bs
      → texts (texts_from (count + 1) (drop from bs)) ≡ record_texts (property_in (seen bs) place)
  unfolding property_seen
  record-texts-at {at} {count} {from} h p q =
      let r : List ℕ = drop at bs in
      let options : count ≡ option_count (get_or r 1 0) (word_at 6 r) =
      p ∙ sym (ap₂ option_count (get_or-drop at bs 1 0) (word_behind at bs 6)) in
      let label : from ≡ half_at 14 r = q ∙ sym (half_behind at bs 14) in
      ap₂ (λ n i. texts (texts_from (n + 1) (drop i bs))) options label
      ∙ texts_rest (option_count (get_or r 1 0) (word_at 6 r)) (drop (half_at 14 r) bs)
      ∙ ap (λ n. record_texts (property_seen bs (drop n bs))) h.1
      ∙ sym (ap record_texts (property_at_lem bs place h.0))

  pub record-texts-none : property_count bs ≤ place
      → texts (texts_from 1 (drop (length bs) bs)) ≡ record_texts (property_in (seen bs) place)
  unfolding texts
  record-texts-none h =
      text-ended bs ∙ sym (append-nil (text [])) ∙ sym (ap record_texts (property_none bs place h))

-- Texts that were put, for what they are.
pub put_texts_as : {at r : ℕ} {ys zs old new : List ℕ} (room : ℕ) → ys ≡ zs → Put at (take room ys) old r new
    → Put at (take room zs) old r new
put_texts_as {at} {r} {old = old} {new = new} room e p = subst (λ l. Put at (take room l) old r new) e p

-- A node's parent, and a property's node: the first byte of its record.
first_of : (at : ℕ) (bs : List ℕ) → get_or (drop at bs) 0 0 ≡ get_or bs at 0
first_of at bs = get_or-drop at bs 0 0 ∙ ap (λ n. get_or bs n 0) (add-zero at)

module _ (bs : List ℕ) (place : ℕ) where
  pub parent_at : {b : ℕ} → place < node_count bs → b ≡ get_or bs (node_place place) 0 → b ≡ (node_in (seen bs) place).parent
  unfolding node_seen
  parent_at h e = e ∙ sym (ap (λ x. x.parent) (node_at_lem bs place h) ∙ first_of (node_place place) bs)

  pub property_node_at : {start b : ℕ} → place < property_count bs → start ≡ properties_start (node_count bs)
      → b ≡ get_or bs (start + place * property_size) 0 → b ≡ (property_in (seen bs) place).node
  unfolding property_seen
  property_node_at h f e =
      e
      ∙ ap (λ n. get_or bs (n + place * property_size) 0) f
      ∙ sym (ap (λ x. x.node) (property_at_lem bs place h) ∙ first_of (property_place bs place) bs)

-- Where a text lies: an empty one at the front, and one that begins at a place.
part_empty : (bs : List ℕ) {s : List ℕ} → s ≡ [] → PartIs 0 s bs (record { start = 0; end = 0 })
part_empty bs e = record { starts = refl; ends = omega (arith, ap length e); within = omega arith; is = sym e }

-- The same part, for where it begins and for what it is.
part_as : {from from' : ℕ} {s s' : List ℕ} (bs : List ℕ) {r : Range ℕ} → from ≡ from' → s ≡ s' → PartIs from s bs r → PartIs from' s' bs r
part_as {from} {s' = s'} bs {r} e f p = subst (λ n. PartIs n s' bs r) e (subst (λ l. PartIs from l bs r) f p)

pub part_past : (bs : List ℕ) (from : ℕ) → length bs < from
    → PartIs (text_start bs from) (first_text (drop from bs)) bs (record { start = 0; end = 0 })
unfolding before_zero
part_past bs from h =
    part_as bs (sym (rw (lt-ltb (length bs) from h))) refl
    (part_empty bs (ap first_text (drop_of_length-le bs {i = from} (omega (arith, h)))))

pub part_at : (bs : List ℕ) (from : ℕ) {n : ℕ} → from ≤ length bs → n ≡ before_zero (take (length bs - from) (drop from bs))
    → PartIs (text_start bs from) (first_text (drop from bs)) bs (record { start = from; end = from + n })
part_at bs from {n} h e =
    let size : n ≡ before_zero (drop from bs) = e ∙ ap before_zero (part_lent from bs) in
    let back : from + n - from ≡ before_zero (drop from bs) = omega (arith, size) in
    let long : length (first_text (drop from bs)) ≡ before_zero (drop from bs) =
    length-take-le (before_zero (drop from bs)) (drop from bs) (zero_within (drop from bs)) in
    part_as bs (sym (rw (le-ltb (length bs) from h))) refl
    (record {
      starts = refl;
      ends = omega (arith, size, long);
      within = omega (arith, size, zero_within (drop from bs), length-drop from bs, h);
      is = ap (λ m. take m (drop from bs)) back;
    })

-- A node's name, and a property's label, each where it has a place and where it has none.
module _ (bs : List ℕ) (place : ℕ) where
  abbrev label_at : ℕ
  label_at = half_at (properties_start (node_count bs) + place * property_size + 14) bs

  pub name_part : (o : std.Option ℕ) {r : Range ℕ} → PlaceIs (node_count bs) place (half_at (3 + place * node_size) bs) o
      → PartIs (start_of bs o) (text_of bs o) bs r → PartIs (name_start bs place) (node_in (seen bs) place).name bs r
  unfolding node_seen name_start
  name_part None h p = part_as bs (sym (rw (le-ltb place (node_count bs) h))) (sym (ap (λ x. x.name) (node_none bs place h))) p
  name_part (Some from) h p =
      let start : name_start bs place ≡ text_start bs (half_at (3 + place * node_size) bs) = rw (lt-ltb place (node_count bs) h.0) in
      part_as bs (ap (text_start bs) h.1 ∙ sym start)
      (ap (λ i. first_text (drop i bs)) (h.1 ∙ sym (name_place bs place)) ∙ sym (ap (λ x. x.name) (node_at_lem bs place h.0)))
      p

  pub label_begins : (o : std.Option ℕ) → PlaceIs (property_count bs) place label_at o → start_of bs o ≡ label_start bs place
  unfolding label_start
  label_begins None h = sym (rw (le-ltb place (property_count bs) h))
  label_begins (Some from) h = ap (text_start bs) h.1 ∙ sym (rw (lt-ltb place (property_count bs) h.0))

  pub label_part : (o : std.Option ℕ) {r : Range ℕ} → PlaceIs (property_count bs) place label_at o
      → PartIs (start_of bs o) (text_of bs o) bs r → PartIs (label_start bs place) (property_in (seen bs) place).label bs r
  unfolding property_seen
  label_part None h p = part_as bs (label_begins None h) (sym (ap (λ x. x.label) (property_none bs place h))) p
  label_part (Some from) h p =
      part_as bs (label_begins (Some from) h)
      (ap (λ i. first_text (drop i bs)) (h.1 ∙ sym (half_behind (property_place bs place) bs 14))
      ∙ sym (ap (λ x. x.label) (property_at_lem bs place h.0)))
      p

  pub start_within : (n : ℕ) → n ≤ length bs → text_start bs n ≡ n
  start_within n h = rw (le-ltb (length bs) n h)

  pub start_past : (n : ℕ) → length bs < n → text_start bs n ≡ 0
  start_past n h = rw (lt-ltb (length bs) n h)

  part_front : {s : List ℕ} {r : Range ℕ} → PartIs (label_start bs place) s bs r → begins s (drop (label_start bs place) bs) ≡ true
  part_front {s} {r} p =
      let xs : List ℕ = drop (label_start bs place) bs in
      let m : ℕ = r.end - r.start in
      let is : take m xs ≡ s = ap (λ i. take m (drop i bs)) (sym p.starts) ∙ p.is in
      ap₂ begins (sym is) (sym (take-append-drop m xs)) ∙ begins_front (take m xs) (drop m xs)

  pub label_front : begins (property_in (seen bs) place).label (drop (label_start bs place) bs) ≡ true
  label_front = go (ltb place (property_count bs)) refl (ltb (length bs) from) refl
    where
      from : ℕ
      from = half_at (properties_start (node_count bs) + place * property_size + 14) bs

      go : (a : Bool) → ltb place (property_count bs) ≡ a → (b : Bool) → ltb (length bs) from ≡ b
          → begins (property_in (seen bs) place).label (drop (label_start bs place) bs) ≡ true
      go false e b f = part_front (label_part None (ltb-false place (property_count bs) e) (part_empty bs refl))
      go true e true f =
          part_front (label_part (Some from) (ltb-true place (property_count bs) e, refl) (part_past bs from (ltb-true (length bs) from f)))
      go true e false f =
          part_front (label_part (Some from) (ltb-true place (property_count bs) e, refl) (part_at bs from (ltb-false (length bs) from f) refl))
