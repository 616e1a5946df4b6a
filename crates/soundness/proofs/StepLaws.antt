-- Records checked one after the other, each from where the texts of the one before ended.
-- Assumes nothing.
use Prim.Native.Nat.{ℕ, suc, ◌+◌, ◌-◌, ◌*◌, ◌<◌, ◌≤◌}
use native.Mathlib.Omega.{arith}
use native.Mathlib.Nat.{zero-mul, suc-mul, sub-zero, add-zero, add_assoc}
use native.Mathlib.Numerals.{add-one}
use mathlib.Core.Path.{◌≡◌, refl, sym, ap, ap₂, subst, ◌∙◌}
use mathlib.Core.Bool.{Bool, true, false, cond, ◌&&◌, and-false}
use mathlib.Core.List.{List}
use mathlib.Core.Option.{Option, none, some}
use borrow.Author.Tests.{leb-true, le-leb, eq-eqb, ne_eqb}
use lib.ListN.{length, get_or, drop}
use lib.Seq.{drop-drop}
use lib.Dec.{eqb, leb}
use Rattle.protocol.specs.Numbers.{max_nodes, max_properties, max_texts, name_room}
use Rattle.protocol.specs.Tree.{Property, live_sound, property_in}
use Rattle.protocol.proofs.TestLaws.{and_left, and_right}
use Rattle.std.proofs.Common.{Some, None}
use Rattle.std.specs.Option.{option_eq}
use Rattle.std.proofs.Common as std
use Rattle.protocol.specs.Refusal.{option_of}
use Rattle.tree.specs.declared.record.Fields.{Fields}
use Rattle.tree.specs.Form.{node_size, property_size, properties_start, texts_start}
use Rattle.tree.specs.Seen.{half_at, word_at, seen, node_count, property_count, property_seen, option_count}
use Rattle.tree.specs.Lookup.{FieldsAre, numbers_of}
use Rattle.tree.proofs.FoundLaws.{found_at, found_none}
use Rattle.tree.proofs.NumberLaws.{half_behind}
use Rattle.tree.proofs.FieldLaws.{property_at_lem, name_place}
use Rattle.soundness.specs.Check.{texts_end_in, and_then, node_end, kind_fits, fields_fit, property_end, records_end, parents_fit, parents_in, counts_fit, texts_fit, ends_at, checked}

-- A node's record: its name lies elsewhere, or here.
module _ (bs r : List ℕ) (at : ℕ) where
  node_other : (half_at 1 r ≡ at → ⊥) → node_end bs r at ≡ none
  unfolding node_end
  node_other h = rw (ne_eqb (half_at 1 r) at h)

  node_here : half_at 1 r ≡ at → node_end bs r at ≡ texts_end_in bs name_room 1 at
  unfolding node_end
  node_here h = rw (eq-eqb (half_at 1 r) at h)

module _ (bs : List ℕ) (k at : ℕ) where
  pub node_elsewhere : (half_at (3 + k * node_size) bs ≡ at → ⊥) → None ≡ option_of (node_end bs (drop (2 + k * node_size) bs) at)
  node_elsewhere h =
      sym (ap option_of (node_other bs (drop (2 + k * node_size) bs) at (λ e. h (sym (name_place bs k) ∙ e))))

  pub node_ends : {x : std.Option ℕ} → half_at (3 + k * node_size) bs ≡ at → x ≡ option_of (texts_end_in bs name_room 1 at)
      → x ≡ option_of (node_end bs (drop (2 + k * node_size) bs) at)
  node_ends h e =
      e ∙ sym (ap option_of (node_here bs (drop (2 + k * node_size) bs) at (name_place bs k ∙ h)))

-- Records from a place on, of which some are done.
pub record Going (size : ℕ) (f : List ℕ → ℕ → Option ℕ) (bs : List ℕ) (from start total at k : ℕ) : Type 0 where
  pub within : k ≤ total
  pub whole : records_end size f total (drop from bs) start ≡ records_end size f (total - k) (drop (from + k * size) bs) at

module _ (size : ℕ) (f : List ℕ → ℕ → Option ℕ) (bs : List ℕ) (from start total : ℕ) where
  pub go_begins : Going size f bs from start total start 0
  go_begins =
      record {
        within = omega arith;
        whole =
            ap₂ (λ m i. records_end size f m (drop i bs) start)
            (sym (sub-zero total))
            (sym (ap (λ m. from + m) (zero-mul size) ∙ add-zero from));
      }

  module _ {at k : ℕ} (w : Going size f bs from start total at k) where
    pub go_ends : total ≤ k → Some at ≡ option_of (records_end size f total (drop from bs) start)
    unfolding records_end
    go_ends h =
        let m : total - k ≡ 0 = omega arith in
        sym (ap option_of (w.whole ∙ ap (λ m. records_end size f m (drop (from + k * size) bs) at) m))

    module _ (h : k < total) where
      here : records_end size f total (drop from bs) start
          ≡ and_then (f (drop (from + k * size) bs) at) (λ next. records_end size f (total - (k + 1)) (drop (from + (k + 1) * size) bs) next)
      unfolding records_end
      here =
          let m : total - k ≡ suc (total - (k + 1)) = omega arith in
          let i : from + k * size + size ≡ from + (k + 1) * size =
          add_assoc from (k * size) size ∙ ap (λ x. from + x) (sym (suc-mul k size) ∙ ap (λ x. x * size) (sym (add-one k))) in
          w.whole
          ∙ ap (λ m. records_end size f m (drop (from + k * size) bs) at) m
          ∙ ap (λ l. and_then (f (drop (from + k * size) bs) at) (λ next. records_end size f (total - (k + 1)) l next))
          (drop-drop size (from + k * size) bs ∙ ap (λ x. drop x bs) i)

      pub go_fails : None ≡ option_of (f (drop (from + k * size) bs) at) → None ≡ option_of (records_end size f total (drop from bs) start)
      unfolding and_then
      go_fails e =
          sym (ap option_of
          (here
          ∙ ap (λ o. and_then o (λ next. records_end size f (total - (k + 1)) (drop (from + (k + 1) * size) bs) next))
          (found_none (f (drop (from + k * size) bs) at) e)))

      pub go_on : {next : ℕ} → Some next ≡ option_of (f (drop (from + k * size) bs) at) → Going size f bs from start total next (k + 1)
      unfolding and_then
      go_on {next} e =
          record {
            within = omega arith;
            whole =
                here
                ∙ ap (λ o. and_then o (λ next. records_end size f (total - (k + 1)) (drop (from + (k + 1) * size) bs) next))
                (found_at (f (drop (from + k * size) bs) at) e);
          }

-- The rules of a property's numbers are rules of the numbers alone.
pub fields_same : (nodes : ℕ) {p : Property} {f : Fields} → FieldsAre p f → fields_fit nodes (numbers_of f) ≡ fields_fit nodes p
unfolding fields_fit live_sound kind_fits
fields_same nodes w = simp (w.node, w.kind, w.min, w.max, w.attribute, w.format)

-- A property's record: its numbers break a rule, its texts lie elsewhere, or neither.
module _ (bs r : List ℕ) (at : ℕ) where
  abbrev both_texts : Option ℕ
  both_texts =
      and_then (texts_end_in bs name_room 1 at) (λ mid. texts_end_in bs max_texts (option_count (get_or r 1 0) (word_at 6 r)) mid)

  property_by : {t u : Bool} → fields_fit (node_count bs) (property_seen bs r) ≡ t → eqb (half_at 14 r) at ≡ u
      → property_end bs r at ≡ cond (t && u) both_texts none
  unfolding property_end
  property_by e f = rw (e, f)

  unfit : fields_fit (node_count bs) (property_seen bs r) ≡ false → property_end bs r at ≡ none
  unfit e = property_by e refl

  elsewhere : (half_at 14 r ≡ at → ⊥) → property_end bs r at ≡ none
  elsewhere h =
      property_by refl (ne_eqb (half_at 14 r) at h)
      ∙ ap (λ t. cond t both_texts none) (and-false (fields_fit (node_count bs) (property_seen bs r)))

  texts_follow : fields_fit (node_count bs) (property_seen bs r) ≡ true → half_at 14 r ≡ at → property_end bs r at ≡ both_texts
  texts_follow e h = property_by e (eq-eqb (half_at 14 r) at h)

-- The same of the record at a place, by the numbers that were read there.
module _ (bs : List ℕ) (k at : ℕ) {f : Fields} {nodes : ℕ} (n : nodes ≡ node_count bs) (h : k < property_count bs) (w : FieldsAre (property_in (seen bs) k) f) where
  abbrev begin : ℕ
  begin = properties_start (node_count bs) + k * property_size

  fields : FieldsAre (property_seen bs (drop begin bs)) f
  fields = subst (λ p. FieldsAre p f) (property_at_lem bs k h) w

  fit : fields_fit nodes (numbers_of f) ≡ fields_fit (node_count bs) (property_seen bs (drop begin bs))
  fit = ap (λ m. fields_fit m (numbers_of f)) n ∙ fields_same (node_count bs) fields

  options : option_count f.kind f.max ≡ option_count (get_or (drop begin bs) 1 0) (word_at 6 (drop begin bs))
  unfolding property_seen
  options = ap₂ option_count fields.kind fields.max

  pub property_unfit : fields_fit nodes (numbers_of f) ≡ false → None ≡ option_of (property_end bs (drop begin bs) at)
  property_unfit e = sym (ap option_of (unfit bs (drop begin bs) at (sym fit ∙ e)))

  pub property_elsewhere : (half_at (begin + 14) bs ≡ at → ⊥) → None ≡ option_of (property_end bs (drop begin bs) at)
  property_elsewhere u =
      sym (ap option_of (elsewhere bs (drop begin bs) at (λ e. u (sym (half_behind begin bs 14) ∙ e))))

  module _ (good : fields_fit nodes (numbers_of f) ≡ true) (here : half_at (begin + 14) bs ≡ at) where
    is : {o : Option ℕ} → texts_end_in bs name_room 1 at ≡ o
        → property_end bs (drop begin bs) at ≡ and_then o (λ mid. texts_end_in bs max_texts (option_count f.kind f.max) mid)
    is e =
        texts_follow bs (drop begin bs) at (sym fit ∙ good) (half_behind begin bs 14 ∙ here)
        ∙ ap₂ (λ o m. and_then o (λ mid. texts_end_in bs max_texts m mid)) e (sym options)

    pub property_unnamed : None ≡ option_of (texts_end_in bs name_room 1 at) → None ≡ option_of (property_end bs (drop begin bs) at)
    unfolding and_then
    property_unnamed e = sym (ap option_of (is (found_none (texts_end_in bs name_room 1 at) e)))

    pub property_ends : {mid : ℕ} {x : std.Option ℕ} → Some mid ≡ option_of (texts_end_in bs name_room 1 at)
        → x ≡ option_of (texts_end_in bs max_texts (option_count f.kind f.max) mid) → x ≡ option_of (property_end bs (drop begin bs) at)
    unfolding and_then
    property_ends e q = q ∙ sym (ap option_of (is (found_at (texts_end_in bs name_room 1 at) e)))

-- What the counts tell.
pub record Counted (bs : List ℕ) : Type 0 where
  pub two : 2 ≤ length bs
  pub nodes : node_count bs ≤ max_nodes
  pub properties : property_count bs ≤ max_properties
  pub records : texts_start (node_count bs) (property_count bs) ≤ length bs

pub counts : (bs : List ℕ) → counts_fit bs ≡ true → Counted bs
unfolding counts_fit
counts bs h =
    let a = and_right (leb 2 (length bs)) _ h in
    let b = and_right (leb (node_count bs) max_nodes) _ a in
    record {
      two = leb-true 2 (length bs) (and_left (leb 2 (length bs)) _ h);
      nodes = leb-true (node_count bs) max_nodes (and_left (leb (node_count bs) max_nodes) _ a);
      properties = leb-true (property_count bs) max_properties (and_left (leb (property_count bs) max_properties) _ b);
      records =
          leb-true (texts_start (node_count bs) (property_count bs)) (length bs) (and_right (leb (property_count bs) max_properties) _ b);
    }

-- The texts, in two steps.
module _ (bs : List ℕ) where
  abbrev names : ℕ → Option ℕ
  names start = records_end node_size (node_end bs) (node_count bs) (drop 2 bs) start

  abbrev labels : ℕ → Option ℕ
  labels mid = records_end property_size (property_end bs) (property_count bs) (drop (properties_start (node_count bs)) bs) mid

  module _ {start : ℕ} (s : start ≡ texts_start (node_count bs) (property_count bs)) where
    texts_by : {o : Option ℕ} → names start ≡ o → texts_fit bs ≡ and_then o labels
    unfolding texts_fit
    texts_by e = ap (λ o. and_then o labels) (ap names (sym s) ∙ e)

    pub nameless : None ≡ option_of (names start) → None ≡ option_of (texts_fit bs)
    unfolding and_then
    nameless e = sym (ap option_of (texts_by (found_none (names start) e)))

    pub labels_follow : {mid : ℕ} {x : std.Option ℕ} → Some mid ≡ option_of (names start) → x ≡ option_of (labels mid) → x ≡ option_of (texts_fit bs)
    unfolding and_then
    labels_follow e f = f ∙ sym (ap option_of (texts_by (found_at (names start) e)))

-- Whether texts end at a place, as code asks it.
pub ends_told : (o : Option ℕ) (len : ℕ) → option_eq eqb (option_of o) (Some len) ≡ ends_at o len
ends_told none len = refl
ends_told (some n) len = refl

-- The whole check, test by test.
module _ (bs : List ℕ) where
  pub uncounted : counts_fit bs ≡ false → checked bs ≡ false
  unfolding checked
  uncounted e = rw e

  pub checked_by : {parents texts : Bool} → counts_fit bs ≡ true → parents ≡ (leb (node_count bs) max_nodes && parents_fit (parents_in bs))
      → texts ≡ ends_at (texts_fit bs) (length bs) → checked bs ≡ (parents && texts)
  unfolding checked
  checked_by fit p t =
      let fits : parents_fit (parents_in bs) ≡ (leb (node_count bs) max_nodes && parents_fit (parents_in bs)) =
      sym (ap (λ u. u && parents_fit (parents_in bs)) (le-leb (node_count bs) max_nodes (counts bs fit).nodes)) in
      rw fit (ap₂ (λ a b. a && b) (fits ∙ sym p) (sym t))
