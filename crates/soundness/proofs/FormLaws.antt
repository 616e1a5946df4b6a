-- The form of a sound tree reads back as that tree, and is at most 27,330 bytes long.
-- Assumes nothing.
use Prim.Native.Nat.{ℕ, ◌+◌, ◌*◌, ◌<◌, ◌≤◌}
use native.Mathlib.Omega.{arith}
use mathlib.Core.Path.{◌≡◌, refl, sym, ap, ap₂, ◌∙◌}
use mathlib.Core.Bool.{true, cond, ◌&&◌}
use mathlib.Core.List.{List, [], ◌++◌, append-nil, map}
use mathlib.Core.Option.{none, some, some-injective}
use borrow.Author.Tests.{leb-true, le-leb, eq-eqb}
use lib.ListN.{length, get_or, drop, length-append}
use lib.Seq.{drop-drop, drop_at}
use lib.Dec.{leb}
use Rattle.protocol.specs.Numbers.{half_end, max_nodes, max_properties, name_room}
use Rattle.protocol.specs.Bytes.{every, text, texts}
use Rattle.protocol.specs.Tree.{Property, Tree, is_name, parents_sound, depths_sound, property_sound, nodes_sound, properties_sound, sound}
use Rattle.protocol.specs.Answer.{record_texts}
use Rattle.protocol.proofs.TestLaws.{and_left, and_right, and_both}
use Rattle.tree.specs.Form.{node_size, property_size, properties_start, texts_start, all_records, node_texts, node_record, property_record, names_of, labels_of, names_start, tree_form}
use Rattle.tree.specs.Seen.{records_from, node_seen, property_seen, seen, node_count, property_count, same}
use Rattle.tree.proofs.FoundLaws.{if_some}
use Rattle.tree.proofs.SameLaws.{same_refl, same_eq}
use Rattle.soundness.specs.Sound.{is_tree, tree_of}
use Rattle.soundness.specs.Check.{node_end, property_end, records_end, parents_fit, parents_in, counts_fit, texts_fit, ends_at, checked}
use Rattle.soundness.proofs.ThenLaws.{then_some}
use Rattle.soundness.proofs.TableLaws.{records_size, read_again, end_again, texts_bound}
use Rattle.soundness.proofs.NodeLaws.{length-text, name_short, node_good, node_written}
use Rattle.soundness.proofs.PropertyLaws.{Kept, kept, property_good, property_written}
use Rattle.soundness.proofs.DepthLaws.{depths_fit_exact, parents_seen}

-- What a sound tree keeps.
pub record Sound (t : Tree) : Type 0 where
  pub nodes : length t.nodes ≤ max_nodes
  pub parents : parents_sound t.nodes ≡ true
  pub depths : depths_sound t.nodes ≡ true
  pub names : every node_good t.nodes ≡ true
  pub properties : length t.properties ≤ max_properties
  pub each : every (property_sound (length t.nodes)) t.properties ≡ true

pub sound_parts : (t : Tree) → sound t ≡ true → Sound t
unfolding sound nodes_sound properties_sound
sound_parts t h =
    let ns = and_left (nodes_sound t.nodes) _ h in
    let ps = and_right (nodes_sound t.nodes) _ h in
    let a = and_right (leb (length t.nodes) max_nodes) _ ns in
    let b = and_right (parents_sound t.nodes) _ a in
    record {
      nodes = leb-true (length t.nodes) max_nodes (and_left (leb (length t.nodes) max_nodes) _ ns);
      parents = and_left (parents_sound t.nodes) _ a;
      depths = and_left (depths_sound t.nodes) _ b;
      names = and_right (depths_sound t.nodes) _ b;
      properties = leb-true (length t.properties) max_properties (and_left (leb (length t.properties) max_properties) _ ps);
      each = and_right (leb (length t.properties) max_properties) _ ps;
    }

pub sound_whole : (t : Tree) → Sound t → sound t ≡ true
unfolding sound nodes_sound properties_sound
sound_whole t s =
    and_both (and_both (le-leb (length t.nodes) max_nodes s.nodes) (and_both s.parents (and_both s.depths s.names)))
    (and_both (le-leb (length t.properties) max_properties s.properties) s.each)

-- No text is long.
name_fits : (s : List ℕ) → is_name s ≡ true → length (text s) ≤ name_room
name_fits s h = omega (arith, length-text s, name_short s h)

texts_fit_lem : (nodes : ℕ) (p : Property) → property_sound nodes p ≡ true → length (record_texts p) ≤ 184
texts_fit_lem nodes p h =
    let k : Kept nodes p = kept nodes p h in
    omega (
      arith,
      name_fits p.label k.label,
      k.room,
      length-append (text p.label) (texts p.options),
    )

module _ (t : Tree) (ok : Sound t) where
  abbrev f : List ℕ
  f = tree_form t

  abbrev n : ℕ
  n = length t.nodes

  abbrev m : ℕ
  m = length t.properties

  abbrev mid : ℕ
  mid = names_start t + length (names_of t)

  abbrev node_records : List ℕ
  node_records = all_records node_texts node_record (names_start t) t.nodes

  abbrev property_records : List ℕ
  property_records = all_records record_texts property_record mid t.properties

  -- Where the texts end: behind 2 counts, at most 64 records of 3 bytes, 128 of 16, 64 names of 24 with their zeros, and 128
  -- times a label of 24 and a unit or options of 160. So every place of a text fits 16 bits.
  texts_end_lem : mid + length (labels_of t) ≤ 27330
  texts_end_lem =
      omega (
        arith,
        ok.nodes,
        ok.properties,
        texts_bound node_texts node_good name_room (λ x. name_fits x.name) t.nodes ok.names,
        texts_bound record_texts (property_sound n) 184 (texts_fit_lem n) t.properties ok.each,
      )

  pub places_fit : mid + length (labels_of t) < half_end
  places_fit = omega (arith, texts_end_lem)

  -- The parts of a form, from their places on.
  nodes_there : drop 2 f ≡ node_records ++ (property_records ++ (names_of t ++ labels_of t))
  unfolding tree_form
  nodes_there = refl

  properties_there : drop (properties_start n) f ≡ property_records ++ (names_of t ++ labels_of t)
  properties_there =
      sym (drop-drop (n * node_size) 2 f)
      ∙ ap (drop (n * node_size)) nodes_there
      ∙ drop_at node_records (property_records ++ (names_of t ++ labels_of t)) (n * node_size)
      (records_size f node_size (node_seen f) node_texts node_record (node_end f) node_good (node_written f) t.nodes (names_start t))

  properties_sized : length property_records ≡ m * property_size
  properties_sized =
      records_size f property_size (property_seen f) record_texts property_record (property_end f) (property_good f) (property_written f) t.properties mid

  names_there : drop (names_start t) f ≡ names_of t ++ labels_of t
  names_there =
      sym (drop-drop (m * property_size) (properties_start n) f)
      ∙ ap (drop (m * property_size)) properties_there
      ∙ drop_at property_records (names_of t ++ labels_of t) (m * property_size) properties_sized

  labels_there : drop mid f ≡ labels_of t ++ []
  labels_there =
      sym (drop-drop (length (names_of t)) (names_start t) f)
      ∙ ap (drop (length (names_of t))) names_there
      ∙ drop_at (names_of t) (labels_of t) (length (names_of t)) refl
      ∙ sym (append-nil (labels_of t))

  pub length_form : length f ≡ mid + length (labels_of t)
  unfolding tree_form
  length_form =
      omega (
        arith,
        length-append node_records (property_records ++ (names_of t ++ labels_of t)),
        length-append property_records (names_of t ++ labels_of t),
        length-append (names_of t) (labels_of t),
        properties_sized,
        records_size f node_size (node_seen f) node_texts node_record (node_end f) node_good (node_written f) t.nodes (names_start t),
      )

  counted : (node_count f ≡ n) × (property_count f ≡ m)
  unfolding tree_form
  counted = (refl, refl)

  good : every (property_good f) t.properties ≡ true
  unfolding tree_form
  good = ok.each

  names_fit : names_start t + length (names_of t) < half_end
  names_fit = omega (arith, places_fit)

  -- The tree is seen in its form.
  nodes_seen : records_from node_size (node_seen f) n (drop 2 f) ≡ t.nodes
  nodes_seen =
      ap (records_from node_size (node_seen f) n) nodes_there
      ∙ read_again f node_size (node_seen f) node_texts node_record (node_end f) node_good (node_written f) t.nodes (names_start t)
      (property_records ++ (names_of t ++ labels_of t)) (labels_of t) ok.names names_fit names_there

  properties_seen : records_from property_size (property_seen f) m (drop (properties_start n) f) ≡ t.properties
  properties_seen =
      ap (records_from property_size (property_seen f) m) properties_there
      ∙ read_again f property_size (property_seen f) record_texts property_record (property_end f) (property_good f) (property_written f) t.properties mid
      (names_of t ++ labels_of t) [] good places_fit labels_there

  pub form_seen : seen f ≡ t
  unfolding seen
  form_seen =
      ap₂ (λ ns ps. record { nodes = ns; properties = ps })
      (ap (λ k. records_from node_size (node_seen f) k (drop 2 f)) counted.0 ∙ nodes_seen)
      (ap₂ (λ k j. records_from property_size (property_seen f) k (drop (properties_start j) f)) counted.1 counted.0 ∙ properties_seen)

  -- The form passes each step of the check.
  counts_pass : counts_fit f ≡ true
  unfolding counts_fit
  counts_pass =
      and_both (le-leb 2 (length f) (omega (arith, length_form)))
      (and_both (le-leb (node_count f) max_nodes (omega (arith, counted.0, ok.nodes)))
      (and_both (le-leb (property_count f) max_properties (omega (arith, counted.1, ok.properties)))
      (le-leb (texts_start (node_count f) (property_count f)) (length f) (omega (arith, counted.0, counted.1, length_form)))))

  parents_pass : parents_fit (parents_in f) ≡ true
  parents_pass =
      ap parents_fit
      (ap (λ k. records_from node_size (λ r. get_or r 0 0) k (drop 2 f)) counted.0
      ∙ parents_seen f n (drop 2 f)
      ∙ ap (λ ns. map (λ x. x.parent) ns) nodes_seen)
      ∙ depths_fit_exact t.nodes
      ∙ and_both ok.parents ok.depths

  texts_pass : texts_fit f ≡ some (length f)
  unfolding texts_fit
  texts_pass =
      then_some (λ k. records_end property_size (property_end f) (property_count f) (drop (properties_start (node_count f)) f) k)
      (ap₂ (λ k j. records_end node_size (node_end f) k (drop 2 f) (texts_start k j)) counted.0 counted.1
      ∙ ap (λ l. records_end node_size (node_end f) n l (names_start t)) nodes_there
      ∙ end_again f node_size (node_seen f) node_texts node_record (node_end f) node_good (node_written f) t.nodes (names_start t)
      (property_records ++ (names_of t ++ labels_of t)) (labels_of t) ok.names names_fit names_there)
      ∙ ap₂ (λ k j. records_end property_size (property_end f) k (drop (properties_start j) f) mid) counted.1 counted.0
      ∙ ap (λ l. records_end property_size (property_end f) m l mid) properties_there
      ∙ end_again f property_size (property_seen f) record_texts property_record (property_end f) (property_good f) (property_written f) t.properties mid
      (names_of t ++ labels_of t) [] good places_fit labels_there
      ∙ ap some (sym length_form)

  pub form_checked : checked f ≡ true
  unfolding checked
  form_checked =
      and_both counts_pass (and_both parents_pass (ap (λ o. ends_at o (length f)) texts_pass ∙ eq-eqb (length f) (length f) refl))

-- Every sound tree's form reads back as that tree.
pub form_tree : (t : Tree) → sound t ≡ true → tree_of (tree_form t) ≡ some t
unfolding tree_of is_tree
form_tree t h =
    let back : seen (tree_form t) ≡ t = form_seen t (sound_parts t h) in
    let passes : (same (tree_form t) (tree_form (seen (tree_form t))) && sound (seen (tree_form t))) ≡ true =
    and_both (ap (λ s. same (tree_form t) (tree_form s)) back ∙ same_refl (tree_form t)) (ap sound back ∙ h) in
    ap (λ b. cond b (some (seen (tree_form t))) none) passes ∙ ap some back

-- What reads as a tree is sound, and is read from its form.
pub tree_sound : (bs : List ℕ) (t : Tree) → tree_of bs ≡ some t → (sound t ≡ true) × (bs ≡ tree_form t)
unfolding tree_of is_tree
tree_sound bs t h =
    let both = if_some (same bs (tree_form (seen bs)) && sound (seen bs)) h in
    let is : seen bs ≡ t = some-injective _ _ both.1 in
    let passed = both.0 in (
      ap sound (sym is) ∙ and_right (same bs (tree_form (seen bs))) _ passed,
      same_eq bs (tree_form (seen bs)) (and_left (same bs (tree_form (seen bs))) _ passed) ∙ ap tree_form is,
    )

-- The tree that is seen in bytes that stand for one.
pub seen-sound : (bs : List ℕ) → is_tree bs ≡ true → sound (seen bs) ≡ true
unfolding is_tree
seen-sound bs h = and_right (same bs (tree_form (seen bs))) _ h

-- No form of a sound tree is longer than 27,330 bytes, and neither are bytes that stand for one.
pub form_longest : (t : Tree) → sound t ≡ true → length (tree_form t) ≤ 27330
form_longest t h =
    let ok : Sound t = sound_parts t h in
    omega (arith, length_form t ok, texts_end_lem t ok)

pub tree_longest : (bs : List ℕ) → is_tree bs ≡ true → length bs ≤ 27330
unfolding tree_of
tree_longest bs h =
    let read = tree_sound bs (seen bs) (ap (λ b. cond b (some (seen bs)) none) h) in
    omega (arith, ap length read.1, form_longest (seen bs) read.0)

-- All records of a lent tree lie in its bytes.
pub records_within : (bs : List ℕ) → is_tree bs ≡ true → texts_start (length (seen bs).nodes) (length (seen bs).properties) ≤ length bs
unfolding tree_of
records_within bs h =
    let read = tree_sound bs (seen bs) (ap (λ b. cond b (some (seen bs)) none) h) in
    omega (arith, ap length read.1, length_form (seen bs) (sound_parts (seen bs) read.0))
