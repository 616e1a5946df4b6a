-- The check, step by step, comes to what it is for: bytes pass it exactly where they stand for a sound tree.
-- Assumes nothing.
use Prim.Native.Nat.{ℕ, ◌+◌, ◌*◌}
use native.Mathlib.Omega.{arith}
use mathlib.Core.Path.{◌≡◌, sym, ap, ap₂, ◌∙◌}
use mathlib.Core.Bool.{true, ◌&&◌, false≢true}
use mathlib.Core.List.{List, ◌∷◌, ◌++◌}
use mathlib.Core.Option.{Option, none, some}
use borrow.Author.Tests.{eqb-true}
use lib.ListN.{length, take, drop, take-append-drop, length-drop}
use lib.Seq.{drop-cons, drop-drop, take_all}
use Rattle.protocol.specs.Bytes.{Bytes, every}
use Rattle.protocol.specs.Tree.{Node, Property, parents_sound, depths_sound, property_sound, sound}
use Rattle.protocol.specs.Answer.{record_texts}
use Rattle.protocol.proofs.TestLaws.{and_left, and_right, and_both}
use Rattle.protocol.proofs.ListLaws.{bytes_drop}
use Rattle.tree.specs.Form.{node_size, property_size, properties_start, texts_start, all_texts, all_records, node_texts, node_record, property_record, tree_form}
use Rattle.tree.specs.Seen.{records_from, node_seen, property_seen, seen, node_count, property_count, same}
use Rattle.tree.proofs.FieldLaws.{node_count_lem, property_count_lem}
use Rattle.tree.proofs.SameLaws.{same_eq, same_refl}
use Rattle.soundness.specs.Sound.{is_tree}
use Rattle.soundness.specs.Check.{node_end, property_end, records_end, parents_fit, parents_in, counts_fit, texts_fit, ends_at, checked}
use Rattle.soundness.proofs.ThenLaws.{then_back}
use Rattle.soundness.proofs.TableLaws.{Laid, laid}
use Rattle.soundness.proofs.NodeLaws.{node_good, node_laid}
use Rattle.soundness.proofs.PropertyLaws.{property_good, property_laid}
use Rattle.soundness.proofs.DepthLaws.{alike, depths_fit_exact, parents_seen}
use Rattle.soundness.proofs.StepLaws.{Counted, counts}
use Rattle.soundness.proofs.FormLaws.{sound_parts, sound_whole, form_checked}

ends_there : (o : Option ℕ) (n : ℕ) → ends_at o n ≡ true → o ≡ some n
ends_there none n h = absurd (false≢true h)
ends_there (some m) n h = ap some (eqb-true m n h)

-- Bytes in front of a place, and those from it on.
parted : (n at : ℕ) (bs : List ℕ) → drop at bs ≡ take n (drop at bs) ++ drop (at + n) bs
parted n at bs = sym (take-append-drop n (drop at bs)) ∙ ap (λ l. take n (drop at bs) ++ l) (drop-drop n at bs)

module _ (bs : List ℕ) (all : Bytes bs) (h : checked bs ≡ true) where
  abbrev n : ℕ
  n = node_count bs

  abbrev m : ℕ
  m = property_count bs

  abbrev start : ℕ
  start = texts_start n m

  abbrev nodes : List Node
  nodes = records_from node_size (node_seen bs) n (drop 2 bs)

  abbrev properties : List Property
  properties = records_from property_size (property_seen bs) m (drop (properties_start n) bs)

  abbrev names : List ℕ
  names = all_texts node_texts nodes

  abbrev labels : List ℕ
  labels = all_texts record_texts properties

  counted : Counted bs
  unfolding checked
  counted = counts bs (and_left (counts_fit bs) _ h)

  depths_fit-passed : parents_fit (parents_in bs) ≡ true
  unfolding checked
  depths_fit-passed = and_left (parents_fit (parents_in bs)) _ (and_right (counts_fit bs) _ h)

  -- All records laid out, the names up to a place and the labels from there.
  record Whole : Type 0 where
    mid : ℕ
    of_nodes : Laid bs node_size (node_seen bs) node_texts node_record (node_end bs) node_good (drop 2 bs) n start mid
    of_properties : Laid bs property_size (property_seen bs) record_texts property_record (property_end bs) (property_good bs) (drop (properties_start n) bs) m mid (length bs)

  whole : Whole
  unfolding checked texts_fit
  whole =
      let ended : texts_fit bs ≡ some (length bs) =
      ends_there (texts_fit bs) (length bs) (and_right (parents_fit (parents_in bs)) _ (and_right (counts_fit bs) _ h)) in
      let steps =
      then_back (records_end node_size (node_end bs) n (drop 2 bs) start)
      (λ k. records_end property_size (property_end bs) m (drop (properties_start n) bs) k) ended in
      record {
        mid = steps.0;
        of_nodes =
            laid bs node_size (node_seen bs) node_texts node_record (node_end bs) node_good (node_laid bs) n (drop 2 bs) start steps.0 (bytes_drop 2 bs all)
            (omega (arith, counted.records, length-drop 2 bs)) steps.1.0;
        of_properties =
            laid bs property_size (property_seen bs) record_texts property_record (property_end bs) (property_good bs) (property_laid bs) m (drop (properties_start n) bs)
            steps.0 (length bs) (bytes_drop (properties_start n) bs all)
            (omega (arith, counted.records, length-drop (properties_start n) bs)) steps.1.1;
      }

  -- The bytes are the form of what is seen in them.
  front : bs ≡ n ∷ m ∷ drop 2 bs
  front =
      drop-cons bs 0 0 (omega (arith, counted.two)) ∙ ap (λ l. n ∷ l) (drop-cons bs 1 0 (omega (arith, counted.two)))

  labels_last : drop (start + length names) bs ≡ labels
  labels_last =
      let p = whole.of_properties in
      let here : drop whole.mid bs ≡ labels =
      sym (take_all (length labels) (drop whole.mid bs) (omega (arith, length-drop whole.mid bs, p.ends))) ∙ p.texts in
      ap (λ k. drop k bs) (sym whole.of_nodes.ends) ∙ here

  tables : drop 2 bs
      ≡ all_records node_texts node_record start nodes ++ (all_records record_texts property_record (start + length names) properties ++ (names ++ labels))
  tables =
      let p = whole.of_properties in
      let q = whole.of_nodes in
      parted (n * node_size) 2 bs
      ∙ ap₂ (λ a b. a ++ b) q.bytes
      (parted (m * property_size) (properties_start n) bs
      ∙ ap₂ (λ a b. a ++ b) (p.bytes ∙ ap (λ k. all_records record_texts property_record k properties) q.ends)
      (parted (length names) start bs ∙ ap₂ (λ a b. a ++ b) q.texts labels_last))

  formed : bs ≡ tree_form (seen bs)
  unfolding tree_form seen
  formed =
      front
      ∙ ap (λ l. n ∷ m ∷ l) tables
      ∙ ap₂
      (λ k j. k ∷ j ∷ (all_records node_texts node_record (texts_start k j) nodes ++ (all_records record_texts property_record (texts_start k j + length names) properties ++ (names ++ labels))))
      (sym (node_count_lem bs)) (sym (property_count_lem bs))

  depths_fit_whole : (parents_sound nodes && depths_sound nodes) ≡ true
  depths_fit_whole = sym (depths_fit_exact nodes) ∙ ap parents_fit (sym (parents_seen bs n (drop 2 bs))) ∙ depths_fit-passed

  sound-seen : sound (seen bs) ≡ true
  unfolding seen
  sound-seen =
      sound_whole (seen bs)
      (record {
        nodes = omega (arith, node_count_lem bs, counted.nodes);
        parents = and_left (parents_sound nodes) _ depths_fit_whole;
        depths = and_right (parents_sound nodes) _ depths_fit_whole;
        names = whole.of_nodes.good;
        properties = omega (arith, property_count_lem bs, counted.properties);
        each = ap (λ k. every (property_sound k) properties) (node_count_lem bs) ∙ whole.of_properties.good;
      })

  passed : is_tree bs ≡ true
  unfolding is_tree
  passed = and_both (ap (same bs) (sym formed) ∙ same_refl bs) sound-seen

-- Bytes that stand for a sound tree pass.
passes : (bs : List ℕ) → is_tree bs ≡ true → checked bs ≡ true
unfolding is_tree
passes bs h =
    let same_bytes : bs ≡ tree_form (seen bs) = same_eq bs (tree_form (seen bs)) (and_left (same bs (tree_form (seen bs))) _ h) in
    ap checked same_bytes ∙ form_checked (seen bs) (sound_parts (seen bs) (and_right (same bs (tree_form (seen bs))) _ h))

pub checked_exact : (bs : List ℕ) → Bytes bs → checked bs ≡ is_tree bs
checked_exact bs all = alike (checked bs) (is_tree bs) (passed bs all) (passes bs)
