-- A property's record, its label and its unit or options: read from bytes that end well, and written.
-- Assumes nothing.
use Prim.Native.Nat.{ℕ, zero, suc, ◌+◌, ◌%◌, ◌<◌, ◌≤◌}
use native.Mathlib.Omega.{arith}
use native.Mathlib.Nat.{not-suc-le-zero}
use mathlib.Core.Path.{◌≡◌, refl, sym, ap, ap₂, subst, ◌∙◌}
use mathlib.Core.Bool.{Bool, true, false, cond, ◌&&◌}
use mathlib.Core.List.{List, [], ◌∷◌, ◌++◌, append_assoc}
use mathlib.Core.Option.{Option, none, some}
use borrow.Author.Tests.{eqb-true, leb-true, ltb-true, eq-eqb, le-leb, lt-ltb}
use lib.ListN.{length, get_or, take, drop, length-append}
use lib.Seq.{length-take-le, drop-drop, take-add, drop-append_seam}
use lib.Dec.{eqb, leb, ltb}
use Rattle.protocol.specs.Numbers.{half_end, word_end, standard, enumeration, max_option, max_texts, name_room}
use Rattle.protocol.specs.Bytes.{Bytes, every, half, word, text, texts}
use Rattle.protocol.specs.Request.{before_zero}
use Rattle.protocol.specs.Tree.{Property, is_text, is_name, live_sound, standard_fits, standard_sound, enumeration_sound, kind_sound, options_sound, widths_sound, property_sound}
use Rattle.protocol.specs.Answer.{record_texts}
use Rattle.protocol.proofs.TestLaws.{and_left, and_right, and_both}
use Rattle.protocol.proofs.ListLaws.{number_word}
use Rattle.protocol.proofs.RequestLaws.{zero_within}
use Rattle.tree.specs.Form.{property_size, property_record}
use Rattle.tree.specs.Seen.{half_at, word_at, first_text, after_text, texts_from, option_count, property_seen, node_count}
use Rattle.tree.specs.Steps.{entries}
use Rattle.tree.proofs.FoundLaws.{if_some}
use Rattle.tree.proofs.NumberLaws.{word_fits}
use Rattle.soundness.specs.Check.{texts_end, texts_end_in, and_then, kind_fits, fields_fit, property_end}
use Rattle.soundness.proofs.ScanLaws.{Lie, scan_back, text-seen, text-passed, texts-seen, scan_forth}
use Rattle.soundness.proofs.ThenLaws.{then_some, then_back}
use Rattle.soundness.proofs.TableLaws.{LaidOne, Written}
use Rattle.soundness.proofs.NumberLaws.{take-entries, number-half, half_again, word_again, half-fits}
use Rattle.soundness.proofs.NodeLaws.{length-text, name_text, Named, name_back, name_forth}

-- The first text ends with the first zero, or with the bytes.
length_first : (x : List ℕ) → length (first_text x) ≡ before_zero x
length_first x = length-take-le (before_zero x) x (zero_within x)

-- Behind a name that lies at a place.
behind_name : (bs : List ℕ) (at mid : ℕ) → Named (drop at bs) (first_text (drop at bs)) at mid → drop mid bs ≡ after_text (drop at bs)
behind_name bs at mid n =
    ap (λ k. drop k bs) n.ends
    ∙ sym (drop-drop (length (text (first_text (drop at bs)))) at bs)
    ∙ ap (λ k. drop k (drop at bs)) (length-text (first_text (drop at bs)) ∙ ap suc (length_first (drop at bs)))

pub count_seen : (n : ℕ) (x : List ℕ) → length (texts_from n x) ≡ n
unfolding texts_from
count_seen zero x = refl
count_seen (suc n) x = ap suc (count_seen n (after_text x))

-- How many options there are, by type.
count_standard : (kind max : ℕ) → kind ≡ standard → option_count kind max ≡ 1
unfolding option_count
count_standard kind max e = rw e

count_enumeration : (kind max : ℕ) → kind ≡ enumeration → max ≤ max_option → option_count kind max ≡ suc max
unfolding option_count
count_enumeration kind max e h = rw e (omega arith)

count_some : (kind max : ℕ) → 1 ≤ option_count kind max
unfolding option_count
count_some kind max = go (eqb kind enumeration)
  where
    go : (t : Bool) → 1 ≤ cond t (suc (max % 16)) 1
    go true = omega arith
    go false = omega arith

-- The rules of the type: with the right number of texts they are those of a sound property.
module _ (p : Property) where
  pub fits_by : (t : Bool) → eqb p.kind standard ≡ t
      → kind_fits p ≡ cond t (standard_fits p) (eqb p.kind enumeration && (eqb p.min 0 && leb p.max max_option))
  unfolding kind_fits
  fits_by t e = rw e

  sound_by : (t : Bool) → eqb p.kind standard ≡ t
      → kind_sound p ≡ cond t (standard_sound p) (eqb p.kind enumeration && enumeration_sound p)
  unfolding kind_sound
  sound_by t e = rw e

  pub kind_sound_lem : length p.options ≡ option_count p.kind p.max → kind_fits p ≡ true → kind_sound p ≡ true
  unfolding standard_sound enumeration_sound
  kind_sound_lem n h = go (eqb p.kind standard) refl
    where
      go : (t : Bool) → eqb p.kind standard ≡ t → kind_sound p ≡ true
      go true e =
          sound_by true e
          ∙ and_both
          (eq-eqb (length p.options) 1 (n ∙ count_standard p.kind p.max (eqb-true p.kind standard e)))
          (sym (fits_by true e) ∙ h)
      go false e =
          let all : (eqb p.kind enumeration && (eqb p.min 0 && leb p.max max_option)) ≡ true = sym (fits_by false e) ∙ h in
          let two : eqb p.kind enumeration ≡ true = and_left (eqb p.kind enumeration) _ all in
          let rest : (eqb p.min 0 && leb p.max max_option) ≡ true = and_right (eqb p.kind enumeration) _ all in
          let top : leb p.max max_option ≡ true = and_right (eqb p.min 0) _ rest in
          sound_by false e
          ∙ and_both two
          (and_both (and_left (eqb p.min 0) _ rest)
          (and_both top
          (eq-eqb (length p.options) (suc p.max)
          (n ∙ count_enumeration p.kind p.max (eqb-true p.kind enumeration two) (leb-true p.max max_option top)))))

  pub kind_fits_lem : kind_sound p ≡ true → (kind_fits p ≡ true) × (length p.options ≡ option_count p.kind p.max)
  unfolding standard_sound enumeration_sound
  kind_fits_lem h = go (eqb p.kind standard) refl
    where
      go : (t : Bool) → eqb p.kind standard ≡ t → (kind_fits p ≡ true) × (length p.options ≡ option_count p.kind p.max)
      go true e =
          let all : (eqb (length p.options) 1 && standard_fits p) ≡ true = sym (sound_by true e) ∙ h in (
            fits_by true e ∙ and_right (eqb (length p.options) 1) _ all,
            eqb-true (length p.options) 1 (and_left (eqb (length p.options) 1) _ all)
                ∙ sym (count_standard p.kind p.max (eqb-true p.kind standard e)),
          )
      go false e =
          let all : (eqb p.kind enumeration && (eqb p.min 0 && (leb p.max max_option && eqb (length p.options) (suc p.max)))) ≡ true =
          sym (sound_by false e) ∙ h in
          let two : eqb p.kind enumeration ≡ true = and_left (eqb p.kind enumeration) _ all in
          let zeros : (eqb p.min 0 && (leb p.max max_option && eqb (length p.options) (suc p.max))) ≡ true =
          and_right (eqb p.kind enumeration) _ all in
          let rest : (leb p.max max_option && eqb (length p.options) (suc p.max)) ≡ true = and_right (eqb p.min 0) _ zeros in
          let top : leb p.max max_option ≡ true = and_left (leb p.max max_option) _ rest in (
            fits_by false e ∙ and_both two (and_both (and_left (eqb p.min 0) _ zeros) top),
            eqb-true (length p.options) (suc p.max) (and_right (leb p.max max_option) _ rest)
                ∙ sym (count_enumeration p.kind p.max (eqb-true p.kind enumeration two) (leb-true p.max max_option top)),
          )

-- A property that ends well is laid out as in a form.
take_property : (r : List ℕ) → Bytes r → property_size ≤ length r
    → take property_size r
    ≡ get_or r 0 0 ∷ get_or r 1 0 ∷ (word (word_at 2 r) ++ (word (word_at 6 r) ++ (half (half_at 10 r) ++ (half (half_at 12 r) ++ half (half_at 14 r)))))
unfolding entries
take_property r all h =
    rw (word_again 2 r all, word_again 6 r all, half_again 10 r all, half_again 12 r all, half_again 14 r all) (take-entries 16 0 r h)

-- Label and options, one behind the other.
record Labelled (x label : List ℕ) (options : List (List ℕ)) (at end : ℕ) : Type 0 where
  name : is_name label ≡ true
  texts_good : options_sound options ≡ true
  ends : end ≡ at + length (text label ++ texts options)
  there : take (length (text label ++ texts options)) x ≡ text label ++ texts options

labelled : (bs : List ℕ) (at mid end n : ℕ) → 1 ≤ n → texts_end_in bs name_room 1 at ≡ some mid → texts_end_in bs max_texts n mid ≡ some end
    → Labelled (drop at bs) (first_text (drop at bs)) (texts_from n (after_text (drop at bs))) at end
unfolding options_sound
labelled bs at mid end n one h k =
    let named : Named (drop at bs) (first_text (drop at bs)) at mid = name_back bs at mid h in
    let next : drop mid bs ≡ after_text (drop at bs) = behind_name bs at mid named in
    let lie : Lie (after_text (drop at bs)) (texts_from n (after_text (drop at bs))) max_texts mid end =
    subst (λ x. Lie x (texts_from n x) max_texts mid end) next (scan_back (drop mid bs) max_texts n mid end one k) in
    let label : List ℕ = text (first_text (drop at bs)) in
    let rest : List ℕ = texts (texts_from n (after_text (drop at bs))) in
    record {
      name = named.name;
      texts_good = and_both lie.characters (le-leb (length rest) max_texts lie.fits);
      ends = omega (arith, named.ends, lie.ends, length-append label rest);
      there =
          ap (λ m. take m (drop at bs)) (length-append label rest)
          ∙ take-add (length label) (length rest) (drop at bs)
          ∙ ap₂ (λ a b. a ++ b) named.there
          (ap (take (length rest)) (drop-drop (length label) at bs ∙ ap (λ k. drop k bs) (sym named.ends) ∙ next) ∙ lie.there);
    }

abbrev pub property_good : List ℕ → Property → Bool
property_good bs p = property_sound (node_count bs) p

fields_sound : (nodes : ℕ) (p : Property) → fields_fit nodes p ≡ true → widths_sound p ≡ true
    → length p.options ≡ option_count p.kind p.max → is_name p.label ≡ true → options_sound p.options ≡ true
    → property_sound nodes p ≡ true
unfolding fields_fit property_sound
fields_sound nodes p h w n name os =
    let rest : (live_sound p && kind_fits p) ≡ true = and_right (ltb p.node nodes) _ h in
    and_both (and_left (ltb p.node nodes) _ h)
    (and_both w
    (and_both (and_left (live_sound p) _ rest)
    (and_both (kind_sound_lem p n (and_right (live_sound p) _ rest)) (and_both name os))))

module _ (bs : List ℕ) where
  widths_seen : (r : List ℕ) → Bytes r → widths_sound (property_seen bs r) ≡ true
  unfolding property_seen
  widths_seen r all =
      and_both (lt-ltb (word_at 2 r) word_end (word_fits 2 r all))
      (and_both (lt-ltb (word_at 6 r) word_end (word_fits 6 r all))
      (and_both (lt-ltb (half_at 10 r) half_end (half-fits 10 r all)) (lt-ltb (half_at 12 r) half_end (half-fits 12 r all))))

  pub property_laid : (r : List ℕ) (at next : ℕ) → Bytes r → property_size ≤ length r → property_end bs r at ≡ some next
      → LaidOne bs property_size (property_seen bs) record_texts property_record (property_end bs) (property_good bs) r at next
  unfolding property_end property_seen property_record
  property_laid r at next all h e =
      let n : ℕ = option_count (get_or r 1 0) (word_at 6 r) in
      let both = if_some (fields_fit (node_count bs) (property_seen bs r) && eqb (half_at 14 r) at) e in
      let fit : fields_fit (node_count bs) (property_seen bs r) ≡ true =
      and_left (fields_fit (node_count bs) (property_seen bs r)) (eqb (half_at 14 r) at) both.0 in
      let place : half_at 14 r ≡ at =
      eqb-true (half_at 14 r) at (and_right (fields_fit (node_count bs) (property_seen bs r)) (eqb (half_at 14 r) at) both.0) in
      let steps = then_back (texts_end_in bs name_room 1 at) (λ mid. texts_end_in bs max_texts n mid) both.1 in
      let l : Labelled (drop (half_at 14 r) bs) (first_text (drop (half_at 14 r) bs)) (texts_from n (after_text (drop (half_at 14 r) bs))) at next =
      subst (λ k. Labelled (drop k bs) (first_text (drop k bs)) (texts_from n (after_text (drop k bs))) at next) (sym place)
      (labelled bs at steps.0 next n (count_some (get_or r 1 0) (word_at 6 r)) steps.1.0 steps.1.1) in
      record {
        bytes =
            take_property r all h
            ∙ ap
            (λ k. get_or r 0 0 ∷ get_or r 1 0 ∷ (word (word_at 2 r) ++ (word (word_at 6 r) ++ (half (half_at 10 r) ++ (half (half_at 12 r) ++ half k)))))
            place;
        ends = l.ends;
        texts = ap (λ k. take (length (record_texts (property_seen bs r))) (drop k bs)) (sym place) ∙ l.there;
        good =
            fields_sound (node_count bs) (property_seen bs r) fit (widths_seen r all) (count_seen n (after_text (drop (half_at 14 r) bs))) l.name
            l.texts_good;
      }

-- What a sound property keeps, rule by rule.
pub record Kept (nodes : ℕ) (p : Property) : Type 0 where
  pub fit : fields_fit nodes p ≡ true
  pub node : p.node < nodes
  pub min : p.min < word_end
  pub max : p.max < word_end
  pub attribute : p.attribute < half_end
  pub format : p.format < half_end
  pub count : length p.options ≡ option_count p.kind p.max
  pub label : is_name p.label ≡ true
  pub characters : every is_text p.options ≡ true
  pub room : length (texts p.options) ≤ max_texts

pub kept : (nodes : ℕ) (p : Property) → property_sound nodes p ≡ true → Kept nodes p
unfolding property_sound options_sound fields_fit
kept nodes p h =
    let all = and_right (ltb p.node nodes) _ h in
    let widths = and_left (widths_sound p) _ all in
    let upper = and_right (ltb p.min word_end) _ widths in
    let halves = and_right (ltb p.max word_end) _ upper in
    let live = and_right (widths_sound p) _ all in
    let kind = and_right (live_sound p) _ live in
    let named = and_right (kind_sound p) _ kind in
    let os = and_right (is_name p.label) _ named in
    let kf = kind_fits_lem p (and_left (kind_sound p) _ kind) in
    record {
      fit = and_both (and_left (ltb p.node nodes) _ h) (and_both (and_left (live_sound p) _ live) kf.0);
      node = ltb-true p.node nodes (and_left (ltb p.node nodes) _ h);
      min = ltb-true p.min word_end (and_left (ltb p.min word_end) _ widths);
      max = ltb-true p.max word_end (and_left (ltb p.max word_end) _ upper);
      attribute = ltb-true p.attribute half_end (and_left (ltb p.attribute half_end) _ halves);
      format = ltb-true p.format half_end (and_right (ltb p.attribute half_end) _ halves);
      count = kf.1;
      label = and_left (is_name p.label) _ named;
      characters = and_left (every is_text p.options) _ os;
      room = leb-true (length (texts p.options)) max_texts (and_right (every is_text p.options) _ os);
    }

-- Some texts, at least one, scanned.
scan_texts : (ss : List (List ℕ)) (more : List ℕ) (at : ℕ) → 1 ≤ length ss → every is_text ss ≡ true → length (texts ss) ≤ max_texts
    → texts_end (take max_texts (texts ss ++ more)) (length ss) at ≡ some (at + length (texts ss))
scan_texts [] more at n h k = absurd (not-suc-le-zero n)
scan_texts (s ∷ ss) more at n h k = scan_forth ss s more max_texts at h k

-- The numbers of a record, read again.
module _ (p : Property) (at : ℕ) (rest : List ℕ) where
  min_read : p.min < word_end → word_at 2 (property_record at p ++ rest) ≡ p.min
  unfolding word_at property_record word half
  min_read h = number_word p.min h

  max_read : p.max < word_end → word_at 6 (property_record at p ++ rest) ≡ p.max
  unfolding word_at property_record word half
  max_read h = number_word p.max h

  attribute_read : p.attribute < half_end → half_at 10 (property_record at p ++ rest) ≡ p.attribute
  unfolding half_at property_record word half
  attribute_read h = number-half p.attribute h

  format_read : p.format < half_end → half_at 12 (property_record at p ++ rest) ≡ p.format
  unfolding half_at property_record word half
  format_read h = number-half p.format h

  label_read : at < half_end → half_at 14 (property_record at p ++ rest) ≡ at
  unfolding half_at property_record word half
  label_read h = number-half at h

-- Two properties of equal parts.
property_parts : {node kind min min' max max' attribute attribute' format format' : ℕ} {label label' : List ℕ} {options options' : List (List ℕ)}
    → min ≡ min' → max ≡ max' → attribute ≡ attribute' → format ≡ format' → label ≡ label' → options ≡ options'
    → ◌≡◌ {A = Property}
    (record { node = node; kind = kind; min = min; max = max; attribute = attribute; format = format; label = label; options = options })
    (record { node = node; kind = kind; min = min'; max = max'; attribute = attribute'; format = format'; label = label'; options = options' })
property_parts a b c d e f = cc

module _ (bs : List ℕ) where
  property_again : (p : Property) (at : ℕ) (rest more : List ℕ) → property_good bs p ≡ true → at + length (record_texts p) < half_end
      → drop at bs ≡ record_texts p ++ more → property_seen bs (property_record at p ++ rest) ≡ p
  unfolding property_seen property_record
  property_again p at rest more h k e =
      let s : Kept (node_count bs) p = kept (node_count bs) p h in
      let r : List ℕ = property_record at p ++ rest in
      let place : half_at 14 r ≡ at = label_read p at rest (omega arith) in
      let split : drop at bs ≡ text p.label ++ (texts p.options ++ more) = e ∙ append_assoc (text p.label) (texts p.options) more in
      let good : is_text p.label ≡ true = name_text p.label s.label in
      property_parts (min_read p at rest s.min) (max_read p at rest s.max) (attribute_read p at rest s.attribute)
      (format_read p at rest s.format)
      (ap (λ i. first_text (drop i bs)) place ∙ ap first_text split ∙ text-seen p.label (texts p.options ++ more) good)
      (ap₂ (λ n x. texts_from n (after_text x)) (ap (option_count p.kind) (max_read p at rest s.max) ∙ sym s.count) (ap (λ i. drop i bs) place ∙ split)
      ∙ ap (texts_from (length p.options)) (text-passed p.label (texts p.options ++ more) good)
      ∙ texts-seen p.options more s.characters)

  property_end_lem : (p : Property) (at : ℕ) (rest more : List ℕ) → property_good bs p ≡ true → at + length (record_texts p) < half_end
      → drop at bs ≡ record_texts p ++ more → property_end bs (property_record at p ++ rest) at ≡ some (at + length (record_texts p))
  unfolding property_end property_record
  property_end_lem p at rest more h k e =
      let s : Kept (node_count bs) p = kept (node_count bs) p h in
      let r : List ℕ = property_record at p ++ rest in
      let label : List ℕ = text p.label in
      let mid : ℕ = at + length label in
      let os : List ℕ = texts p.options in
      let split : drop at bs ≡ label ++ (os ++ more) = e ∙ append_assoc label os more in
      let next : drop mid bs ≡ os ++ more =
      sym (drop-drop (length label) at bs) ∙ ap (drop (length label)) split ∙ drop-append_seam label (os ++ more) in
      let n : option_count p.kind (word_at 6 r) ≡ length p.options = ap (option_count p.kind) (max_read p at rest s.max) ∙ sym s.count in
      let test : (fields_fit (node_count bs) (property_seen bs r) && eqb (half_at 14 r) at) ≡ true =
      and_both (ap (fields_fit (node_count bs)) (property_again p at rest more h k e) ∙ s.fit)
      (eq-eqb (half_at 14 r) at (label_read p at rest (omega arith))) in
      let options_end : ℕ → Option ℕ = λ m. texts_end_in bs max_texts (option_count (get_or r 1 0) (word_at 6 r)) m in
      ap (λ t. cond t (and_then (texts_end_in bs name_room 1 at) options_end) none) test
      ∙ then_some options_end (name_forth bs p.label (os ++ more) at s.label split)
      ∙ ap₂ (λ m x. texts_end (take max_texts x) m mid) n next
      ∙ scan_texts p.options more mid (omega (arith, s.count, count_some p.kind p.max)) s.characters s.room
      ∙ ap some (omega (arith, length-append label os))

  pub property_written : Written bs property_size (property_seen bs) record_texts property_record (property_end bs) (property_good bs)
  unfolding property_record word half
  property_written = record { sized = λ at p. refl; again = property_again; ends = property_end_lem }
