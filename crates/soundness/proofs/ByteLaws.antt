-- The form of a sound tree is bytes.
-- Assumes nothing.
use Prim.Native.Nat.{ℕ, suc, ◌+◌, ◌<◌, ◌≤◌}
use native.Mathlib.Omega.{arith}
use native.Mathlib.Nat.{lt_of_lt_of_le}
use mathlib.Core.Path.{◌≡◌, refl, sym, ◌∙◌}
use mathlib.Core.Bool.{Bool, true, false, ◌&&◌}
use mathlib.Core.List.{List, [], ◌∷◌, ◌++◌}
use borrow.Author.Tests.{leb-true, ltb-true, eqb-true, lt-ltb}
use lib.ListN.{length}
use lib.Dec.{eqb, leb, ltb}
use Rattle.protocol.specs.Numbers.{byte_end, first_character, last_character, standard, enumeration, max_option}
use Rattle.protocol.specs.Bytes.{Bytes, every, half, word, text, texts}
use Rattle.protocol.specs.Tree.{Node, Property, Tree, is_character, is_text, is_name, parents_from, parents_sound, live_sound, property_sound, sound}
use Rattle.protocol.specs.Answer.{record_texts}
use Rattle.protocol.proofs.TestLaws.{and_left, and_right, and_both}
use Rattle.protocol.proofs.ListLaws.{bytes_cons, bytes_none, bytes_append, half_bytes}
use Rattle.tree.specs.Form.{all_texts, all_records, node_texts, node_record, property_record, names_of, labels_of, names_start, tree_form}
use Rattle.tree.proofs.NumberLaws.{word_bytes}
use Rattle.soundness.specs.Check.{kind_fits, fields_fit}
use Rattle.soundness.proofs.PropertyLaws.{fits_by, Kept, kept}
use Rattle.soundness.proofs.NodeLaws.{name_text, node_good}
use Rattle.soundness.proofs.FormLaws.{Sound, sound_parts}

-- Texts.
text_bytes : (s : List ℕ) → is_text s ≡ true → Bytes (text s)
unfolding text every
text_bytes [] h = bytes_cons 0 [] (omega arith) bytes_none
text_bytes (b ∷ s) h =
    let one : is_character b ≡ true = and_left (is_character b) (is_text s) h in
    let top : b ≤ last_character = leb-true b last_character (and_right (leb first_character b) _ one) in
    bytes_cons b (text s) (omega arith) (text_bytes s (and_right (is_character b) (is_text s) h))

texts_bytes : (ss : List (List ℕ)) → every is_text ss ≡ true → Bytes (texts ss)
unfolding texts every
texts_bytes [] h = bytes_none
texts_bytes (s ∷ ss) h =
    bytes_append (text s) (texts ss) (text_bytes s (and_left (is_text s) (every is_text ss) h))
    (texts_bytes ss (and_right (is_text s) (every is_text ss) h))

name_bytes : (s : List ℕ) → is_name s ≡ true → Bytes (text s)
name_bytes s h = text_bytes s (name_text s h)

-- All texts and all records, if those of each entry are bytes.
module _ {A : Type 0} (textsIn : A → List ℕ) (recordFor : ℕ → A → List ℕ) (ok : A → Bool) where
  all_texts_lem : ((x : A) → ok x ≡ true → Bytes (textsIn x)) → (xs : List A) → every ok xs ≡ true → Bytes (all_texts textsIn xs)
  unfolding all_texts every
  all_texts_lem each [] h = bytes_none
  all_texts_lem each (x ∷ xs) h =
      bytes_append (textsIn x) (all_texts textsIn xs) (each x (and_left (ok x) (every ok xs) h)) (all_texts_lem each xs (and_right (ok x) (every ok xs) h))

  all_records_lem : ((at : ℕ) (x : A) → ok x ≡ true → Bytes (recordFor at x)) → (xs : List A) (at : ℕ) → every ok xs ≡ true
      → Bytes (all_records textsIn recordFor at xs)
  unfolding all_records every
  all_records_lem each [] at h = bytes_none
  all_records_lem each (x ∷ xs) at h =
      bytes_append (recordFor at x) (all_records textsIn recordFor (at + length (textsIn x)) xs) (each at x (and_left (ok x) (every ok xs) h))
      (all_records_lem each xs (at + length (textsIn x)) (and_right (ok x) (every ok xs) h))

-- A node's parent stands before it, so that it is a byte; a property's node is one of the tree's, and its type 1 or 2.
abbrev parent_byte : Node → Bool
parent_byte n = ltb n.parent byte_end

parents_small : (ns : List Node) (k : ℕ) → parents_from k ns ≡ true → k + length ns ≤ byte_end → every parent_byte ns ≡ true
unfolding parents_from every
parents_small [] k h fit = refl
parents_small (n ∷ ns) k h fit =
    let before : n.parent < k = ltb-true n.parent k (and_left (ltb n.parent k) _ h) in
    and_both (lt-ltb n.parent byte_end (omega arith))
    (parents_small ns (suc k) (and_right (ltb n.parent k) _ h) (omega arith))

parents_bytes : (ns : List Node) → parents_sound ns ≡ true → length ns ≤ byte_end → every parent_byte ns ≡ true
unfolding parents_sound every
parents_bytes [] h fit = refl
parents_bytes (n ∷ ns) h fit =
    let root : n.parent ≡ 0 = eqb-true n.parent 0 (and_left (eqb n.parent 0) _ h) in
    and_both (lt-ltb n.parent byte_end (omega (arith, root)))
    (parents_small ns 1 (and_right (eqb n.parent 0) _ h) (omega arith))

node_bytes : (at : ℕ) (n : Node) → parent_byte n ≡ true → Bytes (node_record at n)
unfolding node_record
node_bytes at n h = bytes_cons n.parent (half at) (ltb-true n.parent byte_end h) (half_bytes at)

kind_byte : (p : Property) → kind_fits p ≡ true → p.kind < byte_end
kind_byte p h = go (eqb p.kind standard) refl
  where
    go : (t : Bool) → eqb p.kind standard ≡ t → p.kind < byte_end
    go true e = omega (arith, eqb-true p.kind standard e)
    go false e =
        omega (arith, eqb-true p.kind enumeration (and_left (eqb p.kind enumeration) (eqb p.min 0 && leb p.max max_option) (sym (fits_by p false e) ∙ h)))

property_bytes : (nodes at : ℕ) (p : Property) → nodes ≤ byte_end → property_sound nodes p ≡ true → Bytes (property_record at p)
unfolding property_record fields_fit
property_bytes nodes at p fit h =
    let k : Kept nodes p = kept nodes p h in
    let kind : kind_fits p ≡ true = and_right (live_sound p) _ (and_right (ltb p.node nodes) _ k.fit) in
    let bits : List ℕ = half p.attribute ++ (half p.format ++ half at) in
    bytes_cons p.node (p.kind ∷ (word p.min ++ (word p.max ++ bits))) (lt_of_lt_of_le k.node fit)
    (bytes_cons p.kind (word p.min ++ (word p.max ++ bits)) (kind_byte p kind)
    (bytes_append (word p.min) (word p.max ++ bits) (word_bytes p.min)
    (bytes_append (word p.max) bits (word_bytes p.max)
    (bytes_append (half p.attribute) (half p.format ++ half at) (half_bytes p.attribute)
    (bytes_append (half p.format) (half at) (half_bytes p.format) (half_bytes at))))))

record-texts-bytes : (nodes : ℕ) (p : Property) → property_sound nodes p ≡ true → Bytes (record_texts p)
record-texts-bytes nodes p h =
    let k : Kept nodes p = kept nodes p h in
    bytes_append (text p.label) (texts p.options) (name_bytes p.label k.label) (texts_bytes p.options k.characters)

pub form_bytes : (t : Tree) → sound t ≡ true → Bytes (tree_form t)
unfolding tree_form
form_bytes t h =
    let ok : Sound t = sound_parts t h in
    let nodes : ℕ = length t.nodes in
    let few : nodes ≤ byte_end = omega (arith, ok.nodes) in
    let mid : ℕ = names_start t + length (names_of t) in
    let first : List ℕ = all_records node_texts node_record (names_start t) t.nodes in
    let second : List ℕ = all_records record_texts property_record mid t.properties in
    let last : List ℕ = names_of t ++ labels_of t in
    bytes_cons nodes (length t.properties ∷ (first ++ (second ++ last))) (omega (arith, ok.nodes))
    (bytes_cons (length t.properties) (first ++ (second ++ last)) (omega (arith, ok.properties))
    (bytes_append first (second ++ last)
    (all_records_lem node_texts node_record parent_byte node_bytes t.nodes (names_start t) (parents_bytes t.nodes ok.parents few))
    (bytes_append second last
    (all_records_lem record_texts property_record (property_sound nodes) (λ at p. property_bytes nodes at p few) t.properties mid ok.each)
    (bytes_append (names_of t) (labels_of t)
    (all_texts_lem node_texts node_record node_good (λ n. name_bytes n.name) t.nodes ok.names)
    (all_texts_lem record_texts property_record (property_sound nodes) (record-texts-bytes nodes) t.properties ok.each)))))
