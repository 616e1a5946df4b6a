-- A node's record and its name: read from bytes that end well, and written.
-- Assumes nothing.
use Prim.Native.Nat.{ℕ, suc, ◌+◌, ◌<◌, ◌≤◌}
use native.Mathlib.Omega.{arith}
use mathlib.Core.Path.{◌≡◌, refl, sym, ap, subst, ◌∙◌}
use mathlib.Core.Bool.{Bool, true, cond}
use mathlib.Core.List.{List, [], ◌∷◌, ◌++◌}
use mathlib.Core.Option.{none, some}
use borrow.Author.Tests.{eqb-true, leb-true, eq-eqb, le-leb}
use lib.ListN.{length, get_or, take, drop, length-append}
use lib.Dec.{eqb, leb}
use Rattle.protocol.specs.Numbers.{half_end, max_name, name_room}
use Rattle.protocol.specs.Bytes.{Bytes, every, half, text, texts}
use Rattle.protocol.specs.Tree.{Node, is_text, is_name}
use Rattle.protocol.proofs.TestLaws.{and_left, and_right, and_both}
use Rattle.tree.specs.Form.{node_size, node_texts, node_record}
use Rattle.tree.specs.Seen.{half_at, first_text, texts_from, node_seen}
use Rattle.tree.specs.Steps.{entries}
use Rattle.tree.proofs.FoundLaws.{if_some}
use Rattle.tree.proofs.TextLaws.{texts-one}
use Rattle.soundness.specs.Check.{texts_end, texts_end_in, node_end}
use Rattle.soundness.proofs.ScanLaws.{Lie, scan_back, text-seen, scan_forth}
use Rattle.soundness.proofs.TableLaws.{LaidOne, Written}
use Rattle.soundness.proofs.NumberLaws.{take-entries, number-half, half_again}

-- A text and its zero.
pub length-text : (s : List ℕ) → length (text s) ≡ suc (length s)
unfolding text
length-text s = omega (arith, length-append s (0 ∷ []))

-- What a name or label keeps.
module _ (s : List ℕ) (h : is_name s ≡ true) where
  pub name_short : length s ≤ max_name
  unfolding is_name
  name_short = leb-true (length s) max_name (and_left (leb (length s) max_name) (is_text s) h)

  pub name_text : is_text s ≡ true
  unfolding is_name
  name_text = and_right (leb (length s) max_name) (is_text s) h

-- A name or label that lies at a place.
pub record Named (x s : List ℕ) (at end : ℕ) : Type 0 where
  pub name : is_name s ≡ true
  pub ends : end ≡ at + length (text s)
  pub there : take (length (text s)) x ≡ text s

pub name_back : (bs : List ℕ) (at end : ℕ) → texts_end_in bs name_room 1 at ≡ some end → Named (drop at bs) (first_text (drop at bs)) at end
unfolding texts_from is_name every
name_back bs at end h =
    let s : List ℕ = first_text (drop at bs) in
    let l : Lie (drop at bs) (s ∷ []) name_room at end = scan_back (drop at bs) name_room 1 at end (omega arith) h in
    let one : length (texts (s ∷ [])) ≡ length (text s) = ap length (texts-one s) in
    record {
      name =
          and_both (le-leb (length s) max_name (omega (arith, l.fits, one, length-text s))) (and_left (is_text s) true l.characters);
      ends = l.ends ∙ ap (λ n. at + n) one;
      there = ap (λ n. take n (drop at bs)) (sym one) ∙ l.there ∙ texts-one s;
    }

pub name_forth : (bs s more : List ℕ) (at : ℕ) → is_name s ≡ true → drop at bs ≡ text s ++ more
    → texts_end_in bs name_room 1 at ≡ some (at + length (text s))
unfolding every
name_forth bs s more at h e =
    let one : length (texts (s ∷ [])) ≡ length (text s) = ap length (texts-one s) in
    ap (λ x. texts_end (take name_room x) 1 at) (e ∙ ap (λ l. l ++ more) (sym (texts-one s)))
    ∙ scan_forth [] s more name_room at (and_both (name_text s h) refl) (omega (arith, one, length-text s, name_short s h))
    ∙ ap (λ n. some (at + n)) one

-- A node that ends well is laid out as in a form.
abbrev pub node_good : Node → Bool
node_good n = is_name n.name

take_node : (r : List ℕ) → Bytes r → node_size ≤ length r → take node_size r ≡ get_or r 0 0 ∷ half (half_at 1 r)
unfolding entries
take_node r all h = take-entries 3 0 r h ∙ ap (λ l. get_or r 0 0 ∷ l) (sym (half_again 1 r all))

module _ (bs : List ℕ) where
  pub node_laid : (r : List ℕ) (at next : ℕ) → Bytes r → node_size ≤ length r → node_end bs r at ≡ some next
      → LaidOne bs node_size (node_seen bs) node_texts node_record (node_end bs) node_good r at next
  unfolding node_end node_seen node_record
  node_laid r at next all h e =
      let both = if_some (eqb (half_at 1 r) at) e in
      let place : half_at 1 r ≡ at = eqb-true (half_at 1 r) at both.0 in
      let named : Named (drop (half_at 1 r) bs) (first_text (drop (half_at 1 r) bs)) at next =
      subst (λ k. Named (drop k bs) (first_text (drop k bs)) at next) (sym place) (name_back bs at next both.1) in
      record {
        bytes = take_node r all h ∙ ap (λ k. get_or r 0 0 ∷ half k) place;
        ends = named.ends;
        texts = ap (λ k. take (length (text (first_text (drop (half_at 1 r) bs)))) (drop k bs)) (sym place) ∙ named.there;
        good = named.name;
      }

  place_read : (n : Node) (at : ℕ) (rest : List ℕ) → at < half_end → half_at 1 (node_record at n ++ rest) ≡ at
  unfolding half_at node_record half
  place_read n at rest h = number-half at h

  pub node_written : Written bs node_size (node_seen bs) node_texts node_record (node_end bs) node_good
  unfolding node_seen node_end node_record half
  node_written =
      record {
        sized = λ at n. refl;
        again = λ n at rest more h k e.
            ap (λ s. record { parent = n.parent; name = s })
            (ap (λ p. first_text (drop p bs)) (place_read n at rest (omega arith))
            ∙ ap first_text e
            ∙ text-seen n.name more (name_text n.name h));
        ends = λ n at rest more h k e.
            ap (λ t. cond t (texts_end_in bs name_room 1 at) none) (eq-eqb (half_at 1 (node_record at n ++ rest)) at (place_read n at rest (omega arith)))
            ∙ name_forth bs n.name more at h e;
      }
