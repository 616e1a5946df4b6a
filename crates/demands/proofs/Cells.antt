-- Demands 1 and 2 over postings, readings and restored cells: theorems about every call that meets its promise.
-- Assumes nothing.
use Prim.Native.Nat.{ℕ}
use native.Mathlib.Omega.{arith}
use mathlib.Core.Path.{◌≡◌, refl, sym, ap, ◌∙◌}
use mathlib.Core.Bool.{Bool, true, false, cond, false≢true, ◌&&◌}
use mathlib.Core.List.{List, [], ◌∷◌}
use mathlib.Core.Option.{Option, none, some}
use lib.ListN.{length, set}
use lib.Dec.{ltb}
use Rattle.protocol.specs.Numbers.{done, unsound, no_such_property, no_reading, not_live, word_end}
use Rattle.protocol.specs.Bytes.{Bytes, every}
use Rattle.protocol.specs.Tree.{Property, Cell, is_live, property_in, cell_in, reading, unready, restored, Posting, posted, post}
use Rattle.protocol.proofs.TestLaws.{and_left, and_right, and_both}
use Rattle.protocol.proofs.RuleLaws.{reading_some, not_readable, restored_live, restored_others}
use Rattle.tree.specs.Seen.{seen}
use Rattle.cells.specs.Cells.{cells_form, cells_in}
use Rattle.cells.specs.Lent.{is_lent, Update, Updates, post_in, Read, Reads, read_of, read_in, or_else, restore_in}
use Rattle.cells.proofs.CellLaws.{in_width, cells_in_form, cells_fit, lent_form}
use Rattle.demands.specs.Cells.{ReadingKept, RestoreKept}

-- Refusals 1 and 14 of a posting change no cell.
pub post_kept : (tree cells : List ℕ) (place w : ℕ) (ready : Bool) {n : ℕ} {cells' : List ℕ} → Updates (post_in tree cells place w ready) n cells'
    → (n ≡ done → ⊥) → cells' ≡ cells
unfolding post_in post
post_kept tree cells place w ready {n} {cells'} h u =
    go (is_lent tree cells) (ltb place (length (seen tree).properties) && is_live (property_in (seen tree) place)) refl h.number h.bytes
  where
    changed : List Cell
    changed = set (cells_in cells) place (posted (cell_in (cells_in cells) place) w ready)

    given : Bool → Posting
    given v = cond v (record { number = done; cells = changed }) (record { number = not_live; cells = cells_in cells })

    told : Bool → Bool → Update
    told t v = cond t (record { number = (given v).number; bytes = cells_form (given v).cells }) (record { number = unsound; bytes = cells })

    go : (t v : Bool) → is_lent tree cells ≡ t → n ≡ (told t v).number → cells' ≡ (told t v).bytes → cells' ≡ cells
    go true true l e f = absurd (u e)
    go true false l e f = f ∙ sym (lent_form tree cells l)
    go false v l e f = f

-- Readings.
pub reading_kept : (tree cells : List ℕ) (place old : ℕ) {n word : ℕ} → Reads (read_in tree cells place) old n word
    → ReadingKept tree cells place old n word
unfolding read_in
reading_kept tree cells place old {n} {word} h = go (is_lent tree cells) (ltb place (length (seen tree).properties)) h.number h.word_is
  where
    p : Property
    p = property_in (seen tree) place

    c : Cell
    c = cell_in (cells_in cells) place

    given : Bool → Bool → Read
    given t u =
        cond t (cond u (read_of (reading p c)) (record { number = no_such_property; word = none })) (record { number = unsound; word = none })

    none_told : (m : ℕ) → (m ≡ done → ⊥) → n ≡ m → word ≡ old → ReadingKept tree cells place old n word
    none_told m u e f =
        record {
          refusals = λ v. f;
          numbers = λ d. absurd (u (sym e ∙ d));
          open_probes = λ l r. (λ d. u (sym e ∙ d), f);
        }

    found : (o : Option ℕ) → reading p c ≡ o → n ≡ (read_of o).number → word ≡ or_else old (read_of o).word → ReadingKept tree cells place old n word
    found none is e f = none_told no_reading (λ d. omega (arith, d)) e f
    found (some m) is e f =
        let has = reading_some p c is in
        record {
          refusals = λ v. absurd (v e);
          numbers = λ d. (has.0, f ∙ sym has.1);
          open_probes = λ l r. absurd (false≢true (sym (not_readable p c l r) ∙ has.0));
        }

    go : (t u : Bool) → n ≡ (given t u).number → word ≡ or_else old (given t u).word → ReadingKept tree cells place old n word
    go true true e f = found (reading p c) refl e f
    go true false e f = none_told no_such_property (λ d. omega (arith, d)) e f
    go false u e f = none_told unsound (λ d. omega (arith, d)) e f

-- Restored cells.
restored_width : (ps : List Property) (cs : List Cell) → in_width cs ≡ true → in_width (restored ps cs) ≡ true
unfolding restored every
restored_width [] cs h = h
restored_width (p ∷ ps) [] h = refl
restored_width (p ∷ ps) (c ∷ cs) h =
    and_both (go (is_live p)) (restored_width ps cs (and_right (ltb c.word word_end) (in_width cs) h))
  where
    go : (t : Bool) → ltb (cond t (unready c) c).word word_end ≡ true
    go true = and_left (ltb c.word word_end) (in_width cs) h
    go false = and_left (ltb c.word word_end) (in_width cs) h

pub restore_kept : (tree cells : List ℕ) {n : ℕ} {cells' : List ℕ} → Updates (restore_in tree cells) n cells' → RestoreKept tree cells n cells'
unfolding restore_in
restore_kept tree cells {n} {cells'} h = go (is_lent tree cells) h.number h.bytes
  where
    after : List Cell
    after = restored (seen tree).properties (cells_in cells)

    told : Bool → Update
    told t = cond t (record { number = done; bytes = cells_form after }) (record { number = unsound; bytes = cells })

    each : Bytes cells → cells' ≡ cells_form after → (place : ℕ) → cell_in (cells_in cells') place ≡ cell_in after place
    each all e place =
        ap (λ l. cell_in (cells_in l) place) e
        ∙ ap (λ cs. cell_in cs place) (cells_in_form after (restored_width (seen tree).properties (cells_in cells) (cells_fit cells all)))

    go : (t : Bool) → n ≡ (told t).number → cells' ≡ (told t).bytes → RestoreKept tree cells n cells'
    go true e f =
        record {
          refusals = λ u. absurd (u e);
          live = λ all d place l. each all f place ∙ restored_live (seen tree).properties (cells_in cells) place l;
          others = λ all d place l. each all f place ∙ restored_others (seen tree).properties (cells_in cells) place l;
        }
    go false e f =
        record {
          refusals = λ u. f;
          live = λ all d. absurd (omega (arith, sym e ∙ d));
          others = λ all d. absurd (omega (arith, sym e ∙ d));
        }
