-- The lines of a sheet, one after the other: looked at, and stored.
-- Assumes nothing.
use Prim.Native.Nat.{ℕ, ◌≤◌}
use native.Mathlib.Omega.{arith}
use mathlib.Core.Path.{◌≡◌, refl, sym, ap, ap₂, ◌∙◌}
use mathlib.Core.Bool.{Bool, true, false, cond, ◌&&◌, false≢true}
use mathlib.Core.List.{List, [], ◌∷◌}
use borrow.Author.Tests.{eq-eqb, ne_eqb, eqb-true}
use lib.ListN.{length, drop, set}
use lib.Dec.{eqb}
use Rattle.std.proofs.Common.{Option, Some, None}
use Rattle.std.specs.Option.{IsSome, is_some}
use Rattle.protocol.specs.Numbers.{done, bad_sheet, not_in_range}
use Rattle.protocol.specs.Tree.{Tree, Cell, property_in, cell_in}
use Rattle.protocol.specs.Answer.{stored}
use Rattle.protocol.specs.Sheet.{settings_of, is_line, line_size, line_word, line_in_range, is_sheet, all_in_range, sheet_number, loaded}
use Rattle.tree.specs.Seen.{seen}
use Rattle.cells.specs.Cells.{cells_form, cells_in, has_cells, with_word}
use Rattle.cells.proofs.CellLaws.{form_of, word-stored}
use Rattle.text.specs.Read.{told_of}
use Rattle.text.specs.declared.read.Numeral.{Numeral}
use Rattle.sheet.specs.declared.setting.Settings.{Settings}
use Rattle.sheet.specs.Steps.{rest, LineIs, is_held}
use Rattle.sheet.proofs.SettingLaws.{Next, Starts, starts_all}
use Rattle.sheet.proofs.ReadLaws.{line_size_lem, line-fits, line_range, line_stores}

-- The number so far, and that of the lines behind: 17 comes before 18.
unfoldable pub worse : ℕ → ℕ → ℕ
worse number n = cond (eqb n done) number n

worse_done : (n : ℕ) → worse done n ≡ n
unfolding worse
worse_done n = go (eqb n done) refl
  where
    go : (b : Bool) → eqb n done ≡ b → cond b done n ≡ n
    go true e = sym (eqb-true n done e)
    go false e = refl

worse_twice : (number n : ℕ) → worse number (worse not_in_range n) ≡ worse not_in_range n
unfolding worse
worse_twice number n = go (eqb n done) refl
  where
    go : (b : Bool) → eqb n done ≡ b → cond (eqb (cond b not_in_range n) done) number (cond b not_in_range n) ≡ cond b not_in_range n
    go true e = refl
    go false e = ap (λ b. cond b number n) e

worse_line : (b : Bool) (number n : ℕ) → worse number (worse (cond b done not_in_range) n) ≡ worse (cond b number not_in_range) n
worse_line true number n = ap (worse number) (worse_done n)
worse_line false number n = worse_twice number n

-- A sheet that begins with a line, and one that does not.
module _ (t : Tree) (k : ℕ) (ks bs : List ℕ) where
  sheet-line : {b : Bool} → is_line (property_in t k) bs ≡ true → b ≡ line_in_range (property_in t k) bs
      → sheet_number t (k ∷ ks) bs ≡ worse (cond b done not_in_range) (sheet_number t ks (drop (line_size (property_in t k) bs) bs))
  unfolding sheet_number is_sheet all_in_range worse
  sheet-line {b} l e =
      rw (l, sym e)
      (go (is_sheet t ks (drop (line_size (property_in t k) bs) bs)) (all_in_range t ks (drop (line_size (property_in t k) bs) bs)) b)
    where
      go : (s a b : Bool)
          → cond s (cond (b && a) done not_in_range) bad_sheet
          ≡ worse (cond b done not_in_range) (cond s (cond a done not_in_range) bad_sheet)
      go false a b = refl
      go true true true = refl
      go true true false = refl
      go true false true = refl
      go true false false = refl

  sheet_other : is_line (property_in t k) bs ≡ false → sheet_number t (k ∷ ks) bs ≡ bad_sheet
  unfolding sheet_number is_sheet
  sheet_other l = rw l

-- What the lines so far come to: 18 where one was not in range.
abbrev pub so_far : Bool → ℕ
so_far in_range = cond in_range done not_in_range

so_far_on : (a b : Bool) → cond b (so_far a) not_in_range ≡ so_far (a && b)
so_far_on true true = refl
so_far_on true false = refl
so_far_on false true = refl
so_far_on false false = refl

-- The lines before a setting were looked at, and so much is left of the sheet.
pub record Checking (t : Tree) (bs : List ℕ) (in_range : Bool) (left : List ℕ) (s : Settings) : Type 0 where
  pub tree : seen s.tree.now ≡ t
  pub decides : sheet_number t (settings_of t) bs ≡ worse (so_far in_range) (sheet_number t (rest s) left)

module _ (t : Tree) (bs : List ℕ) where
  pub check_begins : {s : Settings} → Starts t 0 s → Checking t bs true bs s
  check_begins {s} b =
      record {
        tree = b.tree;
        decides = ap (λ ks. sheet_number t ks bs) (starts_all b) ∙ sym (worse_done (sheet_number t (rest s) bs));
      }

  module _ {in_range : Bool} {left : List ℕ} {s : Settings} (c : Checking t bs in_range left s) where
    module _ {k : ℕ} {n : Settings} (next : Next t s k n) where
      here : sheet_number t (settings_of t) bs ≡ worse (so_far in_range) (sheet_number t (k ∷ rest n) left)
      here = c.decides ∙ ap (λ ks. worse (so_far in_range) (sheet_number t ks left)) next.first

      pub check_fails : LineIs (property_in t k) left None → bad_sheet ≡ sheet_number t (settings_of t) bs
      unfolding worse
      check_fails l = sym (here ∙ ap (worse (so_far in_range)) (sheet_other t k (rest n) left (sym l.told.is)))

      module _ {m : Numeral} (line : LineIs (property_in t k) left (Some m)) where
        pub line-ends : m.size ≤ length left
        line-ends = line-fits line

        pub check_on : {b u : Bool} {left' : List ℕ} → b ≡ is_held (property_in t k) m.word → u ≡ (in_range && b) → left' ≡ drop m.size left
            → Checking t bs u left' n
        check_on {b} {u} f g h =
            record {
              tree = next.tree;
              decides =
                  here
                  ∙ ap (worse (so_far in_range)) (sheet-line t k (rest n) left (sym line.told.is) (f ∙ line_range line))
                  ∙ worse_line b (so_far in_range) _
                  ∙ ap₂ (λ a xs. worse a (sheet_number t (rest n) xs)) (so_far_on in_range b ∙ sym (ap so_far g))
                  (sym (h ∙ ap (λ i. drop i left) (line_size_lem line)));
            }

    module _ (none : rest s ≡ []) where
      ended : sheet_number t (settings_of t) bs ≡ worse (so_far in_range) (sheet_number t [] left)
      ended = c.decides ∙ ap (λ ks. worse (so_far in_range) (sheet_number t ks left)) none

      pub check_surplus : (length left ≡ 0 → ⊥) → bad_sheet ≡ sheet_number t (settings_of t) bs
      unfolding sheet_number is_sheet worse
      check_surplus e = sym (ended ∙ rw (ne_eqb (length left) 0 e))

      pub check_ends : length left ≡ 0 → so_far in_range ≡ sheet_number t (settings_of t) bs
      unfolding sheet_number is_sheet all_in_range worse
      check_ends e = sym (ended ∙ rw (eq-eqb (length left) 0 e))

abbrev left_of : Tree → ℕ → List ℕ → List ℕ
left_of t k bs = drop (line_size (property_in t k) bs) bs

-- A good sheet: its first line, and what is left of it.
module _ (t : Tree) (k : ℕ) (ks bs : List ℕ) where
  abbrev left : List ℕ
  left = left_of t k bs

  good_line : sheet_number t (k ∷ ks) bs ≡ done
      → (is_line (property_in t k) bs ≡ true) × ((line_in_range (property_in t k) bs ≡ true) × (sheet_number t ks left ≡ done))
  unfolding sheet_number is_sheet all_in_range
  good_line h = go (is_line (property_in t k) bs) (is_sheet t ks left) (line_in_range (property_in t k) bs) (all_in_range t ks left) h
    where
      go : (l s r a : Bool) → cond (l && s) (cond (r && a) done not_in_range) bad_sheet ≡ done
          → (l ≡ true) × ((r ≡ true) × (cond s (cond a done not_in_range) bad_sheet ≡ done))
      go true true true true e = (refl, (refl, refl))
      go true true true false e = absurd (omega (arith, e))
      go true true false a e = absurd (omega (arith, e))
      go true false r a e = absurd (omega (arith, e))
      go false s r a e = absurd (omega (arith, e))

-- The lines before a setting were stored, which leaves these cells.
pub record Storing (t : Tree) (bs old cells left : List ℕ) (s : Settings) : Type 0 where
  pub tree : seen s.tree.now ≡ t
  pub good : sheet_number t (rest s) left ≡ done
  pub now : List Cell
  pub bytes : cells ≡ cells_form now
  pub on : loaded t (settings_of t) bs (cells_in old) ≡ loaded t (rest s) left now

module _ (t : Tree) (bs old : List ℕ) where
  pub store_begins : {s : Settings} → has_cells old ≡ true → sheet_number t (settings_of t) bs ≡ done → Starts t 0 s → Storing t bs old old bs s
  store_begins f g b =
      record {
        tree = b.tree;
        good = ap (λ ks. sheet_number t ks bs) (sym (starts_all b)) ∙ g;
        now = cells_in old;
        bytes = form_of old f;
        on = ap (λ ks. loaded t ks bs (cells_in old)) (starts_all b);
      }

  module _ {cells left : List ℕ} {s : Settings} (c : Storing t bs old cells left s) {k : ℕ} {n : Settings} (next : Next t s k n) where
    parts : (is_line (property_in t k) left ≡ true)
        × ((line_in_range (property_in t k) left ≡ true) × (sheet_number t (rest n) (left_of t k left) ≡ done))
    parts = good_line t k (rest n) left (ap (λ ks. sheet_number t ks left) (sym next.first) ∙ c.good)

    -- There is a line.
    pub line_there : {r : Option Numeral} → LineIs (property_in t k) left r → IsSome r
    line_there {r} l = told_some r (l.told.is ∙ parts.0)
      where
        told_some : (r : Option Numeral) → (told_of r).is ≡ true → IsSome r
        told_some None h = absurd (false≢true h)
        told_some (Some m) h = refl

    module _ {r : Option Numeral} (l : LineIs (property_in t k) left r) {m : Numeral} (e : r ≡ Some m) where
      line : LineIs (property_in t k) left (Some m)
      line = rw e at l

      pub stored-ends : m.size ≤ length left
      stored-ends = line-fits line

      word_is : m.word ≡ Some (line_word (property_in t k) left)
      word_is = line_stores line parts.1.0

      pub word-there : IsSome m.word
      word-there = ap is_some word_is

      pub store_on : {new left' : List ℕ} {w : ℕ} → m.word ≡ Some w → new ≡ with_word k w cells → left' ≡ drop m.size left
          → Storing t bs old new left' n
      unfolding loaded
      store_on {new} {left'} {w} f g h =
          let store : List Cell = set c.now k (stored (cell_in c.now k) w) in
          let word : w ≡ line_word (property_in t k) left = some_word (sym f ∙ word_is) in
          let behind : left_of t k left ≡ left' = sym (h ∙ ap (λ i. drop i left) (line_size_lem line)) in
          record {
            tree = next.tree;
            good = ap (sheet_number t (rest n)) (sym behind) ∙ parts.1.1;
            now = store;
            bytes = g ∙ ap (with_word k w) c.bytes ∙ word-stored c.now k w;
            on =
                c.on
                ∙ ap (λ ks. loaded t ks left c.now) next.first
                ∙ ap₂ (λ xs v. loaded t (rest n) xs (set c.now k (stored (cell_in c.now k) v))) behind (sym word);
          }
        where
          some_word : {a b : ℕ} → Some a ≡ Some b → a ≡ b
          some_word h = cc

  pub store_ends : {cells left : List ℕ} {s : Settings} → Storing t bs old cells left s → rest s ≡ []
      → cells ≡ cells_form (loaded t (settings_of t) bs (cells_in old))
  unfolding loaded
  store_ends {left = left} c h =
      c.bytes ∙ ap cells_form (sym (c.on ∙ ap (λ ks. loaded t ks left c.now) h))
