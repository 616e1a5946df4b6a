-- What writing and reading a sheet answers, test by test.
-- Assumes nothing.
use Prim.Native.Nat.{ℕ, ◌<◌, ◌≤◌}
use native.Mathlib.Omega.{arith}
use mathlib.Core.Path.{◌≡◌, refl, sym, ap, ap₂, ◌∙◌}
use mathlib.Core.Bool.{Bool, true, false, cond}
use mathlib.Core.List.{List, []}
use borrow.Author.Tests.{eq-eqb, ne_eqb, ltb-true}
use lib.ListN.{length}
use lib.Dec.{eqb, ltb}
use Rattle.protocol.specs.Numbers.{done, unsound, bad_sheet, not_in_range, word_end}
use Rattle.protocol.specs.Bytes.{Bytes}
use Rattle.protocol.specs.Tree.{cell_in}
use Rattle.protocol.specs.Sheet.{settings_of, writable, sheet, in_ranges, write_refusal, sheet_number, read_refusal, loaded, load}
use Rattle.protocol.proofs.TestLaws.{and_left, and_right, every_at}
use Rattle.protocol.proofs.FillLaws.{fills_refused}
use Rattle.protocol.proofs.LoadLaws.{sheet_longest}
use Rattle.tree.specs.Seen.{seen}
use Rattle.soundness.specs.Sound.{is_tree}
use Rattle.soundness.proofs.FormLaws.{seen-sound}
use Rattle.cells.specs.Cells.{cells_form, cells_in, has_cells}
use Rattle.cells.specs.Lent.{is_lent, lent_number, Updates}
use Rattle.cells.proofs.CellLaws.{cells_fit, lent_refused, refused_unsound, lent_form}
use Rattle.protocol.specs.Buffer.{Fills}
use Rattle.text.specs.Unwritten.{whole}
use Rattle.sheet.specs.declared.write.Sheet.{Sheet}
use Rattle.sheet.specs.Steps.{Stands}
use Rattle.sheet.specs.Sheets.{write_number, written, load_in}
use Rattle.sheet.proofs.WriteLaws.{lent_tree}

module _ (tree cells : List ℕ) where
  -- The refusals of writing.
  pub write_unsound : {n : ℕ} → n ≡ lent_number tree cells → (n ≡ done → ⊥) → n ≡ write_number tree cells
  unfolding write_number
  write_unsound e f = refused_unsound tree cells e f ∙ sym (rw (lent_refused tree cells e f))

  module _ (lent : is_lent tree cells ≡ true) where
    pub write_by : {w r : Bool} → w ≡ writable (seen tree) (settings_of (seen tree)) → r ≡ in_ranges (seen tree) (cells_in cells)
        → cond w (cond r done not_in_range) bad_sheet ≡ write_number tree cells
    unfolding write_number write_refusal
    write_by w r = sym (rw (lent, sym w, sym r))

  pub number_of : {n : ℕ} → n ≡ write_number tree cells → n ≡ (written tree cells).number
  unfolding written
  number_of e = e

  -- The sheet, once nothing refuses it.
  module _ (h : write_number tree cells ≡ done) where
    pub write_lent : is_lent tree cells ≡ true
    unfolding write_number
    write_lent = go (is_lent tree cells) refl
      where
        go : (b : Bool) → is_lent tree cells ≡ b → is_lent tree cells ≡ true
        go true e = e
        go false e = let n : unsound ≡ done = rw e at h in absurd (omega (arith, n))

    pub sheet-done : (written tree cells).number ≡ done
    unfolding written
    sheet-done = h

    pub sheet_is : (written tree cells).payload ≡ sheet (seen tree) (cells_in cells)
    unfolding written
    sheet_is = rw (eq-eqb (write_number tree cells) done h)

  pub no_sheet : (write_number tree cells ≡ done → ⊥) → (written tree cells).payload ≡ []
  unfolding written
  no_sheet h = rw (ne_eqb (write_number tree cells) done h)

  -- Every word of lent cells is one of 32 bits, so that no sheet is longer than 4,608 bytes.
  pub words_fit : Bytes cells → (k : ℕ) → (cell_in (cells_in cells) k).word < word_end
  words_fit b k = ltb-true _ word_end (every_at (λ c. ltb c.word word_end) (cells_in cells) _ (cells_fit cells b) refl k)

  -- Refused, or filled in, where there is room.
  pub not_filled : {n : ℕ} (old : List ℕ) → n ≡ write_number tree cells → (n ≡ done → ⊥) → Fills (written tree cells) old n 0 old
  not_filled old e f = fills_refused (written tree cells) old (number_of e) f (no_sheet (λ d. f (e ∙ d)))

  pub filled_in : {n size : ℕ} {old new : List ℕ} → write_number tree cells ≡ done
      → Fills (whole (sheet (seen tree) (cells_in cells))) old n size new → Fills (written tree cells) old n size new
  unfolding written
  filled_in h f = rw h f

  pub longest : Bytes cells → write_number tree cells ≡ done → length (sheet (seen tree) (cells_in cells)) ≤ 4608
  longest b h = sheet_longest (seen tree) (cells_in cells) (seen-sound tree (lent_tree tree cells (write_lent h))) (words_fit b)

  pub sheet_same : (s : Sheet) → Stands tree cells s → sheet (seen s.lent.tree.now) (cells_in s.lent.cells.now) ≡ sheet (seen tree) (cells_in cells)
  sheet_same s e = ap₂ (λ a b. sheet (seen a) (cells_in b)) e.0 e.1

  pub lent_cells : is_lent tree cells ≡ true → has_cells cells ≡ true
  unfolding is_lent
  lent_cells h = and_left (has_cells cells) _ (and_right (is_tree tree) _ h)

  -- Reading.
  pub loads_unsound : (bs : List ℕ) {n : ℕ} → n ≡ lent_number tree cells → (n ≡ done → ⊥) → Updates (load_in tree cells bs) n cells
  unfolding load_in
  loads_unsound bs e f =
      rw (lent_refused tree cells e f) (record { number = refused_unsound tree cells e f; bytes = refl })

  module _ (lent : is_lent tree cells ≡ true) (bs : List ℕ) where
    loads_by : {n : ℕ} {new : List ℕ} → read_refusal (seen tree) bs ≡ n
        → new ≡ cells_form (cond (eqb n done) (loaded (seen tree) (settings_of (seen tree)) bs (cells_in cells)) (cells_in cells))
        → Updates (load_in tree cells bs) n new
    unfolding load_in load
    loads_by e f = rw (lent, e) (record { number = refl; bytes = f })

    refused : {n : ℕ} → read_refusal (seen tree) bs ≡ n → (n ≡ done → ⊥) → Updates (load_in tree cells bs) n cells
    refused {n} e f =
        loads_by e
        (lent_form tree cells lent
        ∙ sym (ap (λ b. cells_form (cond b (loaded (seen tree) (settings_of (seen tree)) bs (cells_in cells)) (cells_in cells))) (ne_eqb n done f)))

    pub loads_labels : {w : Bool} → w ≡ writable (seen tree) (settings_of (seen tree)) → w ≡ false → Updates (load_in tree cells bs) bad_sheet cells
    unfolding read_refusal
    loads_labels e f = refused (rw (sym e ∙ f)) (λ d. omega (arith, d))

    module _ {w : Bool} {n : ℕ} (e : w ≡ writable (seen tree) (settings_of (seen tree))) (f : w ≡ true)
        (g : n ≡ sheet_number (seen tree) (settings_of (seen tree)) bs) where
      number_is : read_refusal (seen tree) bs ≡ n
      unfolding read_refusal
      number_is = rw (sym e ∙ f) (sym g)

      pub loads_refused : (n ≡ done → ⊥) → Updates (load_in tree cells bs) n cells
      loads_refused = refused number_is

      pub loads_done : {new : List ℕ} → n ≡ done → new ≡ cells_form (loaded (seen tree) (settings_of (seen tree)) bs (cells_in cells))
          → Updates (load_in tree cells bs) done new
      loads_done d h = loads_by (number_is ∙ d) h
