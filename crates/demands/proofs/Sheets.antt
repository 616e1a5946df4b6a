-- 02, section 3: reading is exact, both round trips hold, and no live word is seen.
-- Assumes nothing.
use Prim.Native.Nat.{ℕ, suc, ◌*◌, ◌<◌, ◌≤◌}
use native.Mathlib.Omega.{arith}
use mathlib.Core.Path.{◌≡◌, refl, sym, ap, ap₂, subst, ◌∙◌}
use mathlib.Core.Bool.{Bool, true, false, cond, false≢true}
use mathlib.Core.List.{List, [], ◌∷◌}
use borrow.Author.Tests.{eq-eqb, ne_eqb, eqb-true, eqb-false, ltb-true, lt-ltb}
use lib.ListN.{length, take}
use lib.Dec.{eqb, ltb}
use Rattle.protocol.specs.Numbers.{done, unsound, no_room, bad_sheet, not_in_range, word_end}
use Rattle.protocol.specs.Bytes.{Bytes, every}
use Rattle.protocol.specs.Buffer.{over, text_number}
use Rattle.protocol.specs.Tree.{Tree, Cell, property_in, cell_in, cells_sound}
use Rattle.protocol.specs.Sheet.{is_setting, settings_of, writable, Clash, marked, twice, sheet, in_ranges, Outside, write_refusal, is_sheet, all_in_range, are_in_range, sheet_number, read_refusal, loaded, load}
use Rattle.protocol.proofs.TestLaws.{and_left, and_right, and_both, every_at}
use Rattle.protocol.proofs.SheetLaws.{setting_not_live}
use Rattle.protocol.proofs.LoadLaws.{sheet_stands, lines_read, lines_range, sheet-done, settings_longest, sheet_longest, loaded-length, loaded-mark, loaded_other, restores, rewritten, loaded_ranges, loaded_width, sheet_alike, ranges_alike, writable-plain, writable_differ, unwritable, ranges_fail, ranges_hold}
use Rattle.protocol.proofs.FillLaws.{text-refused, text-done, filled, fills_kept, fills_other, fills_less, fills_room}
use Rattle.tree.specs.Seen.{seen}
use Rattle.soundness.proofs.FormLaws.{seen-sound}
use Rattle.cells.specs.Cells.{cells_form, cells_in, has_cells}
use Rattle.cells.specs.Lent.{is_lent}
use Rattle.cells.proofs.CellLaws.{in_width, cells_in_form, has_form_lem, lent_form}
use Rattle.sheet.specs.Sheets.{write_number, written, load_in}
use Rattle.sheet.proofs.WriteLaws.{lent_tree}
use Rattle.sheet.proofs.SheetsLaws.{words_fit, write_by, write_lent, sheet_is, no_sheet}
use Rattle.demands.proofs.Forms.{cells_sound_in}
use Rattle.demands.specs.Sheets.{WritesSheet, ReadsSheet, IsWritten, IsShaped, Takes, ReadExactly, AlikeButLive, SheetsKeep}

-- A cell of a word and a mark.
abbrev cell : ℕ → Bool → Cell
cell w r = record { word = w; ready = r }

all_fit : (cs : List Cell) → ((k : ℕ) → (cell_in cs k).word < word_end) → in_width cs ≡ true
unfolding every
all_fit [] w = refl
all_fit (c ∷ cs) w = and_both (lt-ltb c.word word_end (w 0)) (all_fit cs (λ k. w (suc k)))

-- Cells that fit a tree: one for each property, and words of 32 bits.
module _ (t : Tree) (cs : List Cell) where
  fit_count : cells_sound t cs ≡ true → length cs ≡ length t.properties
  unfolding cells_sound
  fit_count h = eqb-true (length cs) (length t.properties) (and_left (eqb (length cs) (length t.properties)) (in_width cs) h)

  fit_width : cells_sound t cs ≡ true → (k : ℕ) → (cell_in cs k).word < word_end
  unfolding cells_sound
  fit_width h k =
      ltb-true _ word_end (every_at (λ c. ltb c.word word_end) cs _ (and_right (eqb (length cs) (length t.properties)) (in_width cs) h) refl k)

  fits : length cs ≡ length t.properties → ((k : ℕ) → (cell_in cs k).word < word_end) → cells_sound t cs ≡ true
  unfolding cells_sound
  fits e w = and_both (eq-eqb (length cs) (length t.properties) e) (all_fit cs w)

-- The tests behind an answer.
read_tests : (t : Tree) (bs : List ℕ) → read_refusal t bs ≡ done
    → (writable t (settings_of t) ≡ true) × (sheet_number t (settings_of t) bs ≡ done)
unfolding read_refusal
read_tests t bs h = go (writable t (settings_of t)) refl h
  where
    go : (b : Bool) → writable t (settings_of t) ≡ b → cond b (sheet_number t (settings_of t) bs) bad_sheet ≡ done
        → (writable t (settings_of t) ≡ true) × (sheet_number t (settings_of t) bs ≡ done)
    go true e h = (e, h)
    go false e h = absurd (omega (arith, h))

write_tests : (t : Tree) (cs : List Cell) → write_refusal t cs ≡ done → (writable t (settings_of t) ≡ true) × (in_ranges t cs ≡ true)
unfolding write_refusal
write_tests t cs h = go (writable t (settings_of t)) refl (in_ranges t cs) refl h
  where
    go : (b : Bool) → writable t (settings_of t) ≡ b → (c : Bool) → in_ranges t cs ≡ c → cond b (cond c done not_in_range) bad_sheet ≡ done
        → (writable t (settings_of t) ≡ true) × (in_ranges t cs ≡ true)
    go true e true f h = (e, f)
    go true e false f h = absurd (omega (arith, h))
    go false e c f h = absurd (omega (arith, h))

-- Reading.
module _ (tree cells bs : List ℕ) {n : ℕ} {cells' : List ℕ} (all : Bytes cells) (lent : is_lent tree cells ≡ true) (u : ReadsSheet tree cells bs n cells') where
  abbrev t : Tree
  t = seen tree

  abbrev ks : List ℕ
  ks = settings_of t

  abbrev after : List Cell
  after = loaded t ks bs (cells_in cells)

  read_number : n ≡ read_refusal t bs
  unfolding load_in load
  read_number = u.number ∙ rw lent

  read_bytes : cells' ≡ cells_form (cond (eqb (read_refusal t bs) done) after (cells_in cells))
  unfolding load_in load
  read_bytes = u.bytes ∙ rw lent

  count : length (cells_in cells) ≡ length t.properties
  count = fit_count t (cells_in cells) (cells_sound_in tree cells all lent)

  kept : (n ≡ done → ⊥) → cells' ≡ cells
  kept e =
      read_bytes
      ∙ ap (λ b. cells_form (cond b after (cells_in cells))) (ne_eqb (read_refusal t bs) done (λ d. e (read_number ∙ d)))
      ∙ sym (lent_form tree cells lent)

  -- With 0.
  module _ (h : n ≡ done) where
    tests : (writable t ks ≡ true) × (sheet_number t ks bs ≡ done)
    tests = read_tests t bs (sym read_number ∙ h)

    after-fits : cells_sound t after ≡ true
    after-fits =
        fits t after (loaded-length t ks bs (cells_in cells) ∙ count)
        (loaded_width t bs tests.1 (cells_in cells) (fit_width t (cells_in cells) (cells_sound_in tree cells all lent)))

    after_width : in_width after ≡ true
    unfolding cells_sound
    after_width = and_right (eqb (length after) (length t.properties)) (in_width after) after-fits

    form_after : cells' ≡ cells_form after
    form_after = read_bytes ∙ ap (λ b. cells_form (cond b after (cells_in cells))) (eq-eqb (read_refusal t bs) done (sym read_number ∙ h))

    seen-after : cells_in cells' ≡ after
    seen-after = ap cells_in form_after ∙ cells_in_form after after_width

    is_written : IsWritten t bs
    is_written =
        record {
          labels = tests.0;
          cells = after;
          fit = after-fits;
          range_fits = loaded_ranges t bs tests.1 (cells_in cells) count;
          is = sym (rewritten t bs tests.1 (cells_in cells) count);
        }

    lent_again : is_lent tree cells' ≡ true
    unfolding is_lent
    lent_again =
        and_both (lent_tree tree cells lent)
        (and_both (ap has_cells form_after ∙ has_form_lem after after_width)
        (eq-eqb (length (cells_in cells')) (length t.properties) (ap length seen-after ∙ loaded-length t ks bs (cells_in cells) ∙ count)))

    takes : (w : IsWritten t bs) → Takes t w.cells (cells_in cells) (cells_in cells')
    takes w =
        record {
          count = ap length seen-after ∙ loaded-length t ks bs (cells_in cells);
          settings = λ k e.
              ap (λ cs. cell_in cs k) seen-after
              ∙ ap₂ cell
              (ap (λ xs. (cell_in (loaded t ks xs (cells_in cells)) k).word) w.is
              ∙ restores t w.cells (fit_width t w.cells w.fit) (cells_in cells) count k e)
              (loaded-mark t ks bs (cells_in cells) k);
          others = λ k e. ap (λ cs. cell_in cs k) seen-after ∙ loaded_other t bs (cells_in cells) k e;
        }

  written-done : IsWritten t bs → n ≡ done
  unfolding read_refusal
  written-done w =
      read_number
      ∙ rw (w.labels, w.is)
      (sheet-done t w.cells (fit_width t w.cells w.fit) w.range_fits)

  shape_number : (s : IsShaped t bs) → n ≡ cond (are_in_range t ks s.numbers) done not_in_range
  unfolding read_refusal sheet_number
  shape_number s =
      read_number
      ∙ rw (s.labels, s.is, lines_read t ks s.numbers s.told, lines_range t ks s.numbers s.told)

  no_shape : (IsShaped t bs → ⊥) → n ≡ bad_sheet
  unfolding read_refusal sheet_number
  no_shape h = read_number ∙ go (writable t ks) refl (is_sheet t ks bs) refl
    where
      go : (a : Bool) → writable t ks ≡ a → (b : Bool) → is_sheet t ks bs ≡ b
          → cond a (cond b (cond (all_in_range t ks bs) done not_in_range) bad_sheet) bad_sheet ≡ bad_sheet
      go false e b f = refl
      go true e false f = refl
      go true e true f =
          let s = sheet_stands t ks bs f in
          absurd (h (record { labels = e; numbers = s.numbers; told = s.told; is = s.is }))

  exactly : ReadExactly tree cells bs n cells'
  exactly =
      record {
        only_written = is_written;
        written_read = written-done;
        stores = takes;
        fits_again = lent_again;
        shaped = shape_number;
        misshapen = no_shape;
        refusals = kept;
      }

-- Writing, with 0: the sheet of cells in which every setting is in range.
module _ (tree cells old : List ℕ) {len : ℕ} {new : List ℕ} (all : Bytes cells) (w : WritesSheet tree cells old done len new) where
  number-done : write_number tree cells ≡ done
  unfolding written
  number-done = (filled (written tree cells) old w refl).0

  lent_written : is_lent tree cells ≡ true
  lent_written = write_lent tree cells number-done

  refusal-done : write_refusal (seen tree) (cells_in cells) ≡ done
  unfolding write_number
  refusal-done = let h = number-done in let e = lent_written in rw e at h

  out_written : IsWritten (seen tree) (take len new)
  out_written =
      record {
        labels = (write_tests (seen tree) (cells_in cells) refusal-done).0;
        cells = cells_in cells;
        fit = cells_sound_in tree cells all lent_written;
        range_fits = (write_tests (seen tree) (cells_in cells) refusal-done).1;
        is = (filled (written tree cells) old w refl).1 ∙ sheet_is tree cells number-done;
      }

-- Written, and then read into other cells.
again : (tree cells old : List ℕ) {len : ℕ} {new : List ℕ} → Bytes cells → WritesSheet tree cells old done len new
    → (into : List ℕ) {n : ℕ} {into' : List ℕ} → Bytes into → is_lent tree into ≡ true → ReadsSheet tree into (take len new) n into'
    → (n ≡ done) × Takes (seen tree) (cells_in cells) (cells_in into) (cells_in into')
unfolding out_written
again tree cells old {len} {new} all w into all' lent u =
    let sent = out_written tree cells old all w in
    let e = written-done tree into (take len new) all' lent u sent in
    (e, takes tree into (take len new) all' lent u e sent)

-- Read, and then written.
module _ (tree cells bs : List ℕ) {cells' : List ℕ} (all : Bytes cells) (lent : is_lent tree cells ≡ true) (u : ReadsSheet tree cells bs done cells') where
  is : cells_in cells' ≡ loaded (seen tree) (settings_of (seen tree)) bs (cells_in cells)
  is = seen-after tree cells bs all lent u refl

  good : IsWritten (seen tree) bs
  good = is_written tree cells bs all lent u refl

  number_again : write_number tree cells' ≡ done
  unfolding is_written good
  number_again =
      sym (write_by tree cells' (lent_again tree cells bs all lent u refl) (sym good.labels) (sym (ap (in_ranges (seen tree)) is ∙ good.range_fits)))

  text_again : (written tree cells').payload ≡ bs
  unfolding is_written good
  text_again = sheet_is tree cells' number_again ∙ ap (sheet (seen tree)) is ∙ sym good.is

  back : (old : List ℕ) {n len : ℕ} {new : List ℕ} → length bs ≤ length old → WritesSheet tree cells' old n len new
      → (n ≡ done) × (take len new ≡ bs)
  unfolding written
  back old room w =
      let e = w.number ∙ text-done (written tree cells') (length old) number_again (omega (arith, room, ap length text_again)) in
      (e, (filled (written tree cells') old w e).1 ∙ text_again)

-- Live cells are not seen.
module _ (tree cells cells₂ : List ℕ) (lent : is_lent tree cells ≡ true) (lent₂ : is_lent tree cells₂ ≡ true)
    (alike : AlikeButLive (seen tree) (cells_in cells) (cells_in cells₂)) where
  words : (k : ℕ) → is_setting (property_in (seen tree) k) ≡ true → (cell_in (cells_in cells) k).word ≡ (cell_in (cells_in cells₂) k).word
  words k e =
      ap (λ c. c.word) (alike.others k (setting_not_live (seen tree) (seen-sound tree (lent_tree tree cells lent)) k e))

  same-written : written tree cells ≡ written tree cells₂
  unfolding written write_number write_refusal
  same-written =
      rw (
        lent,
        lent₂,
        ranges_alike (seen tree) (cells_in cells) (cells_in cells₂) words,
        sheet_alike (seen tree) (cells_in cells) (cells_in cells₂) words,
      )

  unseen : (old : List ℕ) {n n₂ len len₂ : ℕ} {new new₂ : List ℕ} → WritesSheet tree cells old n len new → WritesSheet tree cells₂ old n₂ len₂ new₂
      → (n ≡ n₂) × ((len ≡ len₂) × (new ≡ new₂))
  unseen old w v = (
    w.number ∙ ap (λ r. text_number r (length old)) same-written ∙ sym v.number,
    (
      w.len ∙ ap (λ r. length r.payload) same-written ∙ sym v.len,
      w.bytes ∙ ap (λ r. cond (eqb (text_number r (length old)) done) (over r.payload old) old) same-written ∙ sym v.bytes,
    ),
  )

unread : (tree cells cells₂ bs : List ℕ) {n n₂ : ℕ} {cells' cells₂' : List ℕ} → Bytes cells → Bytes cells₂
    → is_lent tree cells ≡ true → is_lent tree cells₂ ≡ true → ReadsSheet tree cells bs n cells' → ReadsSheet tree cells₂ bs n₂ cells₂'
    → (n ≡ n₂) × (n ≡ done → (k : ℕ) → is_setting (property_in (seen tree) k) ≡ true → (cell_in (cells_in cells') k).word ≡ (cell_in (cells_in cells₂') k).word)
unread tree cells cells₂ bs all all₂ lent lent₂ u v =
    let e = read_number tree cells bs all lent u ∙ sym (read_number tree cells₂ bs all₂ lent₂ v) in (
      e,
      λ h k s.
          let w = is_written tree cells bs all lent u h in
          ap (λ c. c.word) ((takes tree cells bs all lent u h w).settings k s)
          ∙ sym (ap (λ c. c.word) ((takes tree cells₂ bs all₂ lent₂ v (sym e ∙ h) w).settings k s)),
    )

-- What writing has to answer: 1, 17, 18 or 0.
data Answers (n : ℕ) : Type 0 where
  one : n ≡ unsound → Answers n
  seventeen : n ≡ bad_sheet → Answers n
  eighteen : n ≡ not_in_range → Answers n
  nought : n ≡ done → Answers n

answers : (tree cells : List ℕ) → Answers (write_number tree cells)
unfolding write_number write_refusal
answers tree cells = go (is_lent tree cells) (writable (seen tree) (settings_of (seen tree))) (in_ranges (seen tree) (cells_in cells))
  where
    go : (l w r : Bool) → Answers (cond l (cond w (cond r done not_in_range) bad_sheet) unsound)
    go false w r = one refl
    go true false r = seventeen refl
    go true true false = eighteen refl
    go true true true = nought refl

no_room_lem : (tree cells : List ℕ) → write_number tree cells ≡ no_room → ⊥
no_room_lem tree cells h = go (answers tree cells)
  where
    go : Answers (write_number tree cells) → ⊥
    go (one e) = absurd (omega (arith, e, h))
    go (seventeen e) = absurd (omega (arith, e, h))
    go (eighteen e) = absurd (omega (arith, e, h))
    go (nought e) = absurd (omega (arith, e, h))

-- 17 is for labels.
clashes : (tree cells : List ℕ) → write_number tree cells ≡ bad_sheet → Clash (seen tree) (settings_of (seen tree))
unfolding write_number write_refusal
clashes tree cells h = go (is_lent tree cells) (writable (seen tree) (settings_of (seen tree))) refl (in_ranges (seen tree) (cells_in cells)) h
  where
    go : (l w : Bool) → writable (seen tree) (settings_of (seen tree)) ≡ w → (r : Bool) → cond l (cond w (cond r done not_in_range) bad_sheet) unsound ≡ bad_sheet
        → Clash (seen tree) (settings_of (seen tree))
    go true false e r h = unwritable (seen tree) (settings_of (seen tree)) e
    go false w e r h = absurd (omega (arith, h))
    go true true e true h = absurd (omega (arith, h))
    go true true e false h = absurd (omega (arith, h))

-- 18 is for words.
outside : (tree cells : List ℕ) → write_number tree cells ≡ not_in_range → Outside (seen tree) (cells_in cells)
unfolding write_number write_refusal
outside tree cells h = go (is_lent tree cells) (writable (seen tree) (settings_of (seen tree))) (in_ranges (seen tree) (cells_in cells)) refl h
  where
    go : (l w r : Bool) → in_ranges (seen tree) (cells_in cells) ≡ r → cond l (cond w (cond r done not_in_range) bad_sheet) unsound ≡ not_in_range
        → Outside (seen tree) (cells_in cells)
    go true true false e h = ranges_fail (seen tree) (cells_in cells) e
    go false w r e h = absurd (omega (arith, h))
    go true false r e h = absurd (omega (arith, h))
    go true true true e h = absurd (omega (arith, h))

outside_number : (tree cells : List ℕ) → is_lent tree cells ≡ true → writable (seen tree) (settings_of (seen tree)) ≡ true
    → Outside (seen tree) (cells_in cells) → write_number tree cells ≡ not_in_range
unfolding write_number write_refusal
outside_number tree cells lent w o = rw (lent, w, ranges_hold (seen tree) (cells_in cells) o)

clash_unwritable : (t : Tree) (ks : List ℕ) → Clash t ks → writable t ks ≡ false
clash_unwritable t ks c = go (writable t ks) refl c
  where
    go : (b : Bool) → writable t ks ≡ b → Clash t ks → writable t ks ≡ false
    go false e c = e
    go true e (marked i l f) = absurd (false≢true (sym f ∙ writable-plain t ks e i l))
    go true e (twice i j b l f) = absurd (writable_differ t ks e i j b l f)

clash_number : (tree cells : List ℕ) → is_lent tree cells ≡ true → Clash (seen tree) (settings_of (seen tree)) → write_number tree cells ≡ bad_sheet
unfolding write_number write_refusal
clash_number tree cells lent c = rw (lent, clash_unwritable (seen tree) (settings_of (seen tree)) c)

-- Lengths.
module _ (tree cells : List ℕ) (all : Bytes cells) where
  short : (length (written tree cells).payload ≤ 36 * length (settings_of (seen tree))) × (length (written tree cells).payload ≤ 4608)
  short = go (eqb (write_number tree cells) done) refl
    where
      go : (b : Bool) → eqb (write_number tree cells) done ≡ b
          → (length (written tree cells).payload ≤ 36 * length (settings_of (seen tree))) × (length (written tree cells).payload ≤ 4608)
      go true e =
          let h = eqb-true (write_number tree cells) done e in
          let good = seen-sound tree (lent_tree tree cells (write_lent tree cells h)) in
          let is = ap length (sheet_is tree cells h) in (
            omega (arith, is, settings_longest (seen tree) (cells_in cells) good (words_fit tree cells all)),
            omega (arith, is, sheet_longest (seen tree) (cells_in cells) good (words_fit tree cells all)),
          )
      go false e =
          let is = ap length (no_sheet tree cells (eqb-false (write_number tree cells) done e)) in
          (omega (arith, is), omega (arith, is))

number_in : (tree cells : List ℕ) → (written tree cells).number ≡ write_number tree cells
unfolding written
number_in tree cells = refl

nothing_told : (tree cells old : List ℕ) {n len : ℕ} {new : List ℕ} → WritesSheet tree cells old n len new → (n ≡ done → ⊥) → (n ≡ no_room → ⊥) → len ≡ 0
nothing_told tree cells old w e f =
    let is = fills_other (written tree cells) old w e f ∙ number_in tree cells in
    w.len ∙ ap length (no_sheet tree cells (λ d. e (is ∙ d)))

not_written : (tree cells old : List ℕ) {m n len : ℕ} {new : List ℕ} → write_number tree cells ≡ m → (m ≡ done → ⊥) → WritesSheet tree cells old n len new
    → n ≡ m
not_written tree cells old e f w =
    let is = number_in tree cells ∙ e in
    w.number ∙ text-refused (written tree cells) (length old) (λ d. f (sym is ∙ d)) ∙ is

-- Tree and cells that break a rule.
broken_number : (tree cells : List ℕ) → is_lent tree cells ≡ false → write_number tree cells ≡ unsound
unfolding write_number
broken_number tree cells h = rw h

broken_read : (tree cells bs : List ℕ) {n : ℕ} {cells' : List ℕ} → is_lent tree cells ≡ false → ReadsSheet tree cells bs n cells'
    → (n ≡ unsound) × (cells' ≡ cells)
unfolding load_in
broken_read tree cells bs h u = (u.number ∙ rw h, u.bytes ∙ rw h)

pub sheets_keep : SheetsKeep
sheets_keep =
    record {
      reading = λ tree cells bs all lent u. exactly tree cells bs all lent u;
      restores = λ tree cells old all w into all' lent u. again tree cells old all w into all' lent u;
      returns = λ tree cells bs all lent u old room w. back tree cells bs all lent u old room w;
      live_unseen = λ tree cells cells₂ old lent lent₂ alike w v. unseen tree cells cells₂ lent lent₂ alike old w v;
      live_unread = λ tree cells cells₂ bs all all₂ lent lent₂ u v. unread tree cells cells₂ bs all all₂ lent lent₂ u v;
      broken = λ tree cells old h w. not_written tree cells old (broken_number tree cells h) (λ e. omega (arith, e)) w;
      broken_kept = λ tree cells bs h u. broken_read tree cells bs h u;
      refused = λ tree cells old w. fills_kept (written tree cells) old w;
      too_short_case = λ tree cells old w. fills_less (written tree cells) old w (λ h. no_room_lem tree cells (sym (number_in tree cells) ∙ h));
      room_enough = λ tree cells old w. fills_room (written tree cells) old w;
      told_0 = λ tree cells old w e f. nothing_told tree cells old w e f;
      labels = λ tree cells old w.
          clashes tree cells
          (sym (fills_other (written tree cells) old w (λ e. omega (arith, e)) (λ e. omega (arith, e)) ∙ number_in tree cells));
      unwritable = λ tree cells old lent c w. not_written tree cells old (clash_number tree cells lent c) (λ e. omega (arith, e)) w;
      words = λ tree cells old w.
          outside tree cells
          (sym (fills_other (written tree cells) old w (λ e. omega (arith, e)) (λ e. omega (arith, e)) ∙ number_in tree cells));
      out_of_range_case = λ tree cells old lent can o w. not_written tree cells old (outside_number tree cells lent can o) (λ e. omega (arith, e)) w;
      longest = λ tree cells old all w. (
        subst (λ m. m ≤ 36 * length (settings_of (seen tree))) (sym w.len) (short tree cells all).0,
        subst (λ m. m ≤ 4608) (sym w.len) (short tree cells all).1,
      );
    }
