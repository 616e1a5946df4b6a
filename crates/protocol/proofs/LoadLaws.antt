-- Settings on a sheet: lines and sheets read as they are written, and cells loaded from them.
-- Assumes nothing.
use Prim.Native.Nat.{ℕ, zero, suc, ◌+◌, ◌*◌, ◌<◌, ◌≤◌}
use native.Mathlib.Omega.{arith}
use mathlib.Core.Path.{◌≡◌, refl, sym, ap, ap₂, subst, ◌∙◌}
use mathlib.Core.Bool.{Bool, true, false, cond, not, ◌&&◌, false≢true}
use mathlib.Core.List.{List, [], ◌∷◌, ◌++◌, append-nil}
use borrow.Author.Tests.{eqb-true, eq-eqb, not-true, not-false}
use native.Mathlib.Decide.{dec_lt}
use lib.ListN.{length, get_or, drop, set, length-append, length-drop, length-set, drop_of_length-le, get_or-eq_default}
use lib.Seq.{drop-cons, drop-drop, drop_at, get_or-append_seam, get_or-set_same, get_or-set_other}
use lib.Dec.{eqb}
use Rattle.protocol.specs.Numbers.{done, bad_sheet, not_in_range, word_end}
use Rattle.protocol.specs.Bytes.{every}
use Rattle.protocol.specs.Tree.{Property, Tree, Cell, places_from, property_in, cell_in, sound}
use Rattle.protocol.specs.Answer.{takes_sign, stored}
use Rattle.protocol.specs.Text.{each, line, begins, same_text}
use Rattle.protocol.specs.Listed.{All}
use Rattle.protocol.specs.Signed.{Number, number_of, numeral, is_told, is_word, word_for, is_number, number_in, number_size}
use Rattle.protocol.specs.Sheet.{Clash, marked, twice, Outside, is_setting, may_hold, settings_of, is_plain, writable, setting_line, sheet, in_ranges, is_line, line_size, line_word, line_in_range, is_sheet, lines_of, are_told, are_in_range, all_in_range, sheet_number, loaded}
use Rattle.protocol.proofs.TestLaws.{and_left, and_right, and_both}
use Rattle.protocol.proofs.SignedLaws.{word_told, word_fits, word_back, told_back, word_below, number_stands, number_told, number_inside, number_read, number-found, number-length, numeral_longest}
use Rattle.protocol.proofs.AnswerLaws.{texts_short}
use Rattle.protocol.proofs.OnceLaws.{rules}
use Rattle.protocol.proofs.ToldLaws.{line_on}
use Rattle.protocol.proofs.LongestLaws.{places_few, line-length}

-- Cells whose words have 32 bits.
abbrev Words : List Cell → Type 0
Words cs = (k : ℕ) → (cell_in cs k).word < word_end

-- The lines of settings at some places, and whether their words are in range.
abbrev written : Tree → List Cell → List ℕ → List ℕ
written t cs ks = each (λ k. setting_line (property_in t k) (cell_in cs k).word) ks

abbrev ranged : Tree → List Cell → List ℕ → Bool
ranged t cs ks = every (λ k. may_hold (property_in t k) (cell_in cs k).word) ks

-- A text in front of some bytes.
pub begins_stands : (s bs : List ℕ) → begins s bs ≡ true → bs ≡ s ++ drop (length s) bs
unfolding begins
begins_stands [] bs h = refl
begins_stands (c ∷ s) [] h = absurd (false≢true h)
begins_stands (c ∷ s) (b ∷ bs) h =
    ap₂ (λ x l. x ∷ l) (sym (eqb-true c b (and_left (eqb c b) _ h))) (begins_stands s bs (and_right (eqb c b) _ h))

pub begins_front : (s r : List ℕ) → begins s (s ++ r) ≡ true
unfolding begins
begins_front [] r = refl
begins_front (c ∷ s) r = and_both (eq-eqb c c refl) (begins_front s r)

drop_past : (s : List ℕ) (c : ℕ) (r : List ℕ) → drop (suc (length s)) (s ++ c ∷ r) ≡ r
drop_past [] c r = refl
drop_past (x ∷ s) c r = drop_past s c r

-- A byte that is not 0 lies within.
byte_inside : (bs : List ℕ) (k n : ℕ) → get_or bs k 0 ≡ suc n → k < length bs
byte_inside bs k n e = go (dec_lt k (length bs))
  where
    go : Dec (k < length bs) → k < length bs
    go (yes h) = h
    go (no h) = absurd (omega (arith, e, get_or-eq_default bs 0 {n = k} (omega (arith, h))))

-- The bytes behind the label and its "=".
abbrev behind : Property → List ℕ → List ℕ
behind p bs = drop (suc (length p.label)) bs

-- What is read as a line is one, of a number that can be told.
module _ (p : Property) (bs : List ℕ) (h : is_line p bs ≡ true) where
  line_starts : begins p.label bs ≡ true
  unfolding is_line
  line_starts = and_left (begins p.label bs) _ h

  line-mark : get_or bs (length p.label) 0 ≡ 61
  unfolding is_line
  line-mark = eqb-true _ 61 (and_left (eqb (get_or bs (length p.label) 0) 61) _ (and_right (begins p.label bs) _ h))

  line-numbered : is_number (takes_sign p) (behind p bs) ≡ true
  unfolding is_line
  line-numbered = and_right (eqb (get_or bs (length p.label) 0) 61) _ (and_right (begins p.label bs) _ h)

  line_marked : length p.label < length bs
  line_marked = byte_inside bs (length p.label) 60 line-mark

  pub line_stands : bs ≡ line p.label (numeral (number_in (behind p bs))) ++ drop (line_size p bs) bs
  unfolding line_size
  line_stands =
      let n : ℕ = length p.label in
      let m : ℕ = number_size (behind p bs) in
      begins_stands p.label bs line_starts
      ∙ ap (λ l. p.label ++ l)
      (drop-cons bs n 0 line_marked
      ∙ ap₂ (λ c l. c ∷ l) line-mark
      (number_stands (takes_sign p) (behind p bs) line-numbered
      ∙ ap (λ l. numeral (number_in (behind p bs)) ++ 10 ∷ l) (drop-drop m (suc n) bs)))
      ∙ sym (line_on p.label (numeral (number_in (behind p bs))) (drop (line_size p bs) bs))

  pub line_told : is_told (takes_sign p) (number_in (behind p bs)) ≡ true
  line_told = number_told (takes_sign p) (behind p bs) line-numbered

  pub line_inside : line_size p bs ≤ length bs
  unfolding line_size
  line_inside =
      omega (arith, line_marked, length-drop (suc (length p.label)) bs, number_inside (takes_sign p) (behind p bs) line-numbered)

  module _ (r : line_in_range p bs ≡ true) where
    line-fits : is_word (takes_sign p) (number_in (behind p bs)) ≡ true
    unfolding line_in_range
    line-fits = and_left (is_word (takes_sign p) (number_in (behind p bs))) _ r

    pub line_ranged : may_hold p (line_word p bs) ≡ true
    unfolding line_in_range
    line_ranged = and_right (is_word (takes_sign p) (number_in (behind p bs))) _ r

    pub line_word_lem : line_word p bs < word_end
    unfolding line_word
    line_word_lem = word_below (takes_sign p) (number_in (behind p bs)) line_told line-fits

    pub line_setting : bs ≡ setting_line p (line_word p bs) ++ drop (line_size p bs) bs
    unfolding line_word
    line_setting =
        line_stands
        ∙ ap (λ n. line p.label (numeral n) ++ drop (line_size p bs) bs)
        (sym (told_back (takes_sign p) (number_in (behind p bs)) line_told line-fits))

-- A line of such a number is read.
module _ (p : Property) (n : Number) (rest : List ℕ) where
  abbrev line_of : List ℕ
  line_of = line p.label (numeral n) ++ rest

  line_behind : behind p line_of ≡ numeral n ++ (10 ∷ rest)
  line_behind = ap (behind p) (line_on p.label (numeral n) rest) ∙ drop_past p.label 61 (numeral n ++ 10 ∷ rest)

  module _ (h : is_told (takes_sign p) n ≡ true) where
    pub line_read : is_line p line_of ≡ true
    unfolding is_line
    line_read =
        let on = line_on p.label (numeral n) rest in
        and_both (ap (begins p.label) on ∙ begins_front p.label _)
        (and_both
        (eq-eqb _ 61
        (ap (λ l. get_or l (length p.label) 0) on ∙ get_or-append_seam p.label 61 (numeral n ++ 10 ∷ rest) 0))
        (ap (is_number (takes_sign p)) line_behind ∙ number_read (takes_sign p) n rest h))

    pub line-number : number_in (behind p line_of) ≡ n
    line-number = ap number_in line_behind ∙ number-found (takes_sign p) n rest h

    pub line_size_lem : line_size p line_of ≡ length (line p.label (numeral n))
    unfolding line_size
    line_size_lem =
        omega (
          arith,
          ap number_size line_behind ∙ number-length (takes_sign p) n rest h,
          line-length p.label (numeral n),
        )

    line_rest : drop (line_size p line_of) line_of ≡ rest
    line_rest = drop_at (line p.label (numeral n)) rest (line_size p line_of) (sym line_size_lem)

-- So is a setting's line.
module _ (p : Property) (w : ℕ) (rest : List ℕ) (h : w < word_end) where
  abbrev setting : List ℕ
  setting = setting_line p w ++ rest

  abbrev told : is_told (takes_sign p) (number_of (takes_sign p) w) ≡ true
  told = word_told (takes_sign p) w h

  pub setting_read : is_line p setting ≡ true
  setting_read = line_read p (number_of (takes_sign p) w) rest told

  setting_rest : drop (line_size p setting) setting ≡ rest
  setting_rest = line_rest p (number_of (takes_sign p) w) rest told

  setting_number : number_in (behind p setting) ≡ number_of (takes_sign p) w
  setting_number = line-number p (number_of (takes_sign p) w) rest told

  pub setting_word : line_word p setting ≡ w
  unfolding line_word
  setting_word = ap word_for setting_number ∙ word_back (takes_sign p) w h

  pub setting_range : line_in_range p setting ≡ may_hold p w
  unfolding line_in_range
  setting_range =
      ap₂ (λ a b. a && b) (ap (is_word (takes_sign p)) setting_number ∙ word_fits (takes_sign p) w h) (ap (may_hold p) setting_word)

no_bytes : (bs : List ℕ) → length bs ≡ 0 → bs ≡ []
no_bytes [] e = refl
no_bytes (b ∷ bs) e = absurd (omega (arith, e))

-- What is read as a sheet is lines of numbers that can be told, and it is in range where they are.
pub record Stands (t : Tree) (ks bs : List ℕ) : Type 0 where
  pub numbers : List Number
  pub told : are_told t ks numbers ≡ true
  pub is : bs ≡ lines_of t ks numbers
  pub range : all_in_range t ks bs ≡ are_in_range t ks numbers

pub sheet_stands : (t : Tree) (ks bs : List ℕ) → is_sheet t ks bs ≡ true → Stands t ks bs
unfolding is_sheet lines_of are_told are_in_range all_in_range line_in_range line_word
sheet_stands t [] bs h =
    record { numbers = []; told = refl; is = no_bytes bs (eqb-true (length bs) 0 h); range = refl }
sheet_stands t (k ∷ ks) bs h =
    let p : Property = property_in t k in
    let here = and_left (is_line p bs) _ h in
    let r = sheet_stands t ks (drop (line_size p bs) bs) (and_right (is_line p bs) _ h) in
    record {
      numbers = number_in (behind p bs) ∷ r.numbers;
      told = and_both (line_told p bs here) r.told;
      is = line_stands p bs here ∙ ap (λ l. line p.label (numeral (number_in (behind p bs))) ++ l) r.is;
      range = ap (λ b. line_in_range p bs && b) r.range;
    }

-- Such lines are read as a sheet.
pub lines_read : (t : Tree) (ks : List ℕ) (ns : List Number) → are_told t ks ns ≡ true → is_sheet t ks (lines_of t ks ns) ≡ true
unfolding is_sheet lines_of are_told
lines_read t [] [] h = refl
lines_read t [] (n ∷ ns) h = absurd (false≢true h)
lines_read t (k ∷ ks) [] h = absurd (false≢true h)
lines_read t (k ∷ ks) (n ∷ ns) h =
    let p : Property = property_in t k in
    let here = and_left (is_told (takes_sign p) n) _ h in
    and_both (line_read p n (lines_of t ks ns) here)
    (ap (is_sheet t ks) (line_rest p n (lines_of t ks ns) here) ∙ lines_read t ks ns (and_right (is_told (takes_sign p) n) _ h))

pub lines_range : (t : Tree) (ks : List ℕ) (ns : List Number) → are_told t ks ns ≡ true
    → all_in_range t ks (lines_of t ks ns) ≡ are_in_range t ks ns
unfolding lines_of are_told are_in_range all_in_range line_in_range line_word
lines_range t [] [] h = refl
lines_range t [] (n ∷ ns) h = absurd (false≢true h)
lines_range t (k ∷ ks) [] h = absurd (false≢true h)
lines_range t (k ∷ ks) (n ∷ ns) h =
    let p : Property = property_in t k in
    let here = and_left (is_told (takes_sign p) n) _ h in
    ap₂ (λ a b. a && b)
    (ap (λ m. is_word (takes_sign p) m && may_hold p (word_for m)) (line-number p n (lines_of t ks ns) here))
    (ap (all_in_range t ks) (line_rest p n (lines_of t ks ns) here) ∙ lines_range t ks ns (and_right (is_told (takes_sign p) n) _ h))

-- The lines of cells are read as a sheet, in range where the cells are.
module _ (t : Tree) (cs : List Cell) (w : Words cs) where
  pub written-sheet : (ks : List ℕ) → is_sheet t ks (written t cs ks) ≡ true
  unfolding is_sheet each
  written-sheet [] = refl
  written-sheet (k ∷ ks) =
      let p : Property = property_in t k in
      and_both (setting_read p (cell_in cs k).word (written t cs ks) (w k))
      (ap (is_sheet t ks) (setting_rest p (cell_in cs k).word (written t cs ks) (w k)) ∙ written-sheet ks)

  pub written_range : (ks : List ℕ) → all_in_range t ks (written t cs ks) ≡ ranged t cs ks
  unfolding all_in_range each every
  written_range [] = refl
  written_range (k ∷ ks) =
      let p : Property = property_in t k in
      ap₂ (λ a b. a && b) (setting_range p (cell_in cs k).word (written t cs ks) (w k))
      (ap (all_in_range t ks) (setting_rest p (cell_in cs k).word (written t cs ks) (w k)) ∙ written_range ks)

  pub sheet-done : in_ranges t cs ≡ true → sheet_number t (settings_of t) (sheet t cs) ≡ done
  unfolding sheet_number sheet in_ranges
  sheet-done h = rw (written-sheet (settings_of t), written_range (settings_of t), h)

-- Lengths: a line of at most 36 bytes for each setting, of which there are at most 128.
each_longest : {A B : Type 0} (f : A → List B) (m : ℕ) → ((x : A) → length (f x) ≤ m) → (xs : List A)
    → length (each f xs) ≤ m * length xs
unfolding each
each_longest f m h [] = omega arith
each_longest f m h (x ∷ xs) = omega (arith, length-append (f x) (each f xs), h x, each_longest f m h xs)

module _ (t : Tree) (cs : List Cell) (good : sound t ≡ true) (w : Words cs) where
  line_longest : (k : ℕ) → length (setting_line (property_in t k) (cell_in cs k).word) ≤ 36
  line_longest k =
      let p : Property = property_in t k in
      let n : List ℕ = numeral (number_of (takes_sign p) (cell_in cs k).word) in
      omega (arith, line-length p.label n, (texts_short t good).labels k, numeral_longest (takes_sign p) (cell_in cs k).word (w k))

  pub settings_longest : length (sheet t cs) ≤ 36 * length (settings_of t)
  unfolding sheet
  settings_longest = each_longest (λ k. setting_line (property_in t k) (cell_in cs k).word) 36 line_longest (settings_of t)

  pub sheet_longest : length (sheet t cs) ≤ 4608
  unfolding settings_of
  sheet_longest = omega (arith, settings_longest, places_few 0 is_setting t.properties, (rules t good).fewer)

-- What holds at each entry that passes holds of all the places, and the other way.
module _ {A : Type 0} (f : A → Bool) (d : A) (P : ℕ → Type 0) where
  pub places_all : (xs : List A) (j : ℕ) → ((i : ℕ) → f (get_or xs i d) ≡ true → P (i + j)) → All P (places_from j f xs)
  unfolding places_from
  places_all [] j h = tt
  places_all (x ∷ xs) j h =
      go (f x) refl (places_all xs (suc j) (λ i e. subst P (omega arith) (h (suc i) e)))
    where
      go : (b : Bool) → f x ≡ b → All P (places_from (suc j) f xs) → All P (cond b (j ∷ []) [] ++ places_from (suc j) f xs)
      go true e on = (subst P (omega arith) (h 0 e), on)
      go false e on = on

  places_one : (xs : List A) (j : ℕ) → f d ≡ false → All P (places_from j f xs) → (i : ℕ) → f (get_or xs i d) ≡ true → P (i + j)
  unfolding places_from
  places_one [] j z h i e = absurd (false≢true (sym z ∙ e))
  places_one (x ∷ xs) j z h i e = go (places_one xs (suc j) z) (f x) refl h i e
    where
      go : (All P (places_from (suc j) f xs) → (i : ℕ) → f (get_or xs i d) ≡ true → P (i + suc j)) → (b : Bool) → f x ≡ b
          → All P (cond b (j ∷ []) [] ++ places_from (suc j) f xs) → (i : ℕ) → f (get_or (x ∷ xs) i d) ≡ true → P (i + j)
      go on true a h zero e = subst P (omega arith) h.0
      go on true a h (suc i) e = subst P (omega arith) (on h.1 i e)
      go on false a h zero e = absurd (false≢true (sym a ∙ e))
      go on false a h (suc i) e = subst P (omega arith) (on h i e)

-- Places from j on, below n, each behind the one before.
abbrev Rises : ℕ → ℕ → List ℕ → Type 0
Rises n j [] = Unit {0}
Rises n j (k ∷ ks) = (j ≤ k) × ((k < n) × Rises n (suc k) ks)

rises_sooner : (n i j : ℕ) (ks : List ℕ) → i ≤ j → Rises n j ks → Rises n i ks
rises_sooner n i j [] h r = tt
rises_sooner n i j (k ∷ ks) h r = (omega (arith, h, r.0), r.1)

places_rise : {A : Type 0} (f : A → Bool) (xs : List A) (n j : ℕ) → length xs + j ≤ n → Rises n j (places_from j f xs)
unfolding places_from
places_rise f [] n j h = tt
places_rise f (x ∷ xs) n j h = go (f x) (places_rise f xs n (suc j) (omega (arith, h)))
  where
    go : (b : Bool) → Rises n (suc j) (places_from (suc j) f xs) → Rises n j (cond b (j ∷ []) [] ++ places_from (suc j) f xs)
    go true r = (omega arith, (omega (arith, h), r))
    go false r = rises_sooner n j (suc j) (places_from (suc j) f xs) (omega arith) r

-- The places of the settings. What stands at a place past the end is none.
abbrev blank : Property
blank = property_in (record { nodes = []; properties = [] }) 0

module _ (t : Tree) where
  settings_all : (P : ℕ → Type 0) → ((k : ℕ) → is_setting (property_in t k) ≡ true → P k) → All P (settings_of t)
  unfolding settings_of
  settings_all P h = places_all is_setting blank P t.properties 0 (λ i e. subst P (omega arith) (h i e))

  settings_one : (P : ℕ → Type 0) → All P (settings_of t) → (k : ℕ) → is_setting (property_in t k) ≡ true → P k
  unfolding settings_of
  settings_one P h k e = subst P (omega arith) (places_one is_setting blank P t.properties 0 refl h k e)

  settings_rise : Rises (length t.properties) 0 (settings_of t)
  unfolding settings_of
  settings_rise = places_rise is_setting t.properties (length t.properties) 0 (omega arith)

-- Loading changes no mark, and no count of cells.
pub loaded-length : (t : Tree) (ks bs : List ℕ) (cs : List Cell) → length (loaded t ks bs cs) ≡ length cs
unfolding loaded
loaded-length t [] bs cs = refl
loaded-length t (k ∷ ks) bs cs =
    let p : Property = property_in t k in
    let c : Cell = stored (cell_in cs k) (line_word p bs) in
    loaded-length t ks (drop (line_size p bs) bs) (set cs k c) ∙ length-set cs k c

stored-mark : (cs : List Cell) (k v i : ℕ) → (cell_in (set cs k (stored (cell_in cs k) v)) i).ready ≡ (cell_in cs i).ready
stored-mark [] k v i = refl
stored-mark (c ∷ cs) zero v zero = refl
stored-mark (c ∷ cs) zero v (suc i) = refl
stored-mark (c ∷ cs) (suc k) v zero = refl
stored-mark (c ∷ cs) (suc k) v (suc i) = stored-mark cs k v i

pub loaded-mark : (t : Tree) (ks bs : List ℕ) (cs : List Cell) (i : ℕ)
    → (cell_in (loaded t ks bs cs) i).ready ≡ (cell_in cs i).ready
unfolding loaded
loaded-mark t [] bs cs i = refl
loaded-mark t (k ∷ ks) bs cs i =
    let p : Property = property_in t k in
    loaded-mark t ks (drop (line_size p bs) bs) (set cs k (stored (cell_in cs k) (line_word p bs))) i
    ∙ stored-mark cs k (line_word p bs) i

-- A cell at none of the places stays.
loaded_apart : (t : Tree) (ks bs : List ℕ) (cs : List Cell) (i : ℕ) → All (λ k. i ≡ k → ⊥) ks
    → cell_in (loaded t ks bs cs) i ≡ cell_in cs i
unfolding loaded
loaded_apart t [] bs cs i h = refl
loaded_apart t (k ∷ ks) bs cs i h =
    let p : Property = property_in t k in
    let c : Cell = stored (cell_in cs k) (line_word p bs) in
    loaded_apart t ks (drop (line_size p bs) bs) (set cs k c) i h.1 ∙ get_or-set_other cs k i c _ h.0

pub loaded_other : (t : Tree) (bs : List ℕ) (cs : List Cell) (k : ℕ) → is_setting (property_in t k) ≡ false
    → cell_in (loaded t (settings_of t) bs cs) k ≡ cell_in cs k
loaded_other t bs cs k e =
    loaded_apart t (settings_of t) bs cs k
    (settings_all t (λ j. k ≡ j → ⊥) (λ j h same. false≢true (sym e ∙ ap (λ i. is_setting (property_in t i)) same ∙ h)))

-- A place before all of them.
rises_apart : (n i j : ℕ) (ks : List ℕ) → i < j → Rises n j ks → All (λ k. i ≡ k → ⊥) ks
rises_apart n i j [] h r = tt
rises_apart n i j (k ∷ ks) h r =
    (λ e. omega (arith, e, h, r.0), rises_apart n i (suc k) ks (omega (arith, h, r.0)) r.1.1)

-- So each cell has the word of its own line.
loaded_first : (t : Tree) (n j k : ℕ) (ks bs : List ℕ) (cs : List Cell) → Rises n j (k ∷ ks) → length cs ≡ n
    → (cell_in (loaded t (k ∷ ks) bs cs) k).word ≡ line_word (property_in t k) bs
unfolding loaded
loaded_first t n j k ks bs cs r e =
    let p : Property = property_in t k in
    let c : Cell = stored (cell_in cs k) (line_word p bs) in
    ap (λ c. c.word)
    (loaded_apart t ks (drop (line_size p bs) bs) (set cs k c) k (rises_apart n k (suc k) ks (omega arith) r.1.1)
    ∙ get_or-set_same cs k c _ (omega (arith, r.1.0, e)))

-- What was written is read into the cells.
module _ (t : Tree) (cs : List Cell) (w : Words cs) where
  restores_on : (n j : ℕ) (ks : List ℕ) (into : List Cell) → Rises n j ks → length into ≡ n
      → All (λ k. (cell_in (loaded t ks (written t cs ks) into) k).word ≡ (cell_in cs k).word) ks
  unfolding loaded each
  restores_on n j [] into r e = tt
  restores_on n j (k ∷ ks) into r e =
      let p : Property = property_in t k in
      let bs : List ℕ = written t cs (k ∷ ks) in
      let c : Cell = stored (cell_in into k) (line_word p bs) in (
        loaded_first t n j k ks bs into r e ∙ setting_word p (cell_in cs k).word (written t cs ks) (w k),
        subst (λ l. All (λ i. (cell_in (loaded t ks l (set into k c)) i).word ≡ (cell_in cs i).word) ks)
            (sym (setting_rest p (cell_in cs k).word (written t cs ks) (w k)))
            (restores_on n (suc k) ks (set into k c) r.1.1 (length-set into k c ∙ e)),
      )

  pub restores : (into : List Cell) → length into ≡ length t.properties → (k : ℕ) → is_setting (property_in t k) ≡ true
      → (cell_in (loaded t (settings_of t) (sheet t cs) into) k).word ≡ (cell_in cs k).word
  unfolding sheet
  restores into e =
      settings_one t (λ k. (cell_in (loaded t (settings_of t) (sheet t cs) into) k).word ≡ (cell_in cs k).word)
      (restores_on (length t.properties) 0 (settings_of t) into (settings_rise t) e)

-- A sheet in range: its words, written again, are the sheet; they are in range, and of 32 bits.
stored_width : (cs : List Cell) (k v : ℕ) → Words cs → v < word_end → Words (set cs k (stored (cell_in cs k) v))
stored_width [] k v w h i = w i
stored_width (c ∷ cs) zero v w h zero = h
stored_width (c ∷ cs) zero v w h (suc i) = w (suc i)
stored_width (c ∷ cs) (suc k) v w h zero = w 0
stored_width (c ∷ cs) (suc k) v w h (suc i) = stored_width cs k v (λ j. w (suc j)) h i

module _ (t : Tree) where
  again_on : (n j : ℕ) (ks bs : List ℕ) (cs : List Cell) → Rises n j ks → length cs ≡ n → is_sheet t ks bs ≡ true
      → all_in_range t ks bs ≡ true → (written t (loaded t ks bs cs) ks ≡ bs) × (ranged t (loaded t ks bs cs) ks ≡ true)
  unfolding is_sheet all_in_range loaded each every
  again_on n j [] bs cs r e h a = (sym (no_bytes bs (eqb-true (length bs) 0 h)), refl)
  again_on n j (k ∷ ks) bs cs r e h a =
      let p : Property = property_in t k in
      let c : Cell = stored (cell_in cs k) (line_word p bs) in
      let l = and_left (is_line p bs) _ h in
      let i = and_left (line_in_range p bs) _ a in
      let first = loaded_first t n j k ks bs cs r e in
      let on =
      again_on n (suc k) ks (drop (line_size p bs) bs) (set cs k c) r.1.1 (length-set cs k c ∙ e) (and_right (is_line p bs) _ h)
      (and_right (line_in_range p bs) _ a) in (
        ap₂ (λ v l. setting_line p v ++ l) first on.0 ∙ sym (line_setting p bs l i),
        and_both (ap (may_hold p) first ∙ line_ranged p bs l i) on.1,
      )

  width_on : (ks bs : List ℕ) (cs : List Cell) → is_sheet t ks bs ≡ true → all_in_range t ks bs ≡ true → Words cs
      → Words (loaded t ks bs cs)
  unfolding is_sheet all_in_range loaded
  width_on [] bs cs h a w = w
  width_on (k ∷ ks) bs cs h a w =
      let p : Property = property_in t k in
      width_on ks (drop (line_size p bs) bs) (set cs k (stored (cell_in cs k) (line_word p bs))) (and_right (is_line p bs) _ h)
      (and_right (line_in_range p bs) _ a)
      (stored_width cs k (line_word p bs) w (line_word_lem p bs (and_left (is_line p bs) _ h) (and_left (line_in_range p bs) _ a)))

-- The two tests of a sheet.
both_tests : (a b : Bool) → cond a (cond b done not_in_range) bad_sheet ≡ done → (a ≡ true) × (b ≡ true)
both_tests true true h = (refl, refl)
both_tests true false h = absurd (omega (arith, h))
both_tests false b h = absurd (omega (arith, h))

module _ (t : Tree) (bs : List ℕ) (h : sheet_number t (settings_of t) bs ≡ done) (cs : List Cell) where
  tests : (is_sheet t (settings_of t) bs ≡ true) × (all_in_range t (settings_of t) bs ≡ true)
  unfolding sheet_number
  tests = both_tests (is_sheet t (settings_of t) bs) (all_in_range t (settings_of t) bs) h

  abbrev after : List Cell
  after = loaded t (settings_of t) bs cs

  again : length cs ≡ length t.properties → (written t after (settings_of t) ≡ bs) × (ranged t after (settings_of t) ≡ true)
  again e = again_on t (length t.properties) 0 (settings_of t) bs cs (settings_rise t) e tests.0 tests.1

  pub rewritten : length cs ≡ length t.properties → sheet t after ≡ bs
  unfolding sheet
  rewritten e = (again e).0

  pub loaded_ranges : length cs ≡ length t.properties → in_ranges t after ≡ true
  unfolding in_ranges
  loaded_ranges e = (again e).1

  pub loaded_width : Words cs → Words after
  loaded_width = width_on t (settings_of t) bs cs tests.0 tests.1

-- Cells that hold the same words in the settings have the same sheet.
each_alike : {A B : Type 0} (f g : A → List B) (xs : List A) → All (λ x. f x ≡ g x) xs → each f xs ≡ each g xs
unfolding each
each_alike f g [] h = refl
each_alike f g (x ∷ xs) h = ap₂ (λ a b. a ++ b) h.0 (each_alike f g xs h.1)

every_alike : {A : Type 0} (f g : A → Bool) (xs : List A) → All (λ x. f x ≡ g x) xs → every f xs ≡ every g xs
unfolding every
every_alike f g [] h = refl
every_alike f g (x ∷ xs) h = ap₂ (λ a b. a && b) h.0 (every_alike f g xs h.1)

module _ (t : Tree) (cs ds : List Cell) (h : (k : ℕ) → is_setting (property_in t k) ≡ true → (cell_in cs k).word ≡ (cell_in ds k).word) where
  pub sheet_alike : sheet t cs ≡ sheet t ds
  unfolding sheet
  sheet_alike =
      let f : List Cell → ℕ → List ℕ = λ cs k. setting_line (property_in t k) (cell_in cs k).word in
      each_alike (f cs) (f ds) (settings_of t)
      (settings_all t (λ k. f cs k ≡ f ds k) (λ k e. ap (setting_line (property_in t k)) (h k e)))

  pub ranges_alike : in_ranges t cs ≡ in_ranges t ds
  unfolding in_ranges
  ranges_alike =
      let f : List Cell → ℕ → Bool = λ cs k. may_hold (property_in t k) (cell_in cs k).word in
      every_alike (f cs) (f ds) (settings_of t)
      (settings_all t (λ k. f cs k ≡ f ds k) (λ k e. ap (may_hold (property_in t k)) (h k e)))

-- Texts that are the same.
pub text_same : (s u : List ℕ) → same_text s u ≡ true → s ≡ u
unfolding same_text
text_same s u h =
    let size = eqb-true (length s) (length u) (and_left (eqb (length s) (length u)) _ h) in
    sym (append-nil s)
    ∙ ap (λ l. s ++ l) (sym (drop_of_length-le u {i = length s} (omega (arith, size))))
    ∙ sym (begins_stands s u (and_right (eqb (length s) (length u)) _ h))

pub text_self : (s : List ℕ) → same_text s s ≡ true
unfolding same_text
text_self s = and_both (eq-eqb (length s) (length s) refl) (ap (begins s) (sym (append-nil s)) ∙ begins_front s [])

-- Labels that can be written are plain and differ.
every_inside : {A : Type 0} (f : A → Bool) (xs : List A) (d : A) → every f xs ≡ true → (i : ℕ) → i < length xs → f (get_or xs i d) ≡ true
unfolding every
every_inside f [] d h i l = absurd (omega (arith, l))
every_inside f (x ∷ xs) d h zero l = and_left (f x) _ h
every_inside f (x ∷ xs) d h (suc i) l = every_inside f xs d (and_right (f x) _ h) i (omega (arith, l))

module _ (t : Tree) where
  abbrev label_at : List ℕ → ℕ → List ℕ
  label_at ks i = (property_in t (get_or ks i 0)).label

  abbrev differs : ℕ → ℕ → Bool
  differs k j = not (same_text (property_in t k).label (property_in t j).label)

  pub writable-plain : (ks : List ℕ) → writable t ks ≡ true → (i : ℕ) → i < length ks → is_plain (label_at ks i) ≡ true
  unfolding writable
  writable-plain [] h i l = absurd (omega (arith, l))
  writable-plain (k ∷ ks) h zero l = and_left (is_plain (property_in t k).label) _ h
  writable-plain (k ∷ ks) h (suc i) l =
      writable-plain ks (and_right (every (differs k) ks) _ (and_right (is_plain (property_in t k).label) _ h)) i (omega (arith, l))

  pub writable_differ : (ks : List ℕ) → writable t ks ≡ true → (i j : ℕ) → i < j → j < length ks → label_at ks i ≡ label_at ks j → ⊥
  unfolding writable
  writable_differ [] h i j b l e = omega (arith, l)
  writable_differ (k ∷ ks) h i zero b l e = omega (arith, b)
  writable_differ (k ∷ ks) h zero (suc j) b l e =
      let all = and_left (every (differs k) ks) _ (and_right (is_plain (property_in t k).label) _ h) in
      let other : same_text (property_in t k).label (label_at ks j) ≡ false =
      not-true _ (every_inside (differs k) ks 0 all j (omega (arith, l))) in
      false≢true (sym other ∙ ap (λ s. same_text s (label_at ks j)) e ∙ text_self (label_at ks j))
  writable_differ (k ∷ ks) h (suc i) (suc j) b l e =
      writable_differ ks (and_right (every (differs k) ks) _ (and_right (is_plain (property_in t k).label) _ h)) i j (omega (arith, b))
      (omega (arith, l)) e

-- An entry that fails a test.
record Fails {A : Type 0} (f : A → Bool) (d : A) (xs : List A) : Type 0 where
  at : ℕ
  inside : at < length xs
  fails : f (get_or xs at d) ≡ false

every_fails : {A : Type 0} (f : A → Bool) (d : A) (xs : List A) → every f xs ≡ false → Fails f d xs
unfolding every
every_fails f d [] h = absurd (false≢true (sym h))
every_fails f d (x ∷ xs) h = go (f x) refl h (every_fails f d xs)
  where
    go : (b : Bool) → f x ≡ b → (b && every f xs) ≡ false → (every f xs ≡ false → Fails f d xs) → Fails f d (x ∷ xs)
    go false e h on = record { at = 0; inside = omega arith; fails = e }
    go true e h on = let r = on h in record { at = suc r.at; inside = omega (arith, r.inside); fails = r.fails }

clash_on : (t : Tree) (k : ℕ) (ks : List ℕ) → Clash t ks → Clash t (k ∷ ks)
clash_on t k ks (marked i l e) = marked (suc i) (omega (arith, l)) e
clash_on t k ks (twice i j b l e) = twice (suc i) (suc j) (omega (arith, b)) (omega (arith, l)) e

-- Of labels that cannot be written, one has a "=", or two are the same.
pub unwritable : (t : Tree) (ks : List ℕ) → writable t ks ≡ false → Clash t ks
unfolding writable
unwritable t [] h = absurd (false≢true (sym h))
unwritable t (k ∷ ks) h =
    go (is_plain (property_in t k).label) refl (every (differs t k) ks) refl h (unwritable t ks)
  where
    go : (a : Bool) → is_plain (property_in t k).label ≡ a → (b : Bool) → every (differs t k) ks ≡ b
        → (a && (b && writable t ks)) ≡ false → (writable t ks ≡ false → Clash t ks) → Clash t (k ∷ ks)
    go false e b f h on = marked 0 (omega arith) e
    go true e false f h on =
        let r = every_fails (differs t k) 0 ks f in
        twice 0 (suc r.at) (omega arith) (omega (arith, r.inside)) (text_same _ _ (not-false _ r.fails))
    go true e true f h on = clash_on t k ks (on h)

-- Of settings that are not all in range, one is not.
all_inside : {A : Type 0} (P : A → Type 0) (d : A) (xs : List A) → All P xs → (i : ℕ) → i < length xs → P (get_or xs i d)
all_inside P d [] h i l = absurd (omega (arith, l))
all_inside P d (x ∷ xs) h zero l = h.0
all_inside P d (x ∷ xs) h (suc i) l = all_inside P d xs h.1 i (omega (arith, l))

every_all : {A : Type 0} (f : A → Bool) (xs : List A) → every f xs ≡ true → All (λ x. f x ≡ true) xs
unfolding every
every_all f [] h = tt
every_all f (x ∷ xs) h = (and_left (f x) _ h, every_all f xs (and_right (f x) _ h))

module _ (t : Tree) (cs : List Cell) where
  abbrev holds : ℕ → Bool
  holds k = may_hold (property_in t k) (cell_in cs k).word

  pub ranges_fail : in_ranges t cs ≡ false → Outside t cs
  unfolding in_ranges
  ranges_fail h =
      let r = every_fails holds 0 (settings_of t) h in
      record {
        place = get_or (settings_of t) r.at 0;
        setting =
            all_inside (λ k. is_setting (property_in t k) ≡ true) 0 (settings_of t)
            (settings_all t (λ k. is_setting (property_in t k) ≡ true) (λ k e. e))
            r.at
            r.inside;
        word = r.fails;
      }

  pub ranges_hold : Outside t cs → in_ranges t cs ≡ false
  unfolding in_ranges
  ranges_hold o = go (every holds (settings_of t)) refl
    where
      go : (b : Bool) → every holds (settings_of t) ≡ b → b ≡ false
      go false e = refl
      go true e =
          absurd (false≢true (sym o.word ∙ settings_one t (λ k. holds k ≡ true) (every_all holds (settings_of t) e) o.place o.setting))
