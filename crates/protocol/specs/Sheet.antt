-- 02, section 3: the settings of a tree on a sheet.
use Rattle.std.specs.Prelude.{ℕ, suc, ◌+◌, ◌<◌, ◌≡◌, Bool, true, false, cond, not, ◌&&◌, List, [], ◌∷◌, ◌++◌, length, get_or, drop, set, eqb}
use Rattle.protocol.specs.Numbers.{done, bad_sheet, not_in_range}
use Rattle.protocol.specs.Bytes.{every}
use Rattle.protocol.specs.Tree.{Property, Tree, Cell, can_read, can_write, places_from, property_in, cell_in}
use Rattle.protocol.specs.Step.{on_step}
use Rattle.protocol.specs.Answer.{in_range, takes_sign, stored}
use Rattle.protocol.specs.Text.{each, line, begins, same_text}
use Rattle.protocol.specs.Signed.{Number, number_of, numeral, is_told, is_word, word_for, is_number, number_in, number_size}

-- A setting: a property with read and write.
abbrev pub is_setting : Property → Bool
is_setting p = can_read p && can_write p

-- Whether a setting may hold a word: document 01's range rule, and (02, section 6) its step. What follows says "in range" of both.
unfoldable pub may_hold : Property → ℕ → Bool
may_hold p v = in_range p v && on_step p v

-- The settings of a tree, by their places, in property list order.
unfoldable pub settings_of : Tree → List ℕ
settings_of t = places_from 0 is_setting t.properties

-- A label that has no "=".
unfoldable pub is_plain : List ℕ → Bool
is_plain label = every (λ c. not (eqb c 61)) label

-- Labels that can be written: each is plain, and no later one is the same.
unfoldable pub writable : Tree → List ℕ → Bool
writable t [] = true
writable t (k ∷ ks) =
    is_plain (property_in t k).label
    && (every (λ j. not (same_text (property_in t k).label (property_in t j).label)) ks && writable t ks)

-- The same in other words (`writable-plain`, `writable_differ`, `unwritable`): what keeps labels from being written.
pub data Clash (t : Tree) (ks : List ℕ) : Type 0 where
  marked : (i : ℕ) → i < length ks → is_plain (property_in t (get_or ks i 0)).label ≡ false → Clash t ks
  twice : (i j : ℕ) → i < j → j < length ks → (property_in t (get_or ks i 0)).label ≡ (property_in t (get_or ks j 0)).label → Clash t ks

-- The line of a setting that holds a word: `label=number` and 0Ah.
abbrev pub setting_line : Property → ℕ → List ℕ
setting_line p w = line p.label (numeral (number_of (takes_sign p) w))

-- The sheet: the lines of all settings.
unfoldable pub sheet : Tree → List Cell → List ℕ
sheet t cs = each (λ k. setting_line (property_in t k) (cell_in cs k).word) (settings_of t)

-- Every setting holds a word in range.
unfoldable pub in_ranges : Tree → List Cell → Bool
in_ranges t cs = every (λ k. may_hold (property_in t k) (cell_in cs k).word) (settings_of t)

-- The same in other words (`ranges_fail`, `ranges_hold`): a setting that holds a word out of range.
pub record Outside (t : Tree) (cs : List Cell) : Type 0 where
  pub place : ℕ
  pub setting : is_setting (property_in t place) ≡ true
  pub word : may_hold (property_in t place) (cell_in cs place).word ≡ false

-- Writing refuses with 17, then 18. (1 comes before them and 8 behind.)
unfoldable pub write_refusal : Tree → List Cell → ℕ
write_refusal t cs = cond (writable t (settings_of t)) (cond (in_ranges t cs) done not_in_range) bad_sheet

-- A line of a setting in front of some bytes: its label, "=", a number and 0Ah.
unfoldable pub is_line : Property → List ℕ → Bool
is_line p bs =
    begins p.label bs
    && (eqb (get_or bs (length p.label) 0) 61 && is_number (takes_sign p) (drop (suc (length p.label)) bs))

-- How many bytes the line takes, the word that its number is, and whether that is one of 32 bits and in range.
unfoldable pub line_size : Property → List ℕ → ℕ
line_size p bs = suc (length p.label) + number_size (drop (suc (length p.label)) bs)

unfoldable pub line_word : Property → List ℕ → ℕ
line_word p bs = word_for (number_in (drop (suc (length p.label)) bs))

unfoldable pub line_in_range : Property → List ℕ → Bool
line_in_range p bs =
    is_word (takes_sign p) (number_in (drop (suc (length p.label)) bs)) && may_hold p (line_word p bs)

-- A sheet of these settings: a line for each, in order, and nothing behind the last.
unfoldable pub is_sheet : Tree → List ℕ → List ℕ → Bool
is_sheet t [] bs = eqb (length bs) 0
is_sheet t (k ∷ ks) bs = is_line (property_in t k) bs && is_sheet t ks (drop (line_size (property_in t k) bs) bs)

-- What a sheet can hold, whatever the size of its numbers: one for each setting, with a minus only where the setting is signed and
-- the number is not 0. `sheet_stands` and `lines_read` say that a sheet of these settings is just such lines.
unfoldable pub lines_of : Tree → List ℕ → List Number → List ℕ
lines_of t [] ns = []
lines_of t (k ∷ ks) [] = []
lines_of t (k ∷ ks) (n ∷ ns) = line (property_in t k).label (numeral n) ++ lines_of t ks ns

unfoldable pub are_told : Tree → List ℕ → List Number → Bool
are_told t [] [] = true
are_told t [] (n ∷ ns) = false
are_told t (k ∷ ks) [] = false
are_told t (k ∷ ks) (n ∷ ns) = is_told (takes_sign (property_in t k)) n && are_told t ks ns

-- Each of them is one of 32 bits and in range.
unfoldable pub are_in_range : Tree → List ℕ → List Number → Bool
are_in_range t [] ns = true
are_in_range t (k ∷ ks) [] = true
are_in_range t (k ∷ ks) (n ∷ ns) =
    (is_word (takes_sign (property_in t k)) n && may_hold (property_in t k) (word_for n)) && are_in_range t ks ns

-- Every number of a sheet is in range.
unfoldable pub all_in_range : Tree → List ℕ → List ℕ → Bool
all_in_range t [] bs = true
all_in_range t (k ∷ ks) bs =
    line_in_range (property_in t k) bs && all_in_range t ks (drop (line_size (property_in t k) bs) bs)

-- 17 for a sheet that is none of these settings, then 18.
unfoldable pub sheet_number : Tree → List ℕ → List ℕ → ℕ
sheet_number t ks bs = cond (is_sheet t ks bs) (cond (all_in_range t ks bs) done not_in_range) bad_sheet

-- Reading refuses the labels with 17 too, whatever the sheet.
unfoldable pub read_refusal : Tree → List ℕ → ℕ
read_refusal t bs = cond (writable t (settings_of t)) (sheet_number t (settings_of t) bs) bad_sheet

-- Each setting's cell with the word of its line; its mark, and every other cell, as it was.
unfoldable pub loaded : Tree → List ℕ → List ℕ → List Cell → List Cell
loaded t [] bs cs = cs
loaded t (k ∷ ks) bs cs =
    loaded t ks (drop (line_size (property_in t k) bs) bs) (set cs k (stored (cell_in cs k) (line_word (property_in t k) bs)))

-- All or nothing.
pub record Load : Type 0 where
  pub number : ℕ
  pub cells : List Cell

unfoldable pub load : Tree → List Cell → List ℕ → Load
load t cs bs =
    record {
      number = read_refusal t bs;
      cells = cond (eqb (read_refusal t bs) done) (loaded t (settings_of t) bs cs) cs;
    }
