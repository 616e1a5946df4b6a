-- 02, section 3, settings on a sheet: what the calls that write and read one come to, stated over the written form.
use Rattle.std.specs.Prelude.{ℕ, ◌*◌, ◌<◌, ◌≤◌, ◌≡◌, true, false, cond, List, length, take}
use Rattle.protocol.specs.Numbers.{done, unsound, no_room, bad_sheet, not_in_range}
use Rattle.protocol.specs.Bytes.{Bytes}
use Rattle.protocol.specs.Buffer.{Fills}
use Rattle.protocol.specs.Tree.{Tree, Cell, is_live, property_in, cell_in, cells_sound}
use Rattle.protocol.specs.Answer.{stored}
use Rattle.protocol.specs.Signed.{Number}
use Rattle.protocol.specs.Sheet.{is_setting, settings_of, writable, Clash, sheet, in_ranges, Outside, lines_of, are_told, are_in_range}
use Rattle.tree.specs.Seen.{seen}
use Rattle.cells.specs.Cells.{cells_in}
use Rattle.cells.specs.Lent.{is_lent, Updates}
use Rattle.sheet.specs.Sheets.{written, load_in}

-- A call that writes a sheet, and one that reads one.
abbrev pub WritesSheet : List ℕ → List ℕ → List ℕ → ℕ → ℕ → List ℕ → Type 0
WritesSheet tree cells old n len new = Fills (written tree cells) old n len new

abbrev pub ReadsSheet : List ℕ → List ℕ → List ℕ → ℕ → List ℕ → Type 0
ReadsSheet tree cells bs n cells' = Updates (load_in tree cells bs) n cells'

-- Bytes that are the written sheet of some cells of a tree in which every setting is in range.
pub record IsWritten (t : Tree) (bs : List ℕ) : Type 0 where
  pub labels : writable t (settings_of t) ≡ true
  pub cells : List Cell
  pub fit : cells_sound t cells ≡ true
  pub range_fits : in_ranges t cells ≡ true
  pub is : bs ≡ sheet t cells

-- Bytes that have the shape of a sheet: the lines of numbers of any size, one for each setting.
pub record IsShaped (t : Tree) (bs : List ℕ) : Type 0 where
  pub labels : writable t (settings_of t) ≡ true
  pub numbers : List Number
  pub told : are_told t (settings_of t) numbers ≡ true
  pub is : bs ≡ lines_of t (settings_of t) numbers

-- Each setting holds the word that it has in other cells; its mark, and the cell of any other property, are as they were.
pub record Takes (t : Tree) (from old new : List Cell) : Type 0 where
  pub count : length new ≡ length old
  pub settings : (k : ℕ) → is_setting (property_in t k) ≡ true → cell_in new k ≡ stored (cell_in old k) (cell_in from k).word
  pub others : (k : ℕ) → is_setting (property_in t k) ≡ false → cell_in new k ≡ cell_in old k

-- Reading, for a sound tree and its cells. It is 0 exactly for a written sheet, whose settings are then stored; else 18 exactly for
-- a sheet of the right shape, and 17 for any other. Anything but 0 changes nothing.
pub record ReadExactly (tree cells bs : List ℕ) (n : ℕ) (cells' : List ℕ) : Type 0 where
  pub only_written : n ≡ done → IsWritten (seen tree) bs
  pub written_read : IsWritten (seen tree) bs → n ≡ done
  pub stores : n ≡ done → (w : IsWritten (seen tree) bs) → Takes (seen tree) w.cells (cells_in cells) (cells_in cells')
  pub fits_again : n ≡ done → is_lent tree cells' ≡ true
  pub shaped : (s : IsShaped (seen tree) bs) → n ≡ cond (are_in_range (seen tree) (settings_of (seen tree)) s.numbers) done not_in_range
  pub misshapen : (IsShaped (seen tree) bs → ⊥) → n ≡ bad_sheet
  pub refusals : (n ≡ done → ⊥) → cells' ≡ cells

-- Two lists of cells that differ in nothing but live properties, their words and their marks.
pub record AlikeButLive (t : Tree) (cs ds : List Cell) : Type 0 where
  pub others : (k : ℕ) → is_live (property_in t k) ≡ false → cell_in cs k ≡ cell_in ds k

pub record SheetsKeep : Type 0 where
  pub reading : (tree cells bs : List ℕ) {n : ℕ} {cells' : List ℕ} → Bytes cells → is_lent tree cells ≡ true
      → ReadsSheet tree cells bs n cells' → ReadExactly tree cells bs n cells'
  -- Writing and then reading restores every setting, from any cells into any cells of the same tree.
  pub restores : (tree cells old : List ℕ) {len : ℕ} {new : List ℕ} → Bytes cells → WritesSheet tree cells old done len new
      → (into : List ℕ) {n : ℕ} {into' : List ℕ} → Bytes into → is_lent tree into ≡ true → ReadsSheet tree into (take len new) n into'
      → (n ≡ done) × Takes (seen tree) (cells_in cells) (cells_in into) (cells_in into')
  -- Reading a good sheet and writing it returns its bytes, where there is room for them.
  pub returns : (tree cells bs : List ℕ) {cells' : List ℕ} → Bytes cells → is_lent tree cells ≡ true → ReadsSheet tree cells bs done cells'
      → (old : List ℕ) {n len : ℕ} {new : List ℕ} → length bs ≤ length old → WritesSheet tree cells' old n len new
      → (n ≡ done) × (take len new ≡ bs)
  -- No live word, ready or not, has any influence: on what is written, on the answer to a sheet, on the settings that are stored.
  pub live_unseen : (tree cells cells₂ old : List ℕ) {n n₂ len len₂ : ℕ} {new new₂ : List ℕ} → is_lent tree cells ≡ true → is_lent tree cells₂ ≡ true
      → AlikeButLive (seen tree) (cells_in cells) (cells_in cells₂) → WritesSheet tree cells old n len new → WritesSheet tree cells₂ old n₂ len₂ new₂
      → (n ≡ n₂) × ((len ≡ len₂) × (new ≡ new₂))
  pub live_unread : (tree cells cells₂ bs : List ℕ) {n n₂ : ℕ} {cells' cells₂' : List ℕ} → Bytes cells → Bytes cells₂
      → is_lent tree cells ≡ true → is_lent tree cells₂ ≡ true → ReadsSheet tree cells bs n cells' → ReadsSheet tree cells₂ bs n₂ cells₂'
      → (n ≡ n₂) × (n ≡ done → (k : ℕ) → is_setting (property_in (seen tree) k) ≡ true → (cell_in (cells_in cells') k).word ≡ (cell_in (cells_in cells₂') k).word)
  -- A tree and cells that break a rule: 1, whatever else is amiss, and nothing changes.
  pub broken : (tree cells old : List ℕ) {n len : ℕ} {new : List ℕ} → is_lent tree cells ≡ false → WritesSheet tree cells old n len new → n ≡ unsound
  pub broken_kept : (tree cells bs : List ℕ) {n : ℕ} {cells' : List ℕ} → is_lent tree cells ≡ false → ReadsSheet tree cells bs n cells'
      → (n ≡ unsound) × (cells' ≡ cells)
  -- A refusal leaves the output; 8 tells the length for which there is too little room, with 0 there was enough; 1, 17 and 18 tell 0.
  pub refused : (tree cells old : List ℕ) {n len : ℕ} {new : List ℕ} → WritesSheet tree cells old n len new → (n ≡ done → ⊥) → new ≡ old
  pub too_short_case : (tree cells old : List ℕ) {len : ℕ} {new : List ℕ} → WritesSheet tree cells old no_room len new → length old < len
  pub room_enough : (tree cells old : List ℕ) {len : ℕ} {new : List ℕ} → WritesSheet tree cells old done len new → len ≤ length old
  pub told_0 : (tree cells old : List ℕ) {n len : ℕ} {new : List ℕ} → WritesSheet tree cells old n len new → (n ≡ done → ⊥) → (n ≡ no_room → ⊥) → len ≡ 0
  -- 17 in writing is for labels: one with a "=", or two that are the same.
  pub labels : (tree cells old : List ℕ) {len : ℕ} {new : List ℕ} → WritesSheet tree cells old bad_sheet len new → Clash (seen tree) (settings_of (seen tree))
  pub unwritable : (tree cells old : List ℕ) {n len : ℕ} {new : List ℕ} → is_lent tree cells ≡ true → Clash (seen tree) (settings_of (seen tree))
      → WritesSheet tree cells old n len new → n ≡ bad_sheet
  -- 18 in writing is for words: a setting that holds one out of range.
  pub words : (tree cells old : List ℕ) {len : ℕ} {new : List ℕ} → WritesSheet tree cells old not_in_range len new → Outside (seen tree) (cells_in cells)
  pub out_of_range_case : (tree cells old : List ℕ) {n len : ℕ} {new : List ℕ} → is_lent tree cells ≡ true → writable (seen tree) (settings_of (seen tree)) ≡ true
      → Outside (seen tree) (cells_in cells) → WritesSheet tree cells old n len new → n ≡ not_in_range
  -- A sheet has at most 36 bytes for each setting of its tree, and none has more than 4,608.
  pub longest : (tree cells old : List ℕ) {n len : ℕ} {new : List ℕ} → Bytes cells → WritesSheet tree cells old n len new
      → (len ≤ 36 * length (settings_of (seen tree))) × (len ≤ 4608)
