-- A setting's word, whether it is in range, and its line.
-- Assumes nothing.
use Prim.Native.Nat.{ℕ}
use mathlib.Core.Path.{◌≡◌, sym, ap, ap₂, ◌∙◌}
use mathlib.Core.Bool.{Bool, true, false}
use mathlib.Core.List.{List, []}
use Rattle.std.proofs.Common.{Option, Some}
use Rattle.protocol.specs.Bytes.{every}
use Rattle.protocol.specs.Refusal.{option_of}
use Rattle.protocol.specs.Text.{each, line}
use Rattle.protocol.specs.Signed.{number_of, numeral}
use Rattle.protocol.specs.Tree.{Property, Tree, Cell, property_in, cell_in, reading}
use Rattle.protocol.specs.Answer.{takes_sign}
use Rattle.protocol.specs.Sheet.{is_setting, may_hold, setting_line, sheet, in_ranges}
use Rattle.protocol.proofs.TestLaws.{and_left}
use Rattle.protocol.proofs.SheetLaws.{setting_reading}
use Rattle.tree.specs.Seen.{seen}
use Rattle.tree.specs.Lookup.{FieldsAre, numbers_of}
use Rattle.tree.specs.declared.record.Fields.{Fields}
use Rattle.tree.proofs.RangeLaws.{sign_same}
use Rattle.soundness.specs.Sound.{is_tree}
use Rattle.soundness.proofs.FormLaws.{seen-sound}
use Rattle.cells.specs.Cells.{cells_in}
use Rattle.cells.specs.Lent.{is_lent}
use Rattle.text.specs.declared.output.Output.{Output}
use Rattle.text.specs.Lays.{Lays}
use Rattle.text.proofs.LaysLaws.{lays_as, Going, going_begins, going_ends, going_as, going_more}
use Rattle.sheet.specs.declared.setting.Settings.{Settings}
use Rattle.sheet.specs.Steps.{rest}
use Rattle.sheet.proofs.SettingLaws.{Next, Starts, starts_all, Tests, Trying, try_on, try_fails, try_ends, every_tests}

pub lent_tree : (tree cells : List ℕ) → is_lent tree cells ≡ true → is_tree tree ≡ true
unfolding is_lent
lent_tree tree cells h = and_left (is_tree tree) _ h

module _ (tree cells : List ℕ) (lent : is_lent tree cells ≡ true) (k : ℕ) (e : is_setting (property_in (seen tree) k) ≡ true) {r : Option ℕ}
    (f : r ≡ option_of (reading (property_in (seen tree) k) (cell_in (cells_in cells) k))) where
  pub setting_word : r ≡ Some (cell_in (cells_in cells) k).word
  setting_word =
      f
      ∙ ap option_of (setting_reading (seen tree) (seen-sound tree (lent_tree tree cells lent)) k e (cell_in (cells_in cells) k))

-- Every setting, one after the other.
abbrev ranged : Tree → List Cell → ℕ → Bool
ranged t cs k = may_hold (property_in t k) (cell_in cs k).word

abbrev pub Ranging : List ℕ → List ℕ → Settings → Type 0
Ranging tree cells rest =
    Trying (seen tree) (every (ranged (seen tree) (cells_in cells))) (λ j ks. ranged (seen tree) (cells_in cells) j)
    (in_ranges (seen tree) (cells_in cells)) rest

module _ (tree cells : List ℕ) where
  tests : Tests (seen tree) (every (ranged (seen tree) (cells_in cells))) (λ j ks. ranged (seen tree) (cells_in cells) j)
  tests = every_tests (seen tree) (ranged (seen tree) (cells_in cells))

  pub ranging_begins : {s : Settings} → Starts (seen tree) 0 s → Ranging tree cells s
  unfolding in_ranges
  ranging_begins b = record { tree = b.tree; decides = ap (every (ranged (seen tree) (cells_in cells))) (starts_all b) }

  module _ {now next : Settings} {k : ℕ} {r : Bool} (y : Ranging tree cells now) (n : Next (seen tree) now k next) (e : r ≡ ranged (seen tree) (cells_in cells) k) where
    pub ranging_fails : r ≡ false → false ≡ in_ranges (seen tree) (cells_in cells)
    ranging_fails f = try_fails _ _ _ tests y n (sym e ∙ f)

    pub ranging_on : r ≡ true → Ranging tree cells next
    ranging_on f = try_on _ _ _ tests y n (sym e ∙ f)

  pub ranging_ends : {now : Settings} → Ranging tree cells now → rest now ≡ [] → true ≡ in_ranges (seen tree) (cells_in cells)
  ranging_ends y h = try_ends _ _ _ tests y h

-- A setting's line, by what it was put together of.
pub line_put : (p : Property) {f : Fields} {sign : Bool} {v w : ℕ} {label : List ℕ} {a b : Output} → FieldsAre p f → sign ≡ takes_sign (numbers_of f) → v ≡ w
    → label ≡ p.label → Lays (line label (numeral (number_of sign v))) a b → Lays (setting_line p w) a b
line_put p h s e l = lays_as (ap₂ (λ x y. line x (numeral y)) l (ap₂ number_of (s ∙ sign_same h) e))

-- The lines of the settings before one were put.
abbrev lines_of : Tree → List Cell → List ℕ → List ℕ
lines_of t cs ks = each (λ j. setting_line (property_in t j) (cell_in cs j).word) ks

pub record Putting (t : Tree) (cs : List Cell) (start now : Output) (s : Settings) : Type 0 where
  pub tree : seen s.tree.now ≡ t
  pub going : Going (sheet t cs) start (lines_of t cs (rest s)) now

module _ (t : Tree) (cs : List Cell) where
  pub put_begins : {s : Settings} (start : Output) → Starts t 0 s → Putting t cs start start s
  unfolding sheet
  put_begins start b =
      record { tree = b.tree; going = going_as (ap (lines_of t cs) (starts_all b)) (going_begins (sheet t cs) start) }

  module _ {start now : Output} {s : Settings} (p : Putting t cs start now s) where
    pub put_on : {next : Output} {n : Settings} {k : ℕ} → Next t s k n
        → Lays (setting_line (property_in t k) (cell_in cs k).word) now next → Putting t cs start next n
    unfolding each
    put_on n q = record { tree = n.tree; going = going_more (going_as (ap (lines_of t cs) n.first) p.going) q }

    pub put_ends : rest s ≡ [] → Lays (sheet t cs) start now
    unfolding each
    put_ends h = going_ends (going_as (ap (lines_of t cs) h) p.going)
