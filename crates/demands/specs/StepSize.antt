-- 02, section 6, steps: what becomes of a value that is off its step, and that with step 1 nothing changes.
use Rattle.std.specs.Prelude.{ℕ, ◌≡◌, Bool, true, false, cond, ◌&&◌, List, length, eqb, ltb, leb}
use Rattle.protocol.specs.Numbers.{done, not_saved, standard, enumeration, max_properties}
use Rattle.protocol.specs.Bytes.{Bytes, every, at_most}
use Rattle.protocol.specs.Buffer.{over}
use Rattle.protocol.specs.Request.{Request}
use Rattle.protocol.specs.Tree.{Property, Tree, Cell, can_read, can_write, is_signed, step_code, property_in, cell_in, is_name, live_sound, enumeration_sound, options_sound, widths_sound, nodes_sound, sound}
use Rattle.protocol.specs.Step.{on_step}
use Rattle.protocol.specs.Path.{failure_number}
use Rattle.protocol.specs.Answer.{in_range, Outcome, saved, taken, read_only, out_of_range, off_step, write_reply, answer_by, answer}
use Rattle.protocol.specs.Sheet.{is_setting, may_hold}
use Rattle.tree.specs.Seen.{seen}
use Rattle.cells.specs.Cells.{cells_in}
use Rattle.cells.specs.Lent.{is_lent}
use Rattle.answer.specs.Serve.{Call, Open, in_form, serving, Serves}
use Rattle.demands.specs.Serving.{tree_in, WritesTo}
use Rattle.demands.specs.Sheets.{ReadsSheet}

-- The property that a call writes to.
abbrev pub target : Call → ℕ → Property
target k place = property_in (tree_in k) place

-- A value in a property's range and on its step.
pub record Allowed (p : Property) (v : ℕ) : Type 0 where
  pub range_fits : in_range p v ≡ true
  pub step_fits : on_step p v ≡ true

-- A serving call that wrote to a setting. Off its step: 13, save 00 and for op 5 "Step", and no cell changes. A write that is
-- answered with 0 was in range and on its step.
pub record StepServed (k : Call) (out : List ℕ) (n : ℕ) (cells' out' : List ℕ) : Type 0 where
  pub off_step_case : Open k → k.string.number ≡ done → k.host ≡ true → (r : Request) (place : ℕ) → WritesTo k r place
      → is_setting (target k place) ≡ true → in_range (target k place) r.value ≡ true → on_step (target k place) r.value ≡ false
      → (n ≡ not_saved) × ((cells' ≡ k.cells) × (out' ≡ over (k.form (write_reply off_step r)) out))
  pub accepted : n ≡ done → (r : Request) (place : ℕ) → WritesTo k r place → is_setting (target k place) ≡ true
      → Allowed (target k place) r.value

-- Document 01 as it was: no code breaks a tree, and a write is tested for write attribute and range alone.
unfoldable pub kind_sound01 : Property → Bool
kind_sound01 p =
    cond (eqb p.kind standard)
    (eqb (length p.options) 1 && at_most (is_signed p) p.min p.max)
    (eqb p.kind enumeration && enumeration_sound p)

unfoldable pub property_sound01 : ℕ → Property → Bool
property_sound01 nodes p =
    ltb p.node nodes
    && (widths_sound p && (live_sound p && (kind_sound01 p && (is_name p.label && options_sound p.options))))

unfoldable pub sound01 : Tree → Bool
sound01 t =
    nodes_sound t.nodes
    && (leb (length t.properties) max_properties && every (property_sound01 (length t.nodes)) t.properties)

unfoldable pub outcome01 : Property → ℕ → Outcome
outcome01 p v = cond (can_write p) (cond (can_read p) (cond (in_range p v) saved out_of_range) taken) read_only

-- Step 1: step code 0, or a type that has no step.
unfoldable pub is_by_one : Property → Bool
is_by_one p = cond (eqb p.kind standard) (eqb (step_code p) 0) true

-- A tree is sound, data is answered, and settings may hold words, as before.
pub record AsBefore (t : Tree) : Type 0 where
  pub rules : sound t ≡ sound01 t
  pub answers : (cs : List Cell) (host : Bool) (bs : List ℕ) → answer t cs host bs ≡ answer_by outcome01 failure_number t cs host bs
  pub settings : (k v : ℕ) → may_hold (property_in t k) v ≡ in_range (property_in t k) v

pub record StepsKeep : Type 0 where
  pub served : (k : Call) {out cells' out' : List ℕ} {n size action missing : ℕ} → Serves (serving k) out n size action missing cells' out'
      → StepServed k out n cells' out'
  -- Once a sheet is read, every setting holds a word in range and on its step.
  pub loaded : (tree cells bs : List ℕ) {cells' : List ℕ} → Bytes cells → is_lent tree cells ≡ true → ReadsSheet tree cells bs done cells'
      → (k : ℕ) → is_setting (property_in (seen tree) k) ≡ true → Allowed (property_in (seen tree) k) (cell_in (cells_in cells') k).word
  -- With step 1 nothing changes: of a tree, and of a serving call over its bytes that is refused with none of rows 1 to 8.
  pub step_1 : (t : Tree) → every is_by_one t.properties ≡ true → AsBefore t
  pub step_1_served : (k : Call) → every is_by_one (tree_in k).properties ≡ true → Open k → k.string.number ≡ done
      → serving k ≡ in_form k.form (answer_by outcome01 failure_number (tree_in k) (cells_in k.cells) k.host k.string.payload)
