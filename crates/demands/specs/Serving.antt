-- Demands 1 and 2 of one serving call, by any transport.
use Rattle.std.specs.Prelude.{ℕ, ◌<◌, ◌≤◌, ◌≡◌, true, false, cond, List, [], ◌∷◌, ◌++◌, ◌⊎◌, take, eqb}
use Rattle.protocol.specs.Numbers.{done, disabled, no_reading, not_saved, no_action, BUSY, DISABLED, NAK, op_read, op_write, save_failed, save_done, save_none}
use Rattle.protocol.specs.Bytes.{Bytes, word, text}
use Rattle.protocol.specs.Buffer.{over}
use Rattle.protocol.specs.Request.{Request}
use Rattle.protocol.specs.Tree.{Tree, Cell, is_live, property_in, cell_in}
use Rattle.protocol.specs.Path.{number01}
use Rattle.protocol.specs.Answer.{Finds, ReadAs, Writes, Saves, stored, Outcome, outcome, save_byte, echo_indexed, write_reply, refusal_code}
use Rattle.tree.specs.Seen.{seen}
use Rattle.cells.specs.Cells.{cells_in}
use Rattle.answer.specs.Serve.{Call, Open}

-- The tree that a call is lent, and a cell in lent bytes.
abbrev pub tree_in : Call → Tree
tree_in k = seen k.tree

abbrev pub cell_at : List ℕ → ℕ → Cell
cell_at cells place = cell_in (cells_in cells) place

-- A call that reads a live probe that is not ready.
pub record AsksOpenProbe (k : Call) : Type 0 where
  pub request : Request
  pub place : ℕ
  pub asks : ReadAs k.string.payload request
  pub reads : request.op ≡ op_read
  pub finds : Finds (tree_in k) request place
  pub live : is_live (property_in (tree_in k) place) ≡ true
  pub not_ready : (cell_at k.cells place).ready ≡ false

-- A call that writes to the property at a place, and one whose write is accepted.
abbrev pub WritesTo : Call → Request → ℕ → Type 0
WritesTo k r place = Writes (tree_in k) k.string.payload r place

abbrev pub SavesTo : Call → ℕ → ℕ → Type 0
SavesTo k place value = Saves (tree_in k) k.string.payload place value

abbrev pub outcome_in : Call → Request → ℕ → Outcome
outcome_in k r place = outcome (property_in (tree_in k) place) r.value

-- 01, Requests and replies: the reply to a write that is accepted, with its save byte. The text of op 5 is empty.
unfoldable pub accepted_reply : Request → ℕ → List ℕ
accepted_reply r save = echo_indexed r ++ 0 ∷ (word r.value ++ save ∷ cond (eqb r.op op_write) [] (text []))

-- How the refusals of rows 9 to 13 answer, and those of 15 and 16, which document 01 has as 11: with the code of the row; or, to a
-- write that is not saved, with save 00 and, for op 5, the reason that the property it names gives.
pub data Refusal (k : Call) (n : ℕ) (out out' : List ℕ) : Type 0 where
  code : number01 n ≤ no_reading → out' ≡ over (k.form (refusal_code n ∷ [])) out → Refusal k n out out'
  not_saved_case : (r : Request) (place : ℕ) → WritesTo k r place → n ≡ not_saved → save_byte (outcome_in k r place) ≡ save_failed
      → out' ≡ over (k.form (write_reply (outcome_in k r place) r)) out → Refusal k n out out'

-- What a call keeps that hands back a number, the length of what it wrote and an action, and leaves these cells and this output.
pub record Kept (k : Call) (out : List ℕ) (n size action : ℕ) (cells' out' : List ℕ) : Type 0 where
  -- Demand 1: refusals 1 to 8 change no reading, setting or output byte.
  pub rows_1_to_8 : 0 < n → n < disabled → (cells' ≡ k.cells) × (out' ≡ out)
  -- Demand 1: refusals 9 to 13, and so 15 and 16, change no reading or setting, and write exactly the reply of their row.
  pub rows_9_to_13 : disabled ≤ n → (cells' ≡ k.cells) × Refusal k n out out'
  -- Demand 2: no request alters anything but the setting that an accepted write names.
  pub others : Bytes k.cells → (place : ℕ) → ((value : ℕ) → SavesTo k place value → ⊥)
      → cell_at cells' place ≡ cell_at k.cells place
  -- Demand 2: an accepted write is done, and the setting's cell holds the number sent, its mark as it was.
  pub writes : Bytes k.cells → Open k → k.string.number ≡ done → k.host ≡ true → (place value : ℕ) → SavesTo k place value
      → (n ≡ done) × (cell_at cells' place ≡ stored (cell_at k.cells place) value)
  -- 0 to a write is told with save byte 01 or 02.
  pub save_bytes : n ≡ done → (r : Request) (place : ℕ) → WritesTo k r place
      → (take size out' ≡ k.form (accepted_reply r save_done)) ⊎ (take size out' ≡ k.form (accepted_reply r save_none))
  -- Demand 2: 0 and save byte 01 mean that the setting's cell holds the number sent; there is no action.
  pub save_01 : Bytes k.cells → n ≡ done → (r : Request) (place : ℕ) → WritesTo k r place
      → take size out' ≡ k.form (accepted_reply r save_done)
      → (cell_at cells' place ≡ stored (cell_at k.cells place) r.value) × (action ≡ no_action)
  -- 0 and save byte 02 mean that no cell changed; the action of the property is to be taken.
  pub save_02 : n ≡ done → (r : Request) (place : ℕ) → WritesTo k r place
      → take size out' ≡ k.form (accepted_reply r save_none)
      → (cells' ≡ k.cells) × (action ≡ place)
  -- Demand 2: reading a live probe that is not ready never yields a number: nothing is written, or a code alone.
  pub open_probes : AsksOpenProbe k
      → (n ≡ done → ⊥) × ((out' ≡ out) ⊎ ((out' ≡ over (k.form (DISABLED ∷ [])) out) ⊎ (out' ≡ over (k.form (NAK ∷ [])) out)))
  -- With host functions on, and where nothing before it is refused, the answer is 58 exactly.
  pub open_probes_58 : AsksOpenProbe k → Open k → k.string.number ≡ done → k.host ≡ true
      → (n ≡ no_reading) × (out' ≡ over (k.form (NAK ∷ [])) out)
  -- No reply begins with 53h, busy.
  pub never_busy : (bs : List ℕ) → take size out' ≡ k.form (BUSY ∷ bs) → ⊥
