-- The C interface: what it takes for host functions and marks, what begins in a lent buffer, and what is handed back beside a
-- number.
use Rattle.std.specs.Prelude.{ℕ, ◌*◌, ◌≡◌, Bool, true, cond, not, ◌&&◌, List, length, take, drop, replicate, eqb, ℤ, Result, Ok, Err}
use Rattle.std.proofs.Math.Option.{none, some}
use Rattle.protocol.specs.declared.Refusal.{Refusal}
use Rattle.protocol.specs.Refusal.{refusal_number}
use Rattle.cells.specs.Lent.{Read}
use Rattle.protocol.specs.Numbers.{done, unsound}
use Rattle.protocol.specs.Frame.{Received}
use Rattle.protocol.specs.Request.{Request, Asked}
use Rattle.protocol.specs.Signed.{number_of, integer_of}
use Rattle.stream.specs.State.{state_length}
use Rattle.request.specs.Asked.{padded}
use Rattle.cells.specs.Cells.{cell_size}
use Rattle.buslink.specs.Receive.{Told}
use Rattle.tree.specs.Seen.{seen}
use Rattle.soundness.specs.Sound.{is_tree}

-- A number as a truth: 0 is no, any other yes.
abbrev pub truth : ℕ → Bool
truth n = not (eqb n 0)

-- The value of what a call comes to; with a refusal, one that stands for none.
module _ {A : Type 0} where
  abbrev pub value_told : A → Result A Refusal → A
  value_told nothing (Ok a) = a
  value_told nothing (Err e) = nothing

-- House: a reading asked for by place, as code has it: its number, or why there is none.
abbrev pub ReadIs : Read → Result ℕ Refusal → Type 0
ReadIs what (Ok n) = what ≡ record { number = done; word = some n }
ReadIs what (Err e) = what ≡ record { number = refusal_number e; word = none }

-- A buffer that is filled with zeros where it has the right length, and else refused with 1.
pub record Zeroes (right : Bool) (size : ℕ) (old : List ℕ) (n : ℕ) (new : List ℕ) : Type 0 where
  pub number : n ≡ cond right done unsound
  pub bytes : new ≡ cond right (replicate size 0) old

-- The state in which a stream begins.
abbrev pub is_state_sized : List ℕ → Bool
is_state_sized state = eqb (length state) state_length

-- How many bytes the cells of a tree take; 0 where bytes stand for no tree.
unfoldable pub cells_size : List ℕ → ℕ
cells_size tree = cond (is_tree tree) (length (seen tree).properties * cell_size) 0

-- Cells of the right number for a tree.
abbrev pub is_cells_sized : List ℕ → List ℕ → Bool
is_cells_sized tree cells = is_tree tree && eqb (length cells) (cells_size tree)

-- A tree alone: row 1, or 0.
unfoldable pub tree_number : List ℕ → ℕ
tree_number tree = cond (is_tree tree) done unsound

-- A request's fields, as C is handed them: op, 16 bytes of path, its length, index and value.
pub record Handed : Type 0 where
  pub op : ℕ
  pub path : List ℕ
  pub path_len : ℕ
  pub index : ℕ
  pub value : ℕ

abbrev pub handed : ℕ → List ℕ → ℕ → ℕ → ℕ → Handed
handed op path path_len index value =
    record { op = op; path = path; path_len = path_len; index = index; value = value }

abbrev pub fields_of : Request → Handed
fields_of r = handed r.op (padded r.path) (length r.path) r.index r.value

-- 01, Requests and replies: with 0, and only then, a string is read as a request. Its fields are handed back; with any other number
-- what lay there is left as it was.
pub record HandsBack (a : Asked) (old : Handed) (n : ℕ) (new : Handed) : Type 0 where
  pub number : n ≡ a.number
  pub fields : new ≡ cond (eqb a.number done) (fields_of a.request) old

-- 01, Frames on the wire: a good datagram's data is that part of the datagram itself, told by where it begins and how long it is; a
-- refused one's is an empty part, 0 and 0.
pub record Locates (what : Received) (s : List ℕ) (n offset len : ℕ) : Type 0 where
  pub number : n ≡ what.number
  pub offset_is : offset ≡ cond (eqb what.number done) 4 0
  pub len_is : len ≡ length what.payload
  pub part : take len (drop offset s) ≡ what.payload

-- 02, section 5: what a table of records tells of an indicator: its value as a signed integer, status and format; with any other number
-- than 0 what lay there is left as it was.
pub record Tells (what : Told) (value : ℤ) (status format n : ℕ) (value' : ℤ) (status' format' : ℕ) : Type 0 where
  pub number : n ≡ what.number
  pub value_is : value' ≡ cond (eqb what.number done) (integer_of (number_of true what.indicator.value)) value
  pub status_is : status' ≡ cond (eqb what.number done) what.indicator.status status
  pub format_is : format' ≡ cond (eqb what.number done) what.indicator.format format
