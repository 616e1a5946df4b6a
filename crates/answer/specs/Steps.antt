-- No public promise is stated by these definitions: they follow the code step by step.
use Rattle.std.specs.Prelude.{ℕ, ◌≡◌, Bool, true, false, ◌&&◌, ltb, List, [], ◌∷◌, Option, Result, Ok, Err}
use Rattle.protocol.specs.declared.Refusal.{Refusal}
use Rattle.protocol.specs.Numbers.{disabled, no_action}
use Rattle.protocol.specs.Buffer.{Put}
use Rattle.protocol.specs.Request.{Asked}
use Rattle.protocol.specs.Tree.{Tree, Cell}
use Rattle.protocol.specs.Path.{failure_number}
use Rattle.protocol.specs.Answer.{outcome, write_number, action_of, Answer, refuse, refuse_at, refusal_code, if_asked}
use Rattle.request.specs.declared.Request.{Request}
use Rattle.request.specs.Asked.{asked_of}
use Rattle.cells.specs.Cells.{cells_form, cells_in}
use Rattle.reply.specs.declared.write.Outcome.{Outcome}
use Rattle.reply.specs.Outcome.{meaning}
use Rattle.answer.specs.declared.Failure.{Failure}
use Rattle.answer.specs.declared.Reply.{Reply}
use Rattle.answer.specs.Reply.{failure_told, length_missing, outcome_number, outcome_action, outcome_missing}
use Rattle.answer.specs.Serve.{action_number}

-- Whether a number is one of rows 2 to 7.
abbrev pub of_string : ℕ → Bool
of_string n = ltb 0 n && ltb n disabled

-- What was read is for the box to answer, or refused by one of those rows.
abbrev pub Hears : Result Request Refusal → Result (Unit {0}) Refusal → Type 0
Hears asked (Ok x) = of_string (asked_of asked).number ≡ false
Hears asked (Err e) = (asked ≡ Err e) × (of_string (asked_of asked).number ≡ true)

-- What was read, answered: 9 first, then 10 and 11, then 15, 16, and 12 or 13.
unfoldable pub answer_asked : Tree → List Cell → Bool → Asked → Answer
answer_asked t cs true a = if_asked outcome failure_number t cs a
answer_asked t cs false a = refuse cs disabled

-- What a write tells beside its reply.
pub record OutcomeIs (did : Outcome) (place : ℕ) (r : Result (Option ℕ) Failure) : Type 0 where
  pub number : outcome_number r ≡ write_number (meaning did)
  pub acts : outcome_action r ≡ action_number (action_of (meaning did) place)
  pub tells : outcome_missing r ≡ 0

-- A refusal of rows 1 to 8, by value: nothing written, no action, no length.
abbrev pub Rejects : ℕ → ℕ → ℕ → ℕ → ℕ → Type 0
Rejects number n size action missing = (n ≡ number) × ((size ≡ 0) × ((action ≡ no_action) × (missing ≡ 0)))

-- A failure, its code at the front of an output.
pub record Refuses (f : Failure) (out : List ℕ) (r : Reply) (out' : List ℕ) : Type 0 where
  pub is : r.outcome ≡ Err f
  pub reply : Put 0 (refusal_code (failure_told f) ∷ []) out r.len out'

-- What answering hands back and leaves, the reply at the front of an output.
pub record Answers (a : Answer) (out : List ℕ) (n size action missing : ℕ) (cells' out' : List ℕ) : Type 0 where
  pub number : n ≡ a.number
  pub reply : Put 0 a.reply out size out'
  pub acts : action ≡ action_number a.action
  pub tells : missing ≡ a.missing
  pub cells : cells' ≡ cells_form a.cells

abbrev pub Replies : Answer → List ℕ → Reply → List ℕ → List ℕ → Type 0
Replies a out r cells' out' = Answers a out (outcome_number r.outcome) r.len (outcome_action r.outcome) (outcome_missing r.outcome) cells' out'

-- A failure that is still to be answered: cells and output are as they were.
pub record Fails (a : Answer) (f : Failure) (cells out cells' out' : List ℕ) : Type 0 where
  pub is : a ≡ refuse_at (cells_in cells) (failure_told f) (length_missing f)
  pub kept : cells' ≡ cells
  pub bytes : out' ≡ out

abbrev pub Attempts : Answer → List ℕ → List ℕ → Result Reply Failure → List ℕ → List ℕ → Type 0
Attempts a cells out (Ok r) cells' out' = Replies a out r cells' out'
Attempts a cells out (Err f) cells' out' = Fails a f cells out cells' out'
