-- 01, Numbers returned: what a serving call comes to, as code has it, and what C is told of it.
use Rattle.std.specs.Prelude.{ℕ, Option, Some, None, Result, Ok, Err}
use Rattle.protocol.specs.declared.Refusal.{Refusal}
use Rattle.protocol.specs.Numbers.{done, no_action, no_such_node}
use Rattle.protocol.specs.Refusal.{refusal_number}
use Rattle.answer.specs.declared.Failure.{Failure}
use Rattle.answer.specs.declared.Failure.TheVariants.{NoNode, Refused}
use Rattle.answer.specs.declared.Reply.{Reply}

-- The number of a failure, and (02, section 7) the length that is told with it.
abbrev pub failure_told : Failure → ℕ
failure_told (NoNode len) = no_such_node
failure_told (Refused e) = refusal_number e

abbrev pub length_missing : Failure → ℕ
length_missing (NoNode len) = len
length_missing (Refused e) = 0

-- What a reply tells: its number, the place of the property whose action is to be taken, and that length.
abbrev pub outcome_number : Result (Option ℕ) Failure → ℕ
outcome_number (Ok action) = done
outcome_number (Err f) = failure_told f

abbrev pub outcome_action : Result (Option ℕ) Failure → ℕ
outcome_action (Ok None) = no_action
outcome_action (Ok (Some place)) = place
outcome_action (Err f) = no_action

abbrev pub outcome_missing : Result (Option ℕ) Failure → ℕ
outcome_missing (Ok action) = 0
outcome_missing (Err f) = length_missing f

-- The same of a serving call, which rows 1 to 8 refuse with no reply.
abbrev pub served_number : Result Reply Refusal → ℕ
served_number (Ok r) = outcome_number r.outcome
served_number (Err e) = refusal_number e

abbrev pub served_length : Result Reply Refusal → ℕ
served_length (Ok r) = r.len
served_length (Err e) = 0

abbrev pub served_action : Result Reply Refusal → ℕ
served_action (Ok r) = outcome_action r.outcome
served_action (Err e) = no_action

abbrev pub served_missing : Result Reply Refusal → ℕ
served_missing (Ok r) = outcome_missing r.outcome
served_missing (Err e) = 0
