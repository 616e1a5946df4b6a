-- 02, sections 1, 3 and 11: what a call that writes a text of any length comes to, as code has it: a length, or why nothing was written.
use Rattle.std.specs.Prelude.{ℕ, List, Result, Ok, Err}
use Rattle.protocol.specs.Numbers.{done, no_room}
use Rattle.protocol.specs.Refusal.{refusal_number}
use Rattle.protocol.specs.Frame.{Received}
use Rattle.text.specs.declared.unwritten.Unwritten.{Unwritten}
use Rattle.text.specs.declared.unwritten.Unwritten.TheVariants.{Refused, NoRoom}

-- The number of what kept a text from being written, and the length that is told with it: that of the text with 8, else none.
abbrev pub unwritten_number : Unwritten → ℕ
unwritten_number (Refused r) = refusal_number r
unwritten_number (NoRoom size) = no_room

abbrev pub unwritten_length : Unwritten → ℕ
unwritten_length (Refused r) = 0
unwritten_length (NoRoom size) = size

-- The same of what the call comes to.
abbrev pub number_written : Result ℕ Unwritten → ℕ
number_written (Ok n) = done
number_written (Err e) = unwritten_number e

abbrev pub length_written : Result ℕ Unwritten → ℕ
length_written (Ok n) = n
length_written (Err e) = unwritten_length e

-- A text that nothing keeps from being written but the room.
abbrev pub whole : List ℕ → Received
whole text = record { number = done; payload = text }
