-- 01, Numbers returned, with what 02 adds to them, as code has them: a refusal, what a call that may refuse comes to, and what may be
-- missing.
use Rattle.std.specs.Prelude.{ℕ, ◌<◌, ◌≡◌, Result, Ok, Err, Option, Some, None}
use Rattle.std.proofs.Math.Option as math
use Rattle.protocol.specs.declared.Refusal.{Refusal}
use Rattle.protocol.specs.declared.Refusal.TheVariants.{Unsound, NoPreamble, BadPair, TooShort, TooLong, BadChecksum, OtherAddress, NoRoom, Disabled, UnknownCommand, BadParameter, NoReading, NotSaved, NotLive, NoSuchNode, NoSuchProperty, BadSheet, NotInRange, BadIdentifier, BadLength}
use Rattle.protocol.specs.declared.Op.{Op}
use Rattle.protocol.specs.declared.Op.TheVariants.{Detect, Node, Record, Read, Write, WriteExtended}
use Rattle.protocol.specs.Numbers.{done, unsound, no_preamble, bad_pair, too_short, too_long, bad_checksum, other_address, no_room, disabled, unknown_command, bad_parameter, no_reading, not_saved, not_live, no_such_node, no_such_property, bad_sheet, not_in_range, bad_identifier, bad_length, op_detect, op_node, op_record, op_read, op_write, op_write_extended}

-- The number of a refusal.
abbrev pub refusal_number : Refusal → ℕ
refusal_number Unsound = unsound
refusal_number NoPreamble = no_preamble
refusal_number BadPair = bad_pair
refusal_number TooShort = too_short
refusal_number TooLong = too_long
refusal_number BadChecksum = bad_checksum
refusal_number OtherAddress = other_address
refusal_number NoRoom = no_room
refusal_number Disabled = disabled
refusal_number UnknownCommand = unknown_command
refusal_number BadParameter = bad_parameter
refusal_number NoReading = no_reading
refusal_number NotSaved = not_saved
refusal_number NotLive = not_live
refusal_number NoSuchNode = no_such_node
refusal_number NoSuchProperty = no_such_property
refusal_number BadSheet = bad_sheet
refusal_number NotInRange = not_in_range
refusal_number BadIdentifier = bad_identifier
refusal_number BadLength = bad_length

-- The number of what a call comes to: 0, or that of its refusal.
module _ {A : Type 0} where
  abbrev pub number_told : Result A Refusal → ℕ
  number_told (Ok a) = done
  number_told (Err e) = refusal_number e

-- The length of what a call wrote: none on a refusal.
abbrev pub length_told : Result ℕ Refusal → ℕ
length_told (Ok n) = n
length_told (Err e) = 0

-- A value that may be missing, as code has it.
module _ {A : Type 0} where
  abbrev pub option_of : math.Option A → Option A
  option_of math.none = None
  option_of (math.some a) = Some a

-- The number of an operation, and the operation of a number: any other is refused with 10.
abbrev pub op_number : Op → ℕ
op_number Detect = op_detect
op_number Node = op_node
op_number Record = op_record
op_number Read = op_read
op_number Write = op_write
op_number WriteExtended = op_write_extended

abbrev pub IsOp : ℕ → Result Op Refusal → Type 0
IsOp n (Ok op) = n ≡ op_number op
IsOp n (Err e) = (op_write_extended < n) × (e ≡ UnknownCommand)
