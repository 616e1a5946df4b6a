-- Refusals: each has a number of its own, and none is 0.
-- Assumes nothing.
use Rattle.std.proofs.Common.{◌≡◌, true, ltb, refl, arith, ltb-true}
use Rattle.protocol.specs.Numbers.{done}
use Rattle.protocol.specs.declared.Refusal.{Refusal}
use Rattle.protocol.specs.declared.Refusal.TheVariants.{Unsound, NoPreamble, BadPair, TooShort, TooLong, BadChecksum, OtherAddress, NoRoom, Disabled, UnknownCommand, BadParameter, NoReading, NotSaved, NotLive, NoSuchNode, NoSuchProperty, BadSheet, NotInRange, BadIdentifier, BadLength}
use Rattle.protocol.specs.Refusal.{refusal_number}

pub refusal_above : (e : Refusal) → ltb 0 (refusal_number e) ≡ true
refusal_above Unsound = refl
refusal_above NoPreamble = refl
refusal_above BadPair = refl
refusal_above TooShort = refl
refusal_above TooLong = refl
refusal_above BadChecksum = refl
refusal_above OtherAddress = refl
refusal_above NoRoom = refl
refusal_above Disabled = refl
refusal_above UnknownCommand = refl
refusal_above BadParameter = refl
refusal_above NoReading = refl
refusal_above NotSaved = refl
refusal_above NotLive = refl
refusal_above NoSuchNode = refl
refusal_above NoSuchProperty = refl
refusal_above BadSheet = refl
refusal_above NotInRange = refl
refusal_above BadIdentifier = refl
refusal_above BadLength = refl

pub refusal_some : (e : Refusal) → refusal_number e ≡ done → ⊥
refusal_some e h = omega (arith, ltb-true 0 (refusal_number e) (refusal_above e), h)
