-- No public promise is stated by these definitions: they follow the code step by step.
use Rattle.std.specs.Prelude.{ℕ, ℤ, Option, Some, None, Result, Ok, Err, IfOk, take, ◌^◌, ◌<◌, ◌≤◌, ◌≡◌, Bool, true, false, cond, not, ◌&&◌, List, length, drop, eqb}
use Rattle.protocol.specs.declared.Refusal.{Refusal}
use Rattle.protocol.specs.declared.Refusal.TheVariants.{BadIdentifier}
use Rattle.protocol.specs.Refusal.{number_told}
use Rattle.protocol.specs.Bytes.{bit}
use Rattle.protocol.specs.Signed.{Number, integer_of}
use Rattle.protocol.specs.Tree.{Tree, is_live, live_of, property_in}
use Rattle.tree.specs.Lookup.{places_in}
use Rattle.buslink.specs.declared.identifier.FrameType.{FrameType}
use Rattle.buslink.specs.declared.identifier.Station.{Station}
use Rattle.buslink.specs.declared.receive.Taken.{Taken}
use Rattle.buslink.specs.Identifier.{is_station, is_indicator_type, is_for, type_in, last_type}
use Rattle.buslink.specs.Indicator.{indicator_size, bit_available, bit_error}
use Rattle.buslink.specs.Receive.{receipt_number}
use Rattle.buslink.specs.Send.{fits}

-- A number as an integer of 32 bits, if it is one, and a value as an integer of 24 bits, if it is one.
abbrev pub NumberIs : Number → Option ℤ → Type 0
NumberIs n (Some z) = z ≡ integer_of n
NumberIs n None = (n.below ≡ false) × (2 ^ 31 ≤ n.size)

abbrev pub ValueIs : Number → Option ℤ → Type 0
ValueIs n (Some z) = (fits n ≡ true) × (z ≡ integer_of n)
ValueIs n None = fits n ≡ false

-- The place of the live property with so many before it, or one behind the last property.
pub record ProbeAt (t : Tree) (before r : ℕ) : Type 0 where
  pub rest : places_in is_live t r ≡ drop before (live_of t)
  pub live : r < length t.properties → is_live (property_in t r) ≡ true

-- Whether an indicator is usable, by its fourth byte.
abbrev pub usable_byte : ℕ → Bool
usable_byte d = bit bit_available d && not (bit bit_error d)

abbrev pub usable_bit : ℕ → ℕ
usable_bit d = cond (usable_byte d) 1 0

-- The part of a frame's data that holds indicators.
abbrev pub carried : ℕ → List ℕ → List ℕ
carried kind payload = cond (eqb kind last_type) (take indicator_size payload) payload

-- The type with a number, the station with two addresses, and the type of a frame with an identifier of a station's: or none.
abbrev pub IsType : ℕ → Result FrameType Refusal → Type 0
IsType n (Ok kind) = kind.number ≡ n
IsType n (Err e) = (is_indicator_type n ≡ false) × (e ≡ BadIdentifier)

abbrev pub IsStation : ℕ → ℕ → Result Station Refusal → Type 0
IsStation base sub (Ok s) = (s.base ≡ base) × (s.sub ≡ sub)
IsStation base sub (Err e) = (is_station base sub ≡ false) × (e ≡ BadIdentifier)

abbrev pub IsOwn : ℕ → ℕ → ℕ → Result FrameType Refusal → Type 0
IsOwn base sub i (Ok kind) = (is_for base sub i ≡ true) × (kind.number ≡ type_in i)
IsOwn base sub i (Err e) = (is_for base sub i ≡ false) × (e ≡ BadIdentifier)

-- A frame judged.
pub record JudgedIs (formed : Bool) (base sub i : ℕ) (payload : List ℕ) (r : Result Taken Refusal) : Type 0 where
  pub number : number_told r ≡ receipt_number formed base sub i payload
  pub frame : IfOk r (λ f. (f.kind.number ≡ type_in i) × (f.payload.now ≡ payload))
