-- 02, section 5: stations, frame types and identifiers.
use Rattle.std.specs.Prelude.{ℕ, ◌+◌, ◌-◌, ◌*◌, ◌/◌, ◌%◌, ◌^◌, Bool, ◌&&◌, eqb, leb}

-- A station: base address 1 to 8, sub address 1 to 5.
unfoldable pub is_station : ℕ → ℕ → Bool
is_station base sub = leb 1 base && (leb base 8 && (leb 1 sub && leb sub 5))

-- The frame types that carry indicators: 2 to 9.
abbrev pub first_type : ℕ
first_type = 2

abbrev pub last_type : ℕ
last_type = 9

unfoldable pub is_indicator_type : ℕ → Bool
is_indicator_type kind = leb first_type kind && leb kind last_type

-- 15550000h, the type in bits 8 to 11, plus 5 times (base address less 1) plus sub address.
unfoldable pub identifier : ℕ → ℕ → ℕ → ℕ
identifier base sub kind = 0x15550000 + kind * 2 ^ 8 + 5 * (base - 1) + sub

-- Bits 8 to 11 of an identifier.
abbrev pub type_in : ℕ → ℕ
type_in i = i / 2 ^ 8 % 2 ^ 4

-- A station's identifier of a type 2 to 9. (`for_station` and `station_for`: there is a type of which it is the identifier.)
unfoldable pub is_for : ℕ → ℕ → ℕ → Bool
is_for base sub i = is_indicator_type (type_in i) && eqb i (identifier base sub (type_in i))
