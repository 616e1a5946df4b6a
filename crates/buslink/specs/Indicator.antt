-- 02, section 5, and 000, 4.6 to 4.8: an indicator, and its four bytes.
use Rattle.std.specs.Prelude.{ℕ, ◌+◌, ◌-◌, ◌*◌, ◌/◌, ◌%◌, ◌^◌, Bool, cond, not, ◌&&◌, List, [], ◌∷◌, get_or, ltb}
use Rattle.protocol.specs.Numbers.{word_end}
use Rattle.protocol.specs.Bytes.{bit}
use Rattle.buslink.specs.declared.indicator.Indicator.{Indicator}

-- How many indicators a station has, and how many bytes each takes.
abbrev pub indicators : ℕ
indicators = 15

abbrev pub indicator_size : ℕ
indicator_size = 4

-- 000, 4.7: the two status bits that decide, by their place in the fourth byte, and the byte of each alone.
abbrev pub bit_available : ℕ
bit_available = 7

abbrev pub bit_error : ℕ
bit_error = 6

abbrev pub available : ℕ
available = 2 ^ bit_available

abbrev pub error : ℕ
error = 2 ^ bit_error

-- 000, 4.8: the format of raw data.
abbrev pub raw : ℕ
raw = 7

-- An indicator's value is a word of 32 bits, signed; its status is as the bits stand in the fourth byte; its format has three bits.
abbrev pub blank : Indicator
blank = record { value = 0; status = 0; format = 0 }

-- The four bytes: 24 bits of the value, the low byte first; then status and format together.
unfoldable pub bytes_of : Indicator → List ℕ
bytes_of i =
    i.value % 2 ^ 8 ∷ i.value / 2 ^ 8 % 2 ^ 8 ∷ i.value / 2 ^ 16 % 2 ^ 8 ∷ (i.status + i.format) ∷ []

-- 24 bits as a word: the sign bit, bit 23, stands in all bits above it too.
unfoldable pub extended : ℕ → ℕ
extended v = cond (ltb v (2 ^ 23)) v (v + (word_end - 2 ^ 24))

-- The indicator in the four bytes at the front of some bytes: the upper five bits of the fourth are the status, the lower three
-- the format.
unfoldable pub indicator_in : List ℕ → Indicator
indicator_in bs =
    record {
      value = extended (get_or bs 0 0 + get_or bs 1 0 * 2 ^ 8 + get_or bs 2 0 * 2 ^ 16);
      status = get_or bs 3 0 / 2 ^ 3 * 2 ^ 3;
      format = get_or bs 3 0 % 2 ^ 3;
    }

-- Usable exactly with AVAILABLE set and ERROR clear.
unfoldable pub is_usable : Indicator → Bool
is_usable i = bit bit_available i.status && not (bit bit_error i.status)
