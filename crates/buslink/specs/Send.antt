-- 02, section 5: what a station sends.
use Rattle.std.specs.Prelude.{ℕ, Result, Ok, Err, ◌+◌, ◌-◌, ◌*◌, ◌%◌, ◌^◌, ◌≡◌, Bool, cond, ◌&&◌, List, [], ◌++◌, take, eqb, ltb, leb}
use Rattle.std.proofs.Math.Option.{Option, none, some}
use Rattle.protocol.specs.declared.Refusal.{Refusal}
use Rattle.protocol.specs.Numbers.{done, unsound, no_room, bad_identifier}
use Rattle.protocol.specs.Buffer.{over}
use Rattle.protocol.specs.Tree.{Property, Tree, Cell, live_of, numbered, property_in, cell_in, reading}
use Rattle.protocol.specs.Answer.{takes_sign}
use Rattle.protocol.specs.Signed.{Number, number_of, word_for}
use Rattle.tree.specs.Seen.{seen}
use Rattle.cells.specs.Cells.{cells_in}
use Rattle.cells.specs.Lent.{is_lent}
use Rattle.buslink.specs.declared.indicator.Indicator.{Indicator}
use Rattle.buslink.specs.Identifier.{is_station, is_indicator_type, identifier}
use Rattle.buslink.specs.Indicator.{indicators, available, error, raw, blank, bytes_of}

-- The probes: the first 15 live properties.
unfoldable pub probes_of : Tree → List ℕ
probes_of t = take indicators (live_of t)

-- 003, 5.3: the decimals code, bits 2 to 0 of a property's format.
abbrev pub decimals : Property → ℕ
decimals p = p.format % 2 ^ 3

-- The value is ten times the number; with code 7 the number itself.
unfoldable pub scaled : ℕ → Number → Number
scaled code n = cond (eqb code raw) n (record { below = n.below; size = n.size * 10 })

-- 24 bits, signed: -2^23 to 2^23 - 1.
unfoldable pub fits : Number → Bool
fits n = cond n.below (leb n.size (2 ^ 23)) (ltb n.size (2 ^ 23))

-- A value as it is sent: beyond 24 bits it is 0, with AVAILABLE and ERROR.
unfoldable pub valued : ℕ → Number → Indicator
valued code n =
    cond (fits n)
    (record { value = word_for n; status = available; format = code })
    (record { value = 0; status = available + error; format = code })

-- A probe that has no reading sends 0 with both clear. Its word, signed as in the range rule, is looked at where it has one.
abbrev pub unready : ℕ → Indicator
unready code = record { value = 0; status = 0; format = code }

abbrev pub shown : Property → Option ℕ → Indicator
shown p none = unready (decimals p)
shown p (some w) = valued (decimals p) (scaled (decimals p) (number_of (takes_sign p) w))

unfoldable pub probe_indicator : Tree → List Cell → ℕ → Indicator
probe_indicator t cs place = shown (property_in t place) (reading (property_in t place) (cell_in cs place))

-- An indicator without a probe is all zero. The first indicator has the number 1.
abbrev pub or_blank : Tree → List Cell → Option ℕ → Indicator
or_blank t cs none = blank
or_blank t cs (some place) = probe_indicator t cs place

unfoldable pub indicator_of : Tree → List Cell → ℕ → Indicator
indicator_of t cs n = or_blank t cs (numbered (probes_of t) n)

-- 000, 4.5: a frame of type y carries the indicators 2y - 3 and 2y - 2. (There is no indicator 16: `last_zeros`, type 9 ends in four
-- zeros.)
abbrev pub first_of : ℕ → ℕ
first_of kind = 2 * kind - 3

unfoldable pub data_of : Tree → List Cell → ℕ → List ℕ
data_of t cs kind = bytes_of (indicator_of t cs (first_of kind)) ++ bytes_of (indicator_of t cs (first_of kind + 1))

-- 1, 8 under 8 bytes of room, 19, or 0 with the identifier and the data.
pub record Sent : Type 0 where
  pub number : ℕ
  pub identifier : ℕ
  pub payload : List ℕ

abbrev pub unsent : ℕ → Sent
unsent n = record { number = n; identifier = 0; payload = [] }

unfoldable pub send_in : List ℕ → List ℕ → ℕ → ℕ → ℕ → ℕ → Sent
send_in tree cells base sub kind room =
    cond (is_lent tree cells)
    (cond (ltb room 8)
    (unsent no_room)
    (cond (is_station base sub && is_indicator_type kind)
    (record { number = done; identifier = identifier base sub kind; payload = data_of (seen tree) (cells_in cells) kind })
    (unsent bad_identifier)))
    (unsent unsound)

-- What a call returns and leaves: number, identifier, and every byte of the output.
pub record Sends (what : Sent) (old : List ℕ) (n identifier : ℕ) (new : List ℕ) : Type 0 where
  pub number : n ≡ what.number
  pub identifier_is : identifier ≡ what.identifier
  pub bytes : new ≡ over what.payload old

-- The identifier that a call tells: 0 on a refusal.
abbrev pub identifier_told : Result ℕ Refusal → ℕ
identifier_told (Ok i) = i
identifier_told (Err e) = 0
