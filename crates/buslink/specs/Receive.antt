-- 02, section 5: what a station's receiver stores and says. The table in lent bytes is docs/FORMATS.md, Buslink records.
use Rattle.std.specs.Prelude.{ℕ, Result, Ok, Err, ◌+◌, ◌-◌, ◌*◌, ◌^◌, ◌≡◌, Bool, cond, ◌&&◌, List, length, get_or, take, drop, set, eqb, leb}
use Rattle.protocol.specs.Numbers.{done, unsound, bad_identifier, bad_length}
use Rattle.protocol.specs.Buffer.{put_at}
use Rattle.tree.specs.Seen.{records_from}
use Rattle.buslink.specs.declared.indicator.Indicator.{Indicator}
use Rattle.protocol.specs.declared.Refusal.{Refusal}
use Rattle.protocol.specs.Refusal.{refusal_number}
use Rattle.buslink.specs.Identifier.{is_station, is_for, type_in, last_type}
use Rattle.buslink.specs.Indicator.{indicators, indicator_size, blank, indicator_in, is_usable}
use Rattle.buslink.specs.Send.{first_of}

-- 1 where the records have no form, 19, 20, or 0.
unfoldable pub receipt_number : Bool → ℕ → ℕ → ℕ → List ℕ → ℕ
receipt_number formed base sub i payload =
    cond formed
    (cond (is_station base sub && is_for base sub i) (cond (eqb (length payload) 8) done bad_length) bad_identifier)
    unsound

-- The two indicators in a frame's data.
abbrev pub first_in : List ℕ → Indicator
first_in payload = indicator_in payload

abbrev pub second_in : List ℕ → Indicator
second_in payload = indicator_in (drop indicator_size payload)

-- A receipt stores each indicator that it carries, and no other; type 9 carries one. Indicator n has the record at n - 1.
abbrev pub place_of : ℕ → ℕ
place_of kind = first_of kind - 1

unfoldable pub stored : ℕ → List ℕ → List Indicator → List Indicator
stored kind payload rs =
    cond (eqb kind last_type)
    (set rs (place_of kind) (first_in payload))
    (set (set rs (place_of kind) (first_in payload)) (place_of kind + 1) (second_in payload))

-- Which of those are usable: bit n - 1 for indicator n.
abbrev pub mark : ℕ → Indicator → ℕ
mark place i = cond (is_usable i) (2 ^ place) 0

unfoldable pub usable_of : ℕ → List ℕ → ℕ
usable_of kind payload =
    mark (place_of kind) (first_in payload) + cond (eqb kind last_type) 0 (mark (place_of kind + 1) (second_in payload))

-- What a receiver answers, and its records afterwards, in whatever form they lie: what storing makes of them, or, on a refusal, as they
-- were, and nothing is usable.
pub record Receipt (A : Type 0) : Type 0 where
  pub number : ℕ
  pub usable : ℕ
  pub records : A

module _ {A : Type 0} where
  unfoldable pub received : Bool → ℕ → ℕ → ℕ → List ℕ → A → A → Receipt A
  received formed base sub i payload new old =
      cond (eqb (receipt_number formed base sub i payload) done)
      (record { number = done; usable = usable_of (type_in i) payload; records = new })
      (record { number = receipt_number formed base sub i payload; usable = 0; records = old })

  pub record Receives (what : Receipt A) (n usable : ℕ) (new : A) : Type 0 where
    pub number : n ≡ what.number
    pub usable_is : usable ≡ what.usable
    pub records : new ≡ what.records

-- Which indicators a receiver tells of: none on a refusal.
abbrev pub usable_told : Result ℕ Refusal → ℕ
usable_told (Ok usable) = usable
usable_told (Err e) = 0

-- The records as a list, one for each of the 15 indicators.
unfoldable pub receive_list : ℕ → ℕ → ℕ → List ℕ → List Indicator → Receipt (List Indicator)
receive_list base sub i payload rs =
    received (eqb (length rs) indicators) base sub i payload (stored (type_in i) payload rs) rs

-- The records as a table in lent bytes: a record is the four bytes that its indicator has on the bus, so that any 60 bytes are a table.
abbrev pub table_size : ℕ
table_size = indicators * indicator_size

unfoldable pub is_table : List ℕ → Bool
is_table bs = eqb (length bs) table_size

unfoldable pub records_in : List ℕ → List Indicator
records_in bs = records_from indicator_size indicator_in indicators bs

-- The bytes of the indicators that a frame carries, put over those of their records. (`table_stored`: the records in it are then those
-- of `stored`.)
unfoldable pub stored_in : ℕ → List ℕ → List ℕ → List ℕ
stored_in kind payload table =
    put_at (place_of kind * indicator_size) (cond (eqb kind last_type) (take indicator_size payload) payload) table

unfoldable pub receive_table : ℕ → ℕ → ℕ → List ℕ → List ℕ → Receipt (List ℕ)
receive_table base sub i payload table =
    received (is_table table) base sub i payload (stored_in (type_in i) payload table) table

-- What a table tells of an indicator: with any number but 0, nothing.
pub record Told : Type 0 where
  pub number : ℕ
  pub indicator : Indicator

-- An indicator asked for by its number: 1, 19 where it is not 1 to 15, or 0 with what its record holds.
abbrev pub untold : ℕ → Told
untold n = record { number = n; indicator = blank }

unfoldable pub told_in : List ℕ → ℕ → Told
told_in table n =
    cond (is_table table)
    (cond (leb 1 n && leb n indicators)
    (record { number = done; indicator = get_or (records_in table) (n - 1) blank })
    (untold bad_identifier))
    (untold unsound)

-- The same of what code tells.
abbrev pub told_of : Result Indicator Refusal → Told
told_of (Ok i) = record { number = done; indicator = i }
told_of (Err e) = untold (refusal_number e)
