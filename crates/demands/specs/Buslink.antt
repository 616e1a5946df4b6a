-- 02, section 5, Buslink beside PDI: what the calls that send and receive frames come to.
use Rattle.std.specs.Prelude.{ℕ, ◌+◌, ◌-◌, ◌<◌, ◌≤◌, ◌≡◌, true, false, cond, List, length, get_or, take, eqb}
use Rattle.std.proofs.Math.Option.{none, some}
use Rattle.protocol.specs.Numbers.{done, bad_identifier}
use Rattle.protocol.specs.Bytes.{Bytes, bit}
use Rattle.protocol.specs.Buffer.{over}
use Rattle.protocol.specs.Bench.{bench_tree, bench_cells}
use Rattle.protocol.specs.Tree.{Tree, Cell, is_live, numbered, property_in, cell_in, reading}
use Rattle.protocol.specs.Answer.{takes_sign}
use Rattle.protocol.specs.Signed.{number_of, integer_of}
use Rattle.tree.specs.Form.{tree_form}
use Rattle.tree.specs.Seen.{seen}
use Rattle.cells.specs.Cells.{cells_form, cells_in}
use Rattle.cells.specs.Lent.{is_lent}
use Rattle.buslink.specs.declared.indicator.Indicator.{Indicator}
use Rattle.buslink.specs.Identifier.{type_in, last_type}
use Rattle.buslink.specs.Indicator.{bit_available, bit_error, blank, is_usable}
use Rattle.buslink.specs.Send.{probes_of, decimals, scaled, fits, unready, indicator_of, first_of, send_in, Sends}
use Rattle.buslink.specs.Receive.{mark, is_table, records_in, receive_list, receive_table, Receives, told_in}
use Rattle.buslink.specs.Examples.{frame_data}

-- A call that sends a frame, and one that receives one into a table.
abbrev pub SendsFrame : List ℕ → List ℕ → ℕ → ℕ → ℕ → List ℕ → ℕ → ℕ → List ℕ → Type 0
SendsFrame tree cells base sub kind old n i new = Sends (send_in tree cells base sub kind (length old)) old n i new

abbrev pub ReceivesFrame : ℕ → ℕ → ℕ → List ℕ → List ℕ → ℕ → ℕ → List ℕ → Type 0
ReceivesFrame base sub i payload table n usable table' = Receives (receive_table base sub i payload table) n usable table'

-- The record of the indicator with a number.
abbrev pub record_of : List ℕ → ℕ → Indicator
record_of table n = get_or (records_in table) (n - 1) blank

-- The indicators that a frame of a type carries: 2y - 3 and, but for type 9, the next.
pub data Carries (kind : ℕ) (n : ℕ) : Type 0 where
  first : n ≡ first_of kind → Carries kind n
  second : n ≡ first_of kind + 1 → (kind ≡ last_type → ⊥) → Carries kind n

-- What arrives of a frame sent for some probes: 0, each record that it carries holds what was sent and is told when it is asked for,
-- the others stay, and the mask says which of those carried are usable.
pub record Arrives (t : Tree) (cs : List Cell) (kind : ℕ) (table : List ℕ) (n usable : ℕ) (table' : List ℕ) : Type 0 where
  pub number : n ≡ done
  pub carried : (m : ℕ) → Carries kind m → record_of table' m ≡ indicator_of t cs m
  pub told : (m : ℕ) → Carries kind m → told_in table' m ≡ record { number = done; indicator = indicator_of t cs m }
  pub others : (m : ℕ) → 0 < m → (Carries kind m → ⊥) → record_of table' m ≡ record_of table m
  pub marks : usable
      ≡ mark (first_of kind - 1) (indicator_of t cs (first_of kind))
      + cond (eqb kind last_type) 0 (mark (first_of kind) (indicator_of t cs (first_of kind + 1)))
  pub whole : is_table table' ≡ true

-- Two lists of cells that differ in nothing that a live property tells: the word of one that is not ready is free.
pub record AlikeButUnready (t : Tree) (cs ds : List Cell) : Type 0 where
  pub marks : (k : ℕ) → is_live (property_in t k) ≡ true → (cell_in cs k).ready ≡ (cell_in ds k).ready
  pub words : (k : ℕ) → is_live (property_in t k) ≡ true → (cell_in cs k).ready ≡ true → (cell_in cs k).word ≡ (cell_in ds k).word

-- What indicator n shows of the probe at a place.
pub record Shows (t : Tree) (cs : List Cell) (n place : ℕ) : Type 0 where
  pub format : (indicator_of t cs n).format ≡ decimals (property_in t place)
  -- A reading whose value fits is usable, and is that value.
  pub value : {w : ℕ} → reading (property_in t place) (cell_in cs place) ≡ some w
      → fits (scaled (decimals (property_in t place)) (number_of (takes_sign (property_in t place)) w)) ≡ true
      → (integer_of (number_of true (indicator_of t cs n).value) ≡ integer_of (scaled (decimals (property_in t place)) (number_of (takes_sign (property_in t place)) w)))
      × (is_usable (indicator_of t cs n) ≡ true)
  -- One beyond 24 bits is 0 and not usable.
  pub beyond : {w : ℕ} → reading (property_in t place) (cell_in cs place) ≡ some w
      → fits (scaled (decimals (property_in t place)) (number_of (takes_sign (property_in t place)) w)) ≡ false
      → ((indicator_of t cs n).value ≡ 0) × (is_usable (indicator_of t cs n) ≡ false)
  -- A probe that is not ready sends 0, and is not usable.
  pub silent : is_live (property_in t place) ≡ true → (cell_in cs place).ready ≡ false
      → (indicator_of t cs n ≡ unready (decimals (property_in t place))) × (is_usable (indicator_of t cs n) ≡ false)

pub record BuslinkKeeps : Type 0 where
  -- What is sent for a station is received by it, and by no other.
  pub arrives : (tree cells old : List ℕ) (base sub kind : ℕ) {i : ℕ} {new : List ℕ} → Bytes cells → SendsFrame tree cells base sub kind old done i new
      → (table : List ℕ) {n usable : ℕ} {table' : List ℕ} → is_table table ≡ true → ReceivesFrame base sub i (take 8 new) table n usable table'
      → Arrives (seen tree) (cells_in cells) kind table n usable table'
  pub elsewhere : (tree cells old : List ℕ) (base sub kind : ℕ) {i : ℕ} {new : List ℕ} → SendsFrame tree cells base sub kind old done i new
      → (base₂ sub₂ : ℕ) → ((base ≡ base₂) × (sub ≡ sub₂) → ⊥) → (payload table : List ℕ) {n usable : ℕ} {table' : List ℕ} → is_table table ≡ true
      → ReceivesFrame base₂ sub₂ i payload table n usable table' → (n ≡ bad_identifier) × ((usable ≡ 0) × (table' ≡ table))
  -- Which values, formats and marks those are.
  pub shows : (tree cells : List ℕ) (n : ℕ) {place : ℕ} → Bytes cells → numbered (probes_of (seen tree)) n ≡ some place → Shows (seen tree) (cells_in cells) n place
  pub shows_none : (tree cells : List ℕ) (n : ℕ) → numbered (probes_of (seen tree)) n ≡ none → indicator_of (seen tree) (cells_in cells) n ≡ blank
  -- Of any frame: records that it does not carry stay, and a refusal changes none.
  pub stay : (base sub i : ℕ) (payload table : List ℕ) {n usable : ℕ} {table' : List ℕ} → ReceivesFrame base sub i payload table n usable table'
      → (m : ℕ) → 0 < m → (Carries (type_in i) m → ⊥) → record_of table' m ≡ record_of table m
  pub refused : (base sub i : ℕ) (payload table : List ℕ) {n usable : ℕ} {table' : List ℕ} → ReceivesFrame base sub i payload table n usable table'
      → (n ≡ done → ⊥) → (table' ≡ table) × (usable ≡ 0)
  pub unsent : (tree cells old : List ℕ) (base sub kind : ℕ) {n i : ℕ} {new : List ℕ} → SendsFrame tree cells base sub kind old n i new
      → (n ≡ done → ⊥) → (new ≡ old) × (i ≡ 0)
  -- The two forms of the records: a receipt into a table is the one into the list of records in it.
  pub same_receipt : (base sub i : ℕ) (payload table : List ℕ) {n usable : ℕ} {table' : List ℕ} → is_table table ≡ true
      → ReceivesFrame base sub i payload table n usable table' → Receives (receive_list base sub i payload (records_in table)) n usable (records_in table')
  -- The word of a probe that is not ready has no influence on what is sent.
  pub unready_silent : (tree cells cells₂ old : List ℕ) (base sub kind : ℕ) {n n₂ i i₂ : ℕ} {new new₂ : List ℕ} → is_lent tree cells ≡ true → is_lent tree cells₂ ≡ true
      → AlikeButUnready (seen tree) (cells_in cells) (cells_in cells₂) → SendsFrame tree cells base sub kind old n i new
      → SendsFrame tree cells₂ base sub kind old n₂ i₂ new₂ → (n ≡ n₂) × ((i ≡ i₂) × (new ≡ new₂))
  -- Usable exactly with AVAILABLE set and ERROR clear.
  pub usable : (i : Indicator) → is_usable i ≡ true → (bit bit_available i.status ≡ true) × (bit bit_error i.status ≡ false)
  pub usable_made : (i : Indicator) → bit bit_available i.status ≡ true → bit bit_error i.status ≡ false → is_usable i ≡ true

-- The section's example: box 1-2, probe 1 ready at 21.00 and probe 2 open, sent from the bytes of the bench tree and its cells.
abbrev pub BenchFrame : Type 0
BenchFrame =
    (old : List ℕ) (n i : ℕ) (new : List ℕ) → SendsFrame (tree_form bench_tree) (cells_form bench_cells) 1 2 2 old n i new → 8 ≤ length old
    → (n ≡ done) × ((i ≡ 0x15550202) × (new ≡ over frame_data old))
