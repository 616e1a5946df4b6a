-- What the calls of Buslink come to, proved from what they promise.
-- Assumes nothing.
use Prim.Native.Nat.{ℕ, ◌+◌, ◌-◌, ◌<◌, ◌≤◌}
use native.Mathlib.Omega.{arith}
use mathlib.Core.Path.{◌≡◌, refl, sym, ap, ap₂, subst, ◌∙◌}
use mathlib.Core.Bool.{Bool, true, false, cond, not, ◌&&◌, and-false}
use mathlib.Core.List.{List, ◌++◌}
use mathlib.Core.Option.{Option, none, some}
use borrow.Author.Tests.{eq-eqb, ne_eqb, eqb-true, eqb-false, le-leb, le-ltb, not-true}
use lib.ListN.{length, get_or, take}
use lib.Dec.{eqb, ltb}
use Rattle.protocol.specs.Numbers.{done, bad_identifier, word_end}
use Rattle.protocol.specs.Bytes.{Bytes, every, bit}
use Rattle.protocol.specs.Buffer.{over}
use Rattle.protocol.specs.Bench.{bench_tree, bench_cells}
use Rattle.protocol.specs.Tree.{Property, Tree, Cell, can_read, is_live, numbered, property_in, cell_in, readable, reading}
use Rattle.protocol.specs.Signed.{number_of, integer_of}
use Rattle.protocol.proofs.TestLaws.{and_left, and_right, and_both}
use Rattle.protocol.proofs.BufferLaws.{over_nil, over_front}
use Rattle.protocol.proofs.RuleLaws.{bench_sound, bench_cells_sound, reading_some, no_reading_lem}
use Rattle.tree.specs.Form.{tree_form}
use Rattle.tree.specs.Seen.{seen}
use Rattle.cells.specs.Cells.{cells_form, cells_in}
use Rattle.cells.specs.Lent.{is_lent}
use Rattle.cells.proofs.CellLaws.{cells_fit}
use Rattle.buslink.specs.declared.indicator.Indicator.{Indicator}
use Rattle.buslink.specs.Identifier.{is_station, is_indicator_type, identifier, type_in, is_for, last_type}
use Rattle.buslink.specs.Indicator.{indicators, bit_available, bit_error, blank, bytes_of, is_usable}
use Rattle.buslink.specs.Send.{probes_of, decimals, shown, unready, probe_indicator, or_blank, indicator_of, first_of, data_of, Sent, unsent, send_in, Sends}
use Rattle.buslink.specs.Receive.{receipt_number, place_of, mark, usable_of, stored, received, Receives, receive_list, receive_table, is_table, records_in, stored_in, told_in}
use Rattle.buslink.specs.Examples.{frame_data}
use Rattle.buslink.proofs.IdentifierLaws.{station_parts, type_parts, type_in_lem, station_for, for_station, same_station}
use Rattle.buslink.proofs.SendLaws.{probe_live}
use Rattle.buslink.proofs.ReceiveLaws.{judged_parts}
use Rattle.buslink.proofs.ArriveLaws.{word_small, sent_format, fitting_sent, beyond_sent, first_arrives, second_arrives, data-length, table_stored, stored_whole, records_count, first_stored, second_stored, others_stored}
use Rattle.buslink.proofs.ExampleLaws.{bench_data}
use Rattle.demands.specs.Buslink.Carries.{first, second}
use Rattle.demands.specs.Buslink.{SendsFrame, ReceivesFrame, record_of, Carries, Arrives, AlikeButUnready, Shows, BuslinkKeeps, BenchFrame}
use Rattle.demands.proofs.Forms.{tree_read, cells_read, forms_lent}

-- What a frame that was sent rests on.
pub record SentWith (tree cells : List ℕ) (base sub kind room : ℕ) : Type 0 where
  pub lent : is_lent tree cells ≡ true
  pub station : is_station base sub ≡ true
  pub typed : is_indicator_type kind ≡ true
  pub is : send_in tree cells base sub kind room
      ≡ record { number = done; identifier = identifier base sub kind; payload = data_of (seen tree) (cells_in cells) kind }

module _ (tree cells : List ℕ) (base sub kind room : ℕ) where
  sent_with : done ≡ (send_in tree cells base sub kind room).number → SentWith tree cells base sub kind room
  unfolding send_in
  sent_with = go (is_lent tree cells) refl (ltb room 8) refl (is_station base sub && is_indicator_type kind) refl
    where
      go : (a : Bool) → is_lent tree cells ≡ a → (b : Bool) → ltb room 8 ≡ b → (c : Bool) → (is_station base sub && is_indicator_type kind) ≡ c
          → done ≡ (send_in tree cells base sub kind room).number → SentWith tree cells base sub kind room
      go true a false b true c =
          λ h.
          record {
            lent = a;
            station = and_left (is_station base sub) _ c;
            typed = and_right (is_station base sub) _ c;
            is = rw (a, b, c) refl;
          }
      go true a false b false c = rw (a, b, c) (λ h. absurd (omega (arith, h)))
      go true a true b c d = rw (a, b) (λ h. absurd (omega (arith, h)))
      go false a b c d e = rw a (λ h. absurd (omega (arith, h)))

  -- A refusal has no identifier and no data.
  sent_not : ((send_in tree cells base sub kind room).number ≡ done → ⊥) → send_in tree cells base sub kind room ≡ unsent (send_in tree cells base sub kind room).number
  unfolding send_in
  sent_not = go (is_lent tree cells) refl (ltb room 8) refl (is_station base sub && is_indicator_type kind) refl
    where
      go : (a : Bool) → is_lent tree cells ≡ a → (b : Bool) → ltb room 8 ≡ b → (c : Bool) → (is_station base sub && is_indicator_type kind) ≡ c
          → ((send_in tree cells base sub kind room).number ≡ done → ⊥) → send_in tree cells base sub kind room ≡ unsent (send_in tree cells base sub kind room).number
      go true a false b true c = rw (a, b, c) (λ h. absurd (h refl))
      go true a false b false c = rw (a, b, c) (λ h. refl)
      go true a true b c d = rw (a, b) (λ h. refl)
      go false a b c d e = rw a (λ h. refl)

-- What a receipt did: the frame was this station's and its indicators were stored, or all is as it was.
pub record Taken (i : ℕ) (payload table : List ℕ) (usable : ℕ) (table' : List ℕ) : Type 0 where
  pub whole : is_table table ≡ true
  pub typed : is_indicator_type (type_in i) ≡ true
  pub eight : length payload ≡ 8
  pub mask : usable ≡ usable_of (type_in i) payload
  pub bytes : table' ≡ stored_in (type_in i) payload table

abbrev told : ℕ → ℕ → ℕ → List ℕ → List ℕ → ℕ
told base sub i payload table = receipt_number (is_table table) base sub i payload

module _ (base sub i : ℕ) (payload table : List ℕ) {n usable : ℕ} {table' : List ℕ} where
  taken : told base sub i payload table ≡ done → ReceivesFrame base sub i payload table n usable table' → (n ≡ done) × Taken i payload table usable table'
  unfolding receive_table received
  taken good =
      let parts = judged_parts (is_table table) base sub i payload good in
      rw (eq-eqb (told base sub i payload table) done good)
      (λ r. (r.number, record { whole = parts.0; typed = parts.1.0; eight = parts.1.1; mask = r.usable_is; bytes = r.records }))

  untaken : (told base sub i payload table ≡ done → ⊥) → ReceivesFrame base sub i payload table n usable table' → (n ≡ told base sub i payload table) × ((usable ≡ 0) × (table' ≡ table))
  unfolding receive_table received
  untaken bad = rw (ne_eqb (told base sub i payload table) done bad) (λ r. (r.number, (r.usable_is, r.records)))

  refused : ReceivesFrame base sub i payload table n usable table' → (n ≡ done → ⊥) → (table' ≡ table) × (usable ≡ 0)
  refused r h = go (eqb (told base sub i payload table) done) refl
    where
      go : (t : Bool) → eqb (told base sub i payload table) done ≡ t → (table' ≡ table) × (usable ≡ 0)
      go true e = absurd (h (taken (eqb-true (told base sub i payload table) done e) r).0)
      go false e = let all = untaken (eqb-false (told base sub i payload table) done e) r in (all.1.1, all.1.0)

-- The records that a frame does not carry.
beside : (kind : ℕ) (payload : List ℕ) (rs : List Indicator) → is_indicator_type kind ≡ true → length rs ≡ indicators → (m : ℕ) → 0 < m → (Carries kind m → ⊥)
    → get_or (stored kind payload rs) (m - 1) blank ≡ get_or rs (m - 1) blank
beside kind payload rs typed count m h absent =
    let low : 2 ≤ kind = (type_parts kind typed).0 in
    others_stored kind payload rs blank typed count (m - 1) (λ e. absent (first (omega (arith, e, h, low))))
    (λ e later. absent (second (omega (arith, e, h, low)) later))

module _ (base sub i : ℕ) (payload table : List ℕ) {n usable : ℕ} {table' : List ℕ} (r : ReceivesFrame base sub i payload table n usable table') where
  stay : (m : ℕ) → 0 < m → (Carries (type_in i) m → ⊥) → record_of table' m ≡ record_of table m
  stay m h c = go (eqb (told base sub i payload table) done) refl
    where
      go : (t : Bool) → eqb (told base sub i payload table) done ≡ t → record_of table' m ≡ record_of table m
      go true e =
          let all = (taken base sub i payload table (eqb-true _ done e) r).1 in
          ap (λ l. record_of l m) all.bytes
          ∙ ap (λ rs. get_or rs (m - 1) blank) (table_stored (type_in i) payload table all.typed all.eight all.whole)
          ∙ beside (type_in i) payload (records_in table) all.typed (records_count table) m h c
      go false e = ap (λ l. record_of l m) (untaken base sub i payload table (eqb-false _ done e) r).1.1

  same_receipt : is_table table ≡ true → Receives (receive_list base sub i payload (records_in table)) n usable (records_in table')
  unfolding receive_list received
  same_receipt whole = rw formed (go (eqb (told base sub i payload table) done) refl)
    where
      formed : eqb (length (records_in table)) indicators ≡ is_table table
      formed = eq-eqb (length (records_in table)) indicators (records_count table) ∙ sym whole

      go : (t : Bool) → eqb (told base sub i payload table) done ≡ t
          → Receives (received (is_table table) base sub i payload (stored (type_in i) payload (records_in table)) (records_in table)) n usable (records_in table')
      go true e =
          let all = taken base sub i payload table (eqb-true _ done e) r in
          rw e
          (record {
            number = all.0;
            usable_is = all.1.mask;
            records = ap records_in all.1.bytes ∙ table_stored (type_in i) payload table all.1.typed all.1.eight all.1.whole;
          })
      go false e =
          let all = untaken base sub i payload table (eqb-false _ done e) r in
          rw e (record { number = all.0; usable_is = all.1.0; records = ap records_in all.1.1 })

-- An indicator that a frame carries is one of the fifteen, and its record is told.
carried_number : (kind : ℕ) → is_indicator_type kind ≡ true → (m : ℕ) → Carries kind m → (1 ≤ m) × (m ≤ indicators)
carried_number kind typed m (first e) =
    let bounds = type_parts kind typed in
    (omega (arith, e, bounds.0), omega (arith, e, bounds.1))
carried_number kind typed m (second e later) =
    let bounds = type_parts kind typed in
    (omega (arith, e, bounds.0), omega (arith, e, bounds.1, later))

told_as : (table : List ℕ) (m : ℕ) {i : Indicator} → is_table table ≡ true → (1 ≤ m) × (m ≤ indicators) → record_of table m ≡ i
    → told_in table m ≡ record { number = done; indicator = i }
unfolding told_in
told_as table m h (low, high) e =
    rw (h, le-leb 1 m low, le-leb m indicators high) (ap (λ i. record { number = done; indicator = i }) e)

-- A frame that was sent, received.
module _ (tree cells old : List ℕ) (base sub kind : ℕ) {i : ℕ} {new : List ℕ} (s : SendsFrame tree cells base sub kind old done i new) where
  with : SentWith tree cells base sub kind (length old)
  with = sent_with tree cells base sub kind (length old) s.number

  sent_identifier : i ≡ identifier base sub kind
  sent_identifier = s.identifier_is ∙ ap (λ w. w.identifier) with.is

  sent_type : type_in i ≡ kind
  sent_type = ap type_in sent_identifier ∙ type_in_lem base sub kind with.station with.typed

  sent_data : take 8 new ≡ data_of (seen tree) (cells_in cells) kind
  sent_data =
      over_front (data_of (seen tree) (cells_in cells) kind) old (sym (data-length (seen tree) (cells_in cells) kind))
      (s.bytes ∙ ap (λ w. over w.payload old) with.is)

  sent_taken : (table : List ℕ) → is_table table ≡ true → receipt_number (is_table table) base sub i (take 8 new) ≡ done
  unfolding receipt_number
  sent_taken table whole =
      let its : (is_station base sub && is_for base sub i) ≡ true = and_both with.station (ap (is_for base sub) sent_identifier ∙ station_for base sub kind with.station with.typed) in
      rw (whole, its, eq-eqb (length (take 8 new)) 8 (ap length sent_data ∙ data-length (seen tree) (cells_in cells) kind))

  module _ (bytes : Bytes cells) (table : List ℕ) {n usable : ℕ} {table' : List ℕ} (whole : is_table table ≡ true)
      (r : ReceivesFrame base sub i (take 8 new) table n usable table') where
    abbrev t : Tree
    t = seen tree

    abbrev cs : List Cell
    cs = cells_in cells

    words : every (λ c. ltb c.word word_end) cs ≡ true
    words = cells_fit cells bytes

    all : (n ≡ done) × Taken i (take 8 new) table usable table'
    all = taken base sub i (take 8 new) table (sent_taken table whole) r

    records : records_in table' ≡ stored kind (data_of t cs kind) (records_in table)
    records =
        ap records_in all.1.bytes
        ∙ table_stored (type_in i) (take 8 new) table all.1.typed all.1.eight all.1.whole
        ∙ ap₂ (λ k l. stored k l (records_in table)) sent_type sent_data

    carried : (m : ℕ) → Carries kind m → record_of table' m ≡ indicator_of t cs m
    carried m (first e) =
        ap (λ k. record_of table' k) e
        ∙ ap (λ rs. get_or rs (place_of kind) blank) records
        ∙ first_stored kind (data_of t cs kind) (records_in table) blank with.typed (records_count table)
        ∙ first_arrives t cs words kind
        ∙ ap (indicator_of t cs) (sym e)
    carried m (second e later) =
        let place : m - 1 ≡ place_of kind + 1 = omega (arith, e, (type_parts kind with.typed).0) in
        ap (λ k. get_or (records_in table') k blank) place
        ∙ ap (λ rs. get_or rs (place_of kind + 1) blank) records
        ∙ second_stored kind (data_of t cs kind) (records_in table) blank with.typed (records_count table) later
        ∙ second_arrives t cs words kind
        ∙ ap (indicator_of t cs) (sym e)

    whole_after : is_table table' ≡ true
    whole_after = ap is_table all.1.bytes ∙ stored_whole (type_in i) (take 8 new) table all.1.typed all.1.eight all.1.whole

    marks : usable ≡ mark (first_of kind - 1) (indicator_of t cs (first_of kind)) + cond (eqb kind last_type) 0 (mark (first_of kind) (indicator_of t cs (first_of kind + 1)))
    unfolding usable_of
    marks =
        let next : place_of kind + 1 ≡ first_of kind = omega (arith, (type_parts kind with.typed).0) in
        all.1.mask
        ∙ ap₂ usable_of sent_type sent_data
        ∙ rw (first_arrives t cs words kind, second_arrives t cs words kind, next) refl

    arrives : Arrives t cs kind table n usable table'
    arrives =
        record {
          number = all.0;
          carried = carried;
          others = λ m h c. stay base sub i (take 8 new) table r m h (λ q. c (subst (λ k. Carries k m) sent_type q));
          marks = marks;
          told = λ m c. told_as table' m whole_after (carried_number kind with.typed m c) (carried m c);
          whole = whole_after;
        }

  -- Another station does not take it.
  not_for : (base₂ sub₂ : ℕ) → ((base ≡ base₂) × (sub ≡ sub₂) → ⊥) → (is_station base₂ sub₂ && is_for base₂ sub₂ i) ≡ false
  not_for base₂ sub₂ other = go (is_station base₂ sub₂ && is_for base₂ sub₂ i) refl
    where
      go : (b : Bool) → (is_station base₂ sub₂ && is_for base₂ sub₂ i) ≡ b → (is_station base₂ sub₂ && is_for base₂ sub₂ i) ≡ false
      go false e = e
      go true e =
          let its = for_station base₂ sub₂ i (and_right (is_station base₂ sub₂) _ e) in
          absurd
          (other
          (same_station base sub kind base₂ sub₂ (type_in i) (station_parts base sub with.station)
          (station_parts base₂ sub₂ (and_left (is_station base₂ sub₂) _ e)) (sym sent_identifier ∙ its.1)))

  elsewhere : (base₂ sub₂ : ℕ) → ((base ≡ base₂) × (sub ≡ sub₂) → ⊥) → (payload table : List ℕ) {n usable : ℕ} {table' : List ℕ} → is_table table ≡ true
      → ReceivesFrame base₂ sub₂ i payload table n usable table' → (n ≡ bad_identifier) × ((usable ≡ 0) × (table' ≡ table))
  unfolding receipt_number
  elsewhere base₂ sub₂ other payload table whole r =
      let theirs : told base₂ sub₂ i payload table ≡ bad_identifier = rw (whole, not_for base₂ sub₂ other) refl in
      let all = untaken base₂ sub₂ i payload table (λ z. omega (arith, sym theirs ∙ z)) r in
      (all.0 ∙ theirs, all.1)

unsent_kept : (tree cells old : List ℕ) (base sub kind : ℕ) {n i : ℕ} {new : List ℕ} → SendsFrame tree cells base sub kind old n i new
    → (n ≡ done → ⊥) → (new ≡ old) × (i ≡ 0)
unsent_kept tree cells old base sub kind s h =
    let is = sent_not tree cells base sub kind (length old) (λ z. h (s.number ∙ z)) in
    (s.bytes ∙ ap (λ w. over w.payload old) is ∙ over_nil old, s.identifier_is ∙ ap (λ w. w.identifier) is)

-- What an indicator shows.
unready_none : (p : Property) (c : Cell) → is_live p ≡ true → c.ready ≡ false → reading p c ≡ none
unfolding readable
unready_none p c h e = no_reading_lem p c (rw (h, e) (and-false (can_read p)))

unready_unusable : (code : ℕ) → is_usable (unready code) ≡ false
unfolding is_usable
unready_unusable code = refl

shown_by : (t : Tree) (cs : List Cell) (n : ℕ) {place : ℕ} → numbered (probes_of t) n ≡ some place → {o : Option ℕ}
    → reading (property_in t place) (cell_in cs place) ≡ o → indicator_of t cs n ≡ shown (property_in t place) o
unfolding indicator_of probe_indicator
shown_by t cs n {place} h e = ap (or_blank t cs) h ∙ ap (shown (property_in t place)) e

module _ (tree cells : List ℕ) (bytes : Bytes cells) (n : ℕ) {place : ℕ} (at : numbered (probes_of (seen tree)) n ≡ some place) where
  abbrev p : Property
  p = property_in (seen tree) place

  abbrev c : Cell
  c = cell_in (cells_in cells) place

  small : {w : ℕ} → reading p c ≡ some w → w < word_end
  small {w} e = subst (λ m. m < word_end) (reading_some p c e).1 (word_small (seen tree) (cells_in cells) (cells_fit cells bytes) place)

  is_shown : {o : Option ℕ} → reading p c ≡ o → indicator_of (seen tree) (cells_in cells) n ≡ shown p o
  is_shown e = shown_by (seen tree) (cells_in cells) n at e

  shows : Shows (seen tree) (cells_in cells) n place
  shows =
      record {
        format = ap (λ i. i.format) (is_shown refl) ∙ sent_format p (reading p c);
        value = λ {w} e f.
            let sent = fitting_sent p w (small e) f in
            (ap (λ i. integer_of (number_of true i.value)) (is_shown e) ∙ sent.0, ap is_usable (is_shown e) ∙ sent.1.1);
        beyond = λ {w} e f.
            let sent = beyond_sent p w (small e) f in
            (ap (λ i. i.value) (is_shown e) ∙ sent.0, ap is_usable (is_shown e) ∙ sent.1.1);
        silent = λ h e.
            let is = is_shown (unready_none p c h e) in
            (is, ap is_usable is ∙ unready_unusable (decimals p));
      }

shows_none : (tree cells : List ℕ) (n : ℕ) → numbered (probes_of (seen tree)) n ≡ none → indicator_of (seen tree) (cells_in cells) n ≡ blank
unfolding indicator_of
shows_none tree cells n h = ap (or_blank (seen tree) (cells_in cells)) h

-- Cells that are alike but for words that are no readings are sent alike.
module _ (t : Tree) (cs ds : List Cell) (alike : AlikeButUnready t cs ds) where
  alike_reading : (k : ℕ) → is_live (property_in t k) ≡ true → reading (property_in t k) (cell_in cs k) ≡ reading (property_in t k) (cell_in ds k)
  alike_reading k live = go (cell_in cs k).ready refl
    where
      go : (b : Bool) → (cell_in cs k).ready ≡ b → reading (property_in t k) (cell_in cs k) ≡ reading (property_in t k) (cell_in ds k)
      go true e = ap (reading (property_in t k)) (ap₂ (λ w r. record { word = w; ready = r }) (alike.words k live e) (alike.marks k live))
      go false e =
          unready_none (property_in t k) (cell_in cs k) live e
          ∙ sym (unready_none (property_in t k) (cell_in ds k) live (sym (alike.marks k live) ∙ e))

  alike_indicator : (n : ℕ) → indicator_of t cs n ≡ indicator_of t ds n
  unfolding indicator_of probe_indicator
  alike_indicator n = go (numbered (probes_of t) n) refl
    where
      go : (o : Option ℕ) → numbered (probes_of t) n ≡ o → or_blank t cs (numbered (probes_of t) n) ≡ or_blank t ds (numbered (probes_of t) n)
      go none e = ap₂ (λ o q. or_blank t cs o) e e ∙ ap (or_blank t ds) (sym e)
      go (some k) e = ap (or_blank t cs) e ∙ ap (shown (property_in t k)) (alike_reading k (probe_live t n e)) ∙ ap (or_blank t ds) (sym e)

  alike_data : (kind : ℕ) → data_of t cs kind ≡ data_of t ds kind
  unfolding data_of
  alike_data kind = ap₂ (λ a b. bytes_of a ++ bytes_of b) (alike_indicator (first_of kind)) (alike_indicator (first_of kind + 1))

alike_sent : (tree cells cells₂ : List ℕ) (base sub kind room : ℕ) → is_lent tree cells ≡ true → is_lent tree cells₂ ≡ true
    → AlikeButUnready (seen tree) (cells_in cells) (cells_in cells₂) → send_in tree cells base sub kind room ≡ send_in tree cells₂ base sub kind room
unfolding send_in
alike_sent tree cells cells₂ base sub kind room h k alike = rw (h, k, alike_data (seen tree) (cells_in cells) (cells_in cells₂) alike kind) refl

-- What is sent is known where a call's promise is known to be another's.
sends_as : (what is : Sent) {old new : List ℕ} {n i : ℕ} → what ≡ is → Sends what old n i new
    → (n ≡ is.number) × ((i ≡ is.identifier) × (new ≡ over is.payload old))
sends_as what is {old} e s =
    (s.number ∙ ap (λ w. w.number) e, (s.identifier_is ∙ ap (λ w. w.identifier) e, s.bytes ∙ ap (λ w. over w.payload old) e))

sends_alike : (what what₂ : Sent) {old new new₂ : List ℕ} {n n₂ i i₂ : ℕ} → what ≡ what₂ → Sends what old n i new → Sends what₂ old n₂ i₂ new₂
    → (n ≡ n₂) × ((i ≡ i₂) × (new ≡ new₂))
sends_alike what what₂ e s s₂ =
    let a = sends_as what what₂ e s in
    (a.0 ∙ sym s₂.number, (a.1.0 ∙ sym s₂.identifier_is, a.1.1 ∙ sym s₂.bytes))

-- Usable, by its two bits.
usable_bits : (i : Indicator) → is_usable i ≡ true → (bit bit_available i.status ≡ true) × (bit bit_error i.status ≡ false)
unfolding is_usable
usable_bits i h =
    (and_left (bit bit_available i.status) _ h, not-true (bit bit_error i.status) (and_right (bit bit_available i.status) _ h))

usable_made : (i : Indicator) → bit bit_available i.status ≡ true → bit bit_error i.status ≡ false → is_usable i ≡ true
unfolding is_usable
usable_made i h k = and_both h (ap not k)

pub buslink_keeps : BuslinkKeeps
buslink_keeps =
    record {
      arrives = λ tree cells old base sub kind bytes s table whole r. arrives tree cells old base sub kind s bytes table whole r;
      elsewhere = λ tree cells old base sub kind s base₂ sub₂ other payload table whole r.
          elsewhere tree cells old base sub kind s base₂ sub₂ other payload table whole r;
      shows = λ tree cells n bytes at. shows tree cells bytes n at;
      shows_none = shows_none;
      stay = λ base sub i payload table r. stay base sub i payload table r;
      refused = λ base sub i payload table r. refused base sub i payload table r;
      unsent = λ tree cells old base sub kind s. unsent_kept tree cells old base sub kind s;
      same_receipt = λ base sub i payload table whole r. same_receipt base sub i payload table r whole;
      unready_silent = λ tree cells cells₂ old base sub kind h k alike s s₂.
          sends_alike _ _ (alike_sent tree cells cells₂ base sub kind (length old) h k alike) s s₂;
      usable = usable_bits;
      usable_made = usable_made;
    }

-- The section's example, sent from the bytes of the bench tree and its cells.
bench_sent : (room : ℕ) → 8 ≤ room
    → send_in (tree_form bench_tree) (cells_form bench_cells) 1 2 2 room ≡ record { number = done; identifier = 0x15550202; payload = frame_data }
unfolding send_in is_station is_indicator_type identifier
bench_sent room h =
    rw
    (forms_lent bench_tree bench_cells bench_sound bench_cells_sound, le-ltb room 8 h, tree_read bench_tree bench_cells bench_sound bench_cells_sound, cells_read bench_tree bench_cells bench_sound bench_cells_sound, bench_data)
    refl

pub bench_frame : BenchFrame
bench_frame old n i new s h = sends_as _ _ (bench_sent (length old) h) s
