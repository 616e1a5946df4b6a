-- What is received: the number, the usable marks, and the table of records.
-- Assumes nothing.
use Prim.Native.Nat.{ℕ, ◌+◌, ◌-◌, ◌*◌, ◌%◌, ◌^◌, ◌<◌, ◌≤◌}
use native.Mathlib.Omega.{arith}
use native.Mathlib.Nat.{add-zero, pow-suc}
use native.Mathlib.Numerals.{add-one}
use mathlib.Core.Path.{◌≡◌, refl, sym, ap, ap₂, ◌∙◌}
use mathlib.Core.Bool.{Bool, true, false, cond, ◌&&◌}
use mathlib.Core.Logic.{◌⊎◌, inl, inr}
use mathlib.Core.List.{List}
use borrow.Author.Tests.{eq-eqb, ne_eqb, eqb-true, eqb-false, le-leb, lt-leb}
use lib.Bits.{bit_or}
use lib.Pow.{pow-lt}
use mir.Val.{bool_byte}
use lib.Dec.{eqb}
use lib.ListN.{length, get_or, take, drop, set, length-take, length-drop}
use lib.Seq.{get_or-drop, take_all}
use Rattle.std.proofs.Common.{Ok, Err}
use Rattle.protocol.specs.declared.Refusal.{Refusal}
use Rattle.protocol.specs.declared.Refusal.TheVariants.{Unsound, BadIdentifier, BadLength}
use Rattle.protocol.specs.Refusal.{refusal_number}
use Rattle.protocol.specs.Numbers.{done, unsound, bad_identifier, bad_length}
use Rattle.protocol.specs.Buffer.{fitting, Put}
use Rattle.protocol.proofs.TestLaws.{and_right, if_both}
use Rattle.protocol.proofs.RefusalLaws.{refusal_some}
use Rattle.protocol.proofs.BufferLaws.{put_fits}
use Rattle.tree.proofs.RecordLaws.{records_at}
use Rattle.buslink.specs.declared.indicator.Indicator.{Indicator}
use Rattle.buslink.specs.declared.identifier.Station.{Station}
use Rattle.buslink.specs.declared.receive.Taken.{Taken}
use Rattle.buslink.specs.Identifier.{is_station, is_indicator_type, is_for, type_in, last_type}
use Rattle.buslink.specs.Indicator.{indicators, indicator_size, blank, indicator_in, is_usable}
use Rattle.buslink.specs.Receive.{receipt_number, first_in, second_in, place_of, stored, usable_of, received, Receives, is_table, records_in, stored_in, untold, told_in, table_size}
use Rattle.buslink.specs.Steps.{usable_byte, usable_bit, carried, JudgedIs}
use Rattle.buslink.proofs.IdentifierLaws.{type_parts, for_station}
use Rattle.buslink.proofs.IndicatorLaws.{usable_fourth}
use Rattle.protocol.proofs.PackLaws.{packing}

-- A station, and whose a frame is, as code has found them.
module _ {base sub : ℕ} (s : Station) (at : (s.base ≡ base) × (s.sub ≡ sub)) (i : ℕ) {t : Bool} where
  pub own_test : is_for s.base s.sub i ≡ t → (is_station base sub && is_for base sub i) ≡ t
  own_test h = rw (sym at.0, sym at.1, s.addressed) h

pub no_station : (base sub i : ℕ) → is_station base sub ≡ false → (is_station base sub && is_for base sub i) ≡ false
no_station base sub i h = rw h

-- The tests of a receipt, one after the other.
module _ (formed : Bool) (base sub i : ℕ) (payload : List ℕ) where
  pub judge-unsound : formed ≡ false → JudgedIs formed base sub i payload (Err Unsound)
  unfolding receipt_number
  judge-unsound h = record { number = rw h; frame = tt }

  pub judge_other : formed ≡ true → (is_station base sub && is_for base sub i) ≡ false → JudgedIs formed base sub i payload (Err BadIdentifier)
  unfolding receipt_number
  judge_other h k = record { number = rw (h, k); frame = tt }

  pub judge-sized : formed ≡ true → (is_station base sub && is_for base sub i) ≡ true → (length payload ≡ 8 → ⊥)
      → JudgedIs formed base sub i payload (Err BadLength)
  unfolding receipt_number
  judge-sized h k l = record { number = rw (h, k, ne_eqb (length payload) 8 l); frame = tt }

  pub judge-done : formed ≡ true → (is_station base sub && is_for base sub i) ≡ true → length payload ≡ 8
      → (f : Taken) → f.kind.number ≡ type_in i → f.payload.now ≡ payload → JudgedIs formed base sub i payload (Ok f)
  unfolding receipt_number
  judge-done h k l f e p = record { number = rw (h, k, eq-eqb (length payload) 8 l); frame = (e, p) }

  -- What a good receipt says.
  pub judged_parts : receipt_number formed base sub i payload ≡ done
      → (formed ≡ true) × ((is_indicator_type (type_in i) ≡ true) × (length payload ≡ 8))
  unfolding receipt_number
  judged_parts = go formed refl (is_station base sub && is_for base sub i) refl (eqb (length payload) 8) refl
    where
      go : (a : Bool) → formed ≡ a → (b : Bool) → (is_station base sub && is_for base sub i) ≡ b → (c : Bool) → eqb (length payload) 8 ≡ c
          → cond a (cond b (cond c done bad_length) bad_identifier) unsound ≡ done → (formed ≡ true) × ((is_indicator_type (type_in i) ≡ true) × (length payload ≡ 8))
      go true a true b true c h =
          (a, ((for_station base sub i (and_right (is_station base sub) _ b)).0, eqb-true (length payload) 8 c))
      go true a true b false c h = absurd (omega (arith, h))
      go true a false b c d h = absurd (omega (arith, h))
      go false a b c d e h = absurd (omega (arith, h))

-- The usable marks: two bits, moved to the place of the first indicator.
pub bit_is : (d : ℕ) {t : Bool} {n : ℕ} → n ≡ bool_byte t → t ≡ usable_byte d → n ≡ usable_bit d
bit_is d e f = e ∙ ap bool_byte f ∙ go (usable_byte d)
  where
    go : (t : Bool) → bool_byte t ≡ cond t 1 0
    go true = refl
    go false = refl

bit_small : (d : ℕ) → usable_bit d < 2
bit_small d = if_both (λ n. n < 2) (usable_byte d) (omega arith) (omega arith)

one-mark : (t : Bool) (k : ℕ) → k < 15 → (cond t 1 0 * 2 ^ k) % 2 ^ 16 ≡ cond t (2 ^ k) 0
one-mark true k h = omega (arith, pow-lt {i = k} {j = 15} h)
one-mark false k h = omega arith

two_marks : (t u : Bool) (k : ℕ) → k < 14 → ((cond u 1 0 * 2 + cond t 1 0) * 2 ^ k) % 2 ^ 16 ≡ cond t (2 ^ k) 0 + cond u (2 ^ (k + 1)) 0
two_marks t u k h =
    let p : 2 ^ (k + 1) ≡ 2 ^ k * 2 = ap (λ n. 2 ^ n) (add-one k) ∙ pow-suc 2 k in
    rw p (go t u)
  where
    go : (t u : Bool) → ((cond u 1 0 * 2 + cond t 1 0) * 2 ^ k) % 2 ^ 16 ≡ cond t (2 ^ k) 0 + cond u (2 ^ k * 2) 0
    go true true = omega (arith, pow-lt {i = k} {j = 14} h)
    go true false = omega (arith, pow-lt {i = k} {j = 14} h)
    go false true = omega (arith, pow-lt {i = k} {j = 14} h)
    go false false = omega arith

module _ (kind : ℕ) (payload : List ℕ) {place : ℕ} (at : place ≡ place_of kind) where
  second_fourth : is_usable (second_in payload) ≡ usable_byte (get_or payload 7 0)
  second_fourth = usable_fourth (drop indicator_size payload) ∙ ap usable_byte (get_or-drop 4 payload 3 0)

  pub last_usable : {a : ℕ} → kind ≡ last_type → a ≡ usable_bit (get_or payload 3 0) → (a * 2 ^ place) % 2 ^ 16 ≡ usable_of kind payload
  unfolding usable_of
  last_usable h e =
      ap (λ n. (n * 2 ^ place) % 2 ^ 16) e
      ∙ one-mark (usable_byte (get_or payload 3 0)) place (omega (arith, at, h))
      ∙ rw (eq-eqb kind last_type h, usable_fourth payload, at) (sym (add-zero _))

  pub both_usable : {a b : ℕ} → kind ≤ 9 → (kind ≡ last_type → ⊥) → a ≡ usable_bit (get_or payload 3 0) → b ≡ usable_bit (get_or payload 7 0)
      → (bit_or ((b * 2) % 2 ^ 16) a * 2 ^ place) % 2 ^ 16 ≡ usable_of kind payload
  unfolding usable_of
  both_usable {a} {b} l h e f =
      ap (λ n. (n * 2 ^ place) % 2 ^ 16)
      (ap₂ (λ m n. bit_or ((n * 2) % 2 ^ 16) m) e f
      ∙ packing.joined 16 1 (usable_bit (get_or payload 7 0)) (usable_bit (get_or payload 3 0)) (omega (arith, bit_small (get_or payload 7 0))) (bit_small (get_or payload 3 0)))
      ∙ two_marks (usable_byte (get_or payload 3 0)) (usable_byte (get_or payload 7 0)) place (omega (arith, at, l, h))
      ∙ rw (ne_eqb kind last_type h, usable_fourth payload, second_fourth, at)

-- The bytes of what a frame carries, put over their records.
module _ (kind : ℕ) (payload table : List ℕ) (typed : is_indicator_type kind ≡ true) (eight : length payload ≡ 8) (whole : is_table table ≡ true) where
  pub table_size_lem : length table ≡ table_size
  unfolding is_table
  table_size_lem = eqb-true (length table) table_size whole

  carried_fits : place_of kind * indicator_size + length (carried kind payload) ≤ length table
  carried_fits = go (eqb kind last_type) refl
    where
      types : (2 ≤ kind) × (kind ≤ 9)
      types = type_parts kind typed

      go : (t : Bool) → eqb kind last_type ≡ t → place_of kind * indicator_size + length (cond t (take indicator_size payload) payload) ≤ length table
      go true e = omega (arith, eqb-true kind 9 e, table_size_lem, length-take indicator_size payload)
      go false e =
          let below : kind ≡ 9 → ⊥ = eqb-false kind 9 e in
          omega (arith, types.1, below, eight, table_size_lem)

  pub table_put : {ys : List ℕ} {at r : ℕ} {new : List ℕ} → ys ≡ carried kind payload → at ≡ place_of kind * indicator_size
      → Put at (fitting at ys table) table r new → new ≡ stored_in kind payload table
  unfolding stored_in
  table_put {r = r} {new = new} e f p =
      (put_fits carried_fits (rw (e, f) at p)).bytes

-- A receipt over records in whatever form.
module _ {A : Type 0} (formed : Bool) (base sub i : ℕ) (payload : List ℕ) (stores : ℕ → List ℕ → A) (old : A) where
  pub received_refused : (e : Refusal) → JudgedIs formed base sub i payload (Err e)
      → Receives (received formed base sub i payload (stores (type_in i) payload) old) (refusal_number e) 0 old
  unfolding received
  received_refused e j =
      rw (ne_eqb (receipt_number formed base sub i payload) done (λ z. refusal_some e (j.number ∙ z)))
      (record { number = j.number; usable_is = refl; records = refl })

  module _ {f : Taken} (j : JudgedIs formed base sub i payload (Ok f)) where
    pub received_done : {u : ℕ} {new : A} → u ≡ usable_of f.kind.number f.payload.now → new ≡ stores f.kind.number f.payload.now
        → Receives (received formed base sub i payload (stores (type_in i) payload) old) done u new
    unfolding received
    received_done e n =
        let kind = j.frame.0 in
        let whole = j.frame.1 in
        rw (eq-eqb (receipt_number formed base sub i payload) done (sym j.number))
        (record { number = refl; usable_is = e ∙ ap₂ usable_of kind whole; records = n ∙ ap₂ stores kind whole })

    -- What the storing may take for granted.
    pub taken_formed : formed ≡ true
    taken_formed = (judged_parts formed base sub i payload (sym j.number)).0

-- A list of records that a frame is stored in.
module _ (kind : ℕ) (rs : List Indicator) where
  pub place_within : is_indicator_type kind ≡ true → length rs ≡ indicators → place_of kind < length rs
  place_within typed count = let types = type_parts kind typed in omega (arith, types.0, types.1, count)

  pub next_within : is_indicator_type kind ≡ true → length rs ≡ indicators → (kind ≡ last_type → ⊥) → place_of kind + 1 < length rs
  next_within typed count h = let types = type_parts kind typed in omega (arith, types.0, types.1, count, h)

  module _ (payload : List ℕ) where
    pub stored_last : true ≡ eqb kind last_type → set rs (place_of kind) (first_in payload) ≡ stored kind payload rs
    unfolding stored
    stored_last h = rw (sym h)

    pub stored_two : false ≡ eqb kind last_type
        → set (set rs (place_of kind) (first_in payload)) (place_of kind + 1) (second_in payload) ≡ stored kind payload rs
    unfolding stored
    stored_two h = rw (sym h)

-- A record of a table.
pub table_test : (table : List ℕ) → eqb (length table) table_size ≡ is_table table
unfolding is_table
table_test table = refl

module _ (table : List ℕ) (n : ℕ) where
  pub told_unsound : (length table ≡ table_size → ⊥) → untold unsound ≡ told_in table n
  unfolding told_in is_table
  told_unsound h = rw (ne_eqb (length table) table_size h)

  module _ (whole : length table ≡ table_size) where
    pub told_other : (n < 1) ⊎ ((1 ≤ n) × (indicators < n)) → untold bad_identifier ≡ told_in table n
    unfolding told_in is_table
    told_other (inl h) = rw (eq-eqb (length table) table_size whole, lt-leb 1 n h)
    told_other (inr h) = rw (eq-eqb (length table) table_size whole, le-leb 1 n h.0, lt-leb n indicators h.1)

    pub told_record : 1 ≤ n → n ≤ indicators
        → {i : Indicator} → i ≡ indicator_in (take (length table - (n - 1) * indicator_size) (drop ((n - 1) * indicator_size) table))
        → record { number = done; indicator = i } ≡ told_in table n
    unfolding told_in is_table records_in
    told_record h k e =
        let at : ℕ = (n - 1) * indicator_size in
        rw (eq-eqb (length table) table_size whole, le-leb 1 n h, le-leb n indicators k)
        (ap (λ i. record { number = done; indicator = i })
        (e
        ∙ ap indicator_in (take_all (length table - at) (drop at table) (omega (arith, length-drop at table)))
        ∙ sym (records_at indicator_size indicator_in indicators table (n - 1) blank (omega (arith, h, k)))))
