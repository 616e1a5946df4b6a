-- What is sent, as it is received: an indicator through its four bytes, and a frame into the records of a table.
-- Assumes nothing.
use Prim.Native.Nat.{ℕ, zero, suc, ◌+◌, ◌-◌, ◌*◌, ◌%◌, ◌^◌, ◌<◌, ◌≤◌}
use native.Mathlib.Omega.{arith}
use mathlib.Core.Path.{◌≡◌, refl, sym, ap, subst, ◌∙◌}
use mathlib.Core.Bool.{Bool, true, false, cond, ◌&&◌}
use mathlib.Core.List.{List, [], ◌∷◌, append-nil}
use mathlib.Core.Option.{Option, none, some}
use borrow.Author.Tests.{eq-eqb, ne_eqb, eqb-false, leb-true, ltb-true, le-leb, lt-ltb, le-ltb}
use lib.Dec.{eqb, ltb, leb}
use lib.ListN.{length, get_or, take, drop, set, length-take, length-drop, length-set, take-append-drop}
use lib.Seq.{get_or-set_same, get_or-set_other}
use Rattle.protocol.specs.Numbers.{word_end}
use Rattle.protocol.specs.Bytes.{every}
use Rattle.protocol.specs.Buffer.{put_at}
use Rattle.protocol.specs.Tree.{Property, Tree, Cell, numbered, property_in, cell_in, reading}
use Rattle.protocol.specs.Answer.{takes_sign}
use Rattle.protocol.specs.Signed.{Number, number_of, integer_of, word_for, is_told, is_word}
use Rattle.protocol.proofs.TestLaws.{every_at, if_both, if_case}
use Rattle.protocol.proofs.BufferLaws.{put_behind, put_put, length_put}
use Rattle.protocol.proofs.SignedLaws.{told_back}
use Rattle.protocol.proofs.RuleLaws.{reading_some}
use Rattle.tree.specs.Seen.{records_from}
use Rattle.tree.proofs.RecordLaws.{records_length}
use Rattle.buslink.specs.declared.indicator.Indicator.{Indicator}
use Rattle.buslink.specs.Identifier.{is_indicator_type, last_type}
use Rattle.buslink.specs.Indicator.{indicators, indicator_size, raw, bytes_of, extended, indicator_in, is_usable}
use Rattle.buslink.specs.Send.{probes_of, decimals, scaled, fits, valued, shown, probe_indicator, or_blank, indicator_of, first_of, data_of}
use Rattle.buslink.specs.Receive.{place_of, first_in, second_in, stored, is_table, records_in, stored_in, table_size}
use Rattle.buslink.proofs.IdentifierLaws.{type_parts}
use Rattle.buslink.proofs.IndicatorLaws.{Sendable, read_back}
use Rattle.buslink.proofs.SendLaws.{indicator_marked, none_behind}
pub use Rattle.buslink.proofs.SendLaws.{data-length}
use Rattle.buslink.proofs.ReceiveLaws.{table_size_lem}

-- A value of 24 bits is its own word again, and its word is its own number again. (One below zero is not 0.)
below_kept : (s : ℕ) → 0 < s → s ≤ 2 ^ 23 → extended ((word_end - s) % 2 ^ 24) ≡ word_end - s
unfolding extended
below_kept s h k =
    let low : (word_end - s) % 2 ^ 24 ≡ 2 ^ 24 - s = omega (arith, h, k) in
    rw (low, le-ltb (2 ^ 24 - s) (2 ^ 23) (omega (arith, h, k))) (omega (arith, h, k))

above_kept : (s : ℕ) → s < 2 ^ 23 → extended (s % 2 ^ 24) ≡ s
unfolding extended
above_kept s h =
    let low : s % 2 ^ 24 ≡ s = omega (arith, h) in
    rw (low, lt-ltb s (2 ^ 23) h)

zero_kept : extended (0 % 2 ^ 24) ≡ 0
unfolding extended
zero_kept = refl

module _ (n : Number) (told : is_told true n ≡ true) (fit : fits n ≡ true) where
  value_kept : extended (word_for n % 2 ^ 24) ≡ word_for n
  unfolding is_told fits word_for
  value_kept = go n.below n.size told fit
    where
      go : (b : Bool) (s : ℕ) → cond b (true && ltb 0 s) true ≡ true → cond b (leb s (2 ^ 23)) (ltb s (2 ^ 23)) ≡ true
          → extended (cond b (word_end - s) s % 2 ^ 24) ≡ cond b (word_end - s) s
      go true s t f = below_kept s (ltb-true 0 s t) (leb-true s (2 ^ 23) f)
      go false s t f = above_kept s (ltb-true s (2 ^ 23) f)

  fits_word : is_word true n ≡ true
  unfolding fits is_word
  fits_word = go n.below n.size fit
    where
      go : (b : Bool) (s : ℕ) → cond b (leb s (2 ^ 23)) (ltb s (2 ^ 23)) ≡ true → cond b (leb s (2 ^ 31)) (ltb s (2 ^ 31)) ≡ true
      go true s f = le-leb s (2 ^ 31) (omega (arith, leb-true s (2 ^ 23) f))
      go false s f = lt-ltb s (2 ^ 31) (omega (arith, ltb-true s (2 ^ 23) f))

  number_kept : number_of true (word_for n) ≡ n
  number_kept = told_back true n told fits_word

-- The number of a word, signed or not, can be told, and so can its value.
word_told : (signed : Bool) (w : ℕ) → w < word_end → is_told true (number_of signed w) ≡ true
unfolding is_told number_of
word_told signed w h = go (signed && leb (2 ^ 31) w)
  where
    go : (b : Bool) → is_told true (cond b (record { below = true; size = word_end - w }) (record { below = false; size = w })) ≡ true
    go true = lt-ltb 0 (word_end - w) (omega (arith, h))
    go false = refl

scaled_told : (code : ℕ) (n : Number) → is_told true n ≡ true → is_told true (scaled code n) ≡ true
unfolding is_told scaled
scaled_told code n t = go (eqb code raw) n.below n.size t
  where
    go : (r b : Bool) (s : ℕ) → cond b (true && ltb 0 s) true ≡ true
        → is_told true (cond r (record { below = b; size = s }) (record { below = b; size = s * 10 })) ≡ true
    go true b s h = h
    go false true s h = lt-ltb 0 (s * 10) (omega (arith, ltb-true 0 s h))
    go false false s h = refl

-- What a probe with a reading sends: a value that fits is usable and is its number, in its format; another is neither.
module _ (p : Property) (w : ℕ) (h : w < word_end) where
  abbrev value : Number
  value = scaled (decimals p) (number_of (takes_sign p) w)

  value_told : is_told true value ≡ true
  value_told = scaled_told (decimals p) (number_of (takes_sign p) w) (word_told (takes_sign p) w h)

  pub fitting_sent : fits value ≡ true
      → (integer_of (number_of true (shown p (some w)).value) ≡ integer_of value) × (((shown p (some w)).format ≡ decimals p) × (is_usable (shown p (some w)) ≡ true))
  unfolding valued is_usable
  fitting_sent f = rw f (ap integer_of (number_kept value value_told f), (refl, refl))

  pub beyond_sent : fits value ≡ false
      → ((shown p (some w)).value ≡ 0) × (((shown p (some w)).format ≡ decimals p) × (is_usable (shown p (some w)) ≡ false))
  unfolding valued is_usable
  beyond_sent f = rw f (refl, (refl, refl))

  sent_kept : extended ((shown p (some w)).value % 2 ^ 24) ≡ (shown p (some w)).value
  unfolding valued
  sent_kept =
      if_case (λ (i : Indicator). extended (i.value % 2 ^ 24) ≡ i.value) (fits value) (λ e. value_kept value value_told e) (λ e. zero_kept)

pub sent_format : (p : Property) (o : Option ℕ) → (shown p o).format ≡ decimals p
unfolding valued
sent_format p none = refl
sent_format p (some w) =
    if_both (λ (i : Indicator). i.format ≡ decimals p) (fits (scaled (decimals p) (number_of (takes_sign p) w))) refl refl

-- Every indicator that is sent can be read again.
module _ (t : Tree) (cs : List Cell) (words : every (λ c. ltb c.word word_end) cs ≡ true) where
  pub word_small : (k : ℕ) → (cell_in cs k).word < word_end
  word_small k = ltb-true (cell_in cs k).word word_end (every_at (λ c. ltb c.word word_end) cs (record { word = 0; ready = false }) words refl k)

  probe_kept : (k : ℕ) → extended ((probe_indicator t cs k).value % 2 ^ 24) ≡ (probe_indicator t cs k).value
  unfolding probe_indicator
  probe_kept k = go (reading (property_in t k) (cell_in cs k)) refl
    where
      go : (o : Option ℕ) → reading (property_in t k) (cell_in cs k) ≡ o
          → extended ((shown (property_in t k) o).value % 2 ^ 24) ≡ (shown (property_in t k) o).value
      go none e = zero_kept
      go (some w) e =
          sent_kept (property_in t k) w (subst (λ n. n < word_end) (reading_some (property_in t k) (cell_in cs k) e).1 (word_small k))

  pub sendable : (n : ℕ) → Sendable (indicator_of t cs n)
  unfolding indicator_of
  sendable n =
      let marks = indicator_marked t cs n in
      record { value = go (numbered (probes_of t) n); status = marks.status; format = marks.format }
    where
      go : (o : Option ℕ) → extended ((or_blank t cs o).value % 2 ^ 24) ≡ (or_blank t cs o).value
      go none = zero_kept
      go (some k) = probe_kept k

  -- The two indicators in a frame's data.
  pub first_arrives : (kind : ℕ) → first_in (data_of t cs kind) ≡ indicator_of t cs (first_of kind)
  unfolding data_of
  first_arrives kind = read_back (indicator_of t cs (first_of kind)) (bytes_of (indicator_of t cs (first_of kind + 1))) (sendable (first_of kind))

  pub second_arrives : (kind : ℕ) → second_in (data_of t cs kind) ≡ indicator_of t cs (first_of kind + 1)
  unfolding data_of bytes_of
  second_arrives kind =
      ap indicator_in (sym (append-nil (bytes_of (indicator_of t cs (first_of kind + 1)))))
      ∙ read_back (indicator_of t cs (first_of kind + 1)) [] (sendable (first_of kind + 1))

-- Type 9 ends in four zeros.
pub last_zeros : (t : Tree) (cs : List Cell) → drop 4 (data_of t cs last_type) ≡ 0 ∷ 0 ∷ 0 ∷ 0 ∷ []
unfolding data_of bytes_of
last_zeros t cs = ap bytes_of (sym (none_behind t cs 15 (omega arith)))

-- The records in a table, after four bytes were put over one of them.
front_enough : (bs : List ℕ) → indicator_in (take 4 bs) ≡ indicator_in bs
unfolding indicator_in
front_enough [] = refl
front_enough (a ∷ []) = refl
front_enough (a ∷ b ∷ []) = refl
front_enough (a ∷ b ∷ c ∷ []) = refl
front_enough (a ∷ b ∷ c ∷ d ∷ bs) = refl

abbrev records_of : ℕ → List ℕ → List Indicator
records_of n bs = records_from indicator_size indicator_in n bs

put_record : (n k : ℕ) (a b c d : ℕ) (bs : List ℕ) → k < n → n * 4 ≤ length bs
    → records_of n (put_at (k * 4) (a ∷ b ∷ c ∷ d ∷ []) bs) ≡ set (records_of n bs) k (indicator_in (a ∷ b ∷ c ∷ d ∷ []))
unfolding records_from put_at indicator_in
put_record zero k a b c d bs h l = absurd (omega (arith, h))
put_record (suc n) zero a b c d bs h l = refl
put_record (suc n) (suc k) a b c d (x ∷ y ∷ z ∷ w ∷ bs) h l =
    let at : suc k * 4 ≡ 4 + k * 4 = omega arith in
    ap (λ m. records_of (suc n) (put_at m (a ∷ b ∷ c ∷ d ∷ []) (x ∷ y ∷ z ∷ w ∷ bs))) at
    ∙ ap (records_of (suc n)) (put_behind (x ∷ y ∷ z ∷ w ∷ []) (k * 4) (a ∷ b ∷ c ∷ d ∷ []) bs)
    ∙ ap (λ rs. indicator_in (x ∷ y ∷ z ∷ w ∷ bs) ∷ rs) (put_record n k a b c d bs (omega (arith, h)) (omega (arith, l)))
put_record (suc n) (suc k) a b c d [] h l = absurd (omega (arith, l))
put_record (suc n) (suc k) a b c d (x ∷ []) h l = absurd (omega (arith, l))
put_record (suc n) (suc k) a b c d (x ∷ y ∷ []) h l = absurd (omega (arith, l))
put_record (suc n) (suc k) a b c d (x ∷ y ∷ z ∷ []) h l = absurd (omega (arith, l))

put_four : (n k : ℕ) (ys bs : List ℕ) → length ys ≡ 4 → k < n → n * 4 ≤ length bs
    → records_of n (put_at (k * 4) ys bs) ≡ set (records_of n bs) k (indicator_in ys)
put_four n k (a ∷ b ∷ c ∷ d ∷ []) bs e h l = put_record n k a b c d bs h l
put_four n k [] bs e h l = absurd (omega (arith, e))
put_four n k (a ∷ []) bs e h l = absurd (omega (arith, e))
put_four n k (a ∷ b ∷ []) bs e h l = absurd (omega (arith, e))
put_four n k (a ∷ b ∷ c ∷ []) bs e h l = absurd (omega (arith, e))
put_four n k (a ∷ b ∷ c ∷ d ∷ x ∷ r) bs e h l = absurd (omega (arith, e))

-- A receipt into a table is one into its records.
module _ (kind : ℕ) (payload table : List ℕ) (typed : is_indicator_type kind ≡ true) (eight : length payload ≡ 8) (whole : is_table table ≡ true) where
  front : length (take 4 payload) ≡ 4
  front = omega (arith, eight, length-take 4 payload)

  back : length (drop 4 payload) ≡ 4
  back = omega (arith, eight, length-drop 4 payload)

  size : length table ≡ table_size
  size = table_size_lem kind payload table typed eight whole

  bounds : (2 ≤ kind) × (kind ≤ 9)
  bounds = type_parts kind typed

  one-stored : records_in (put_at (place_of kind * 4) (take 4 payload) table) ≡ set (records_in table) (place_of kind) (first_in payload)
  unfolding records_in
  one-stored =
      put_four indicators (place_of kind) (take 4 payload) table front (omega (arith, bounds.0, bounds.1)) (omega (arith, size))
      ∙ ap (set (records_in table) (place_of kind)) (front_enough payload)

  two_put : put_at (place_of kind * 4) payload table ≡ put_at ((place_of kind + 1) * 4) (drop 4 payload) (put_at (place_of kind * 4) (take 4 payload) table)
  two_put =
      let at : place_of kind * 4 + length (take 4 payload) ≡ (place_of kind + 1) * 4 = omega (arith, front) in
      ap (λ ys. put_at (place_of kind * 4) ys table) (sym (take-append-drop 4 payload))
      ∙ sym (put_put table (place_of kind * 4) (take 4 payload) (drop 4 payload) (omega (arith, size, bounds.1)))
      ∙ ap (λ n. put_at n (drop 4 payload) (put_at (place_of kind * 4) (take 4 payload) table)) at

  two_stored : (kind ≡ 9 → ⊥)
      → records_in (put_at (place_of kind * 4) payload table) ≡ set (set (records_in table) (place_of kind) (first_in payload)) (place_of kind + 1) (second_in payload)
  unfolding records_in
  two_stored h =
      let same : length (put_at (place_of kind * 4) (take 4 payload) table) ≡ length table = length_put table (place_of kind * 4) (take 4 payload) (omega (arith, front, size, bounds.1)) in
      ap records_in two_put
      ∙ put_four indicators (place_of kind + 1) (drop 4 payload) (put_at (place_of kind * 4) (take 4 payload) table) back (omega (arith, bounds.0, bounds.1, h)) (omega (arith, size, same))
      ∙ ap (λ rs. set rs (place_of kind + 1) (second_in payload)) one-stored

  pub table_stored : records_in (stored_in kind payload table) ≡ stored kind payload (records_in table)
  unfolding stored_in stored
  table_stored = go (eqb kind last_type) refl
    where
      go : (t : Bool) → eqb kind last_type ≡ t
          → records_in (put_at (place_of kind * indicator_size) (cond t (take indicator_size payload) payload) table)
          ≡ cond t (set (records_in table) (place_of kind) (first_in payload)) (set (set (records_in table) (place_of kind) (first_in payload)) (place_of kind + 1) (second_in payload))
      go true e = one-stored
      go false e = two_stored (eqb-false kind 9 e)

  pub stored_whole : is_table (stored_in kind payload table) ≡ true
  unfolding is_table stored_in
  stored_whole = eq-eqb _ table_size (go (eqb kind last_type) refl ∙ size)
    where
      go : (t : Bool) → eqb kind last_type ≡ t → length (put_at (place_of kind * indicator_size) (cond t (take indicator_size payload) payload) table) ≡ length table
      go true e = length_put table (place_of kind * 4) (take 4 payload) (omega (arith, front, size, bounds.1))
      go false e = length_put table (place_of kind * 4) payload (omega (arith, eight, size, bounds.1, eqb-false kind 9 e))

pub records_count : (table : List ℕ) → length (records_in table) ≡ indicators
unfolding records_in
records_count table = records_length indicator_size indicator_in indicators table

-- Records that are stored, and those beside them.
module _ (kind : ℕ) (payload : List ℕ) (rs : List Indicator) (d : Indicator) (typed : is_indicator_type kind ≡ true) (count : length rs ≡ indicators) where
  pub first_stored : get_or (stored kind payload rs) (place_of kind) d ≡ first_in payload
  unfolding stored
  first_stored = go (eqb kind last_type)
    where
      within : place_of kind < length rs
      within = omega (arith, count, (type_parts kind typed).0, (type_parts kind typed).1)

      go : (t : Bool)
          → get_or (cond t (set rs (place_of kind) (first_in payload)) (set (set rs (place_of kind) (first_in payload)) (place_of kind + 1) (second_in payload))) (place_of kind) d ≡ first_in payload
      go true = get_or-set_same rs (place_of kind) (first_in payload) d within
      go false =
          get_or-set_other (set rs (place_of kind) (first_in payload)) (place_of kind + 1) (place_of kind) (second_in payload) d (λ e. omega (arith, e))
          ∙ get_or-set_same rs (place_of kind) (first_in payload) d within

  pub second_stored : (kind ≡ last_type → ⊥) → get_or (stored kind payload rs) (place_of kind + 1) d ≡ second_in payload
  unfolding stored
  second_stored h =
      rw (ne_eqb kind last_type h)
      (get_or-set_same (set rs (place_of kind) (first_in payload)) (place_of kind + 1) (second_in payload) d
      (omega (arith, length-set rs (place_of kind) (first_in payload), count, (type_parts kind typed).0, (type_parts kind typed).1, h)))

  pub others_stored : (k : ℕ) → (k ≡ place_of kind → ⊥) → (k ≡ place_of kind + 1 → (kind ≡ last_type → ⊥) → ⊥) → get_or (stored kind payload rs) k d ≡ get_or rs k d
  unfolding stored
  others_stored k u v = go (eqb kind last_type) refl
    where
      go : (t : Bool) → eqb kind last_type ≡ t
          → get_or (cond t (set rs (place_of kind) (first_in payload)) (set (set rs (place_of kind) (first_in payload)) (place_of kind + 1) (second_in payload))) k d ≡ get_or rs k d
      go true e = get_or-set_other rs (place_of kind) k (first_in payload) d u
      go false e =
          get_or-set_other (set rs (place_of kind) (first_in payload)) (place_of kind + 1) k (second_in payload) d (λ q. v q (eqb-false kind last_type e))
          ∙ get_or-set_other rs (place_of kind) k (first_in payload) d u
