-- What is sent: the value of a word, the probes of a tree, and the bytes of a frame.
-- Assumes nothing.
use Prim.Native.Nat.{ℕ, zero, suc, ◌+◌, ◌-◌, ◌%◌, ◌^◌, ◌<◌, ◌≤◌}
use native.Mathlib.Omega.{arith}
use native.Mathlib.Numerals.{add-one}
use native.Mathlib.Decide.{dec_lt}
use mathlib.Core.Path.{◌≡◌, refl, sym, ap, ap₂, subst, ◌∙◌}
use mathlib.Core.Bool.{Bool, true, false, ◌&&◌}
use mathlib.Core.List.{List, [], ◌∷◌, ◌++◌}
use mathlib.Core.Option.{Option, none, some, some-injective, none-ne-some}
use borrow.Author.Tests.{lt-ltb, le-ltb}
use lib.Bits.{bit_and}
use lib.ListN.{length, get_or, get_elem?, take, drop, get_or-eq_default}
use lib.Seq.{drop-drop, drop-nil}
use Rattle.std.proofs.Common.{Some, None}
use Rattle.protocol.specs.declared.Refusal.{Refusal}
use Rattle.protocol.specs.Refusal.{refusal_number, option_of}
use Rattle.protocol.specs.Numbers.{done, no_room, bad_identifier}
use Rattle.protocol.specs.Buffer.{over}
use Rattle.protocol.specs.Tree.{Tree, Cell, is_live, live_of, numbered, places_from, property_in, cell_in, readable, reading}
use Rattle.protocol.specs.Answer.{takes_sign}
use Rattle.protocol.specs.Listed.{All}
use Rattle.protocol.specs.Signed.{Number, number_of}
use Rattle.protocol.proofs.TestLaws.{if_both}
use Rattle.protocol.proofs.BufferLaws.{over_nil}
use Rattle.protocol.proofs.RefusalLaws.{refusal_some}
use Rattle.protocol.proofs.LoadLaws.{places_all}
use Rattle.tree.specs.declared.record.Fields.{Fields}
use Rattle.tree.specs.Lookup.{FieldsAre, numbers_of, places_in, NextIs}
use Rattle.tree.proofs.RangeLaws.{sign_same}
use Rattle.tree.proofs.NextLaws.{places_none, places_next}
use Rattle.tree.specs.Seen.{seen}
use Rattle.cells.specs.Cells.{cells_in}
use Rattle.cells.specs.Lent.{is_lent, lent_number}
use Rattle.cells.proofs.CellLaws.{lent_refused, refused_unsound}
use Rattle.tree.proofs.FoundLaws.{found_at, found_none}
use Rattle.buslink.specs.declared.indicator.Indicator.{Indicator}
use Rattle.buslink.specs.Identifier.{is_station, is_indicator_type, identifier}
use Rattle.buslink.specs.Indicator.{indicators, blank, bytes_of}
use Rattle.buslink.specs.Send.{probes_of, decimals, scaled, fits, valued, shown, probe_indicator, or_blank, indicator_of, first_of, data_of, Sent, unsent, send_in, Sends}
use Rattle.buslink.specs.Steps.{ProbeAt}
use Rattle.protocol.proofs.PackLaws.{packing}

-- A probe, by its fields and its reading.
module _ (t : Tree) (cs : List Cell) (k : ℕ) {f : Fields} (same : FieldsAre (property_in t k) f) where
  code_is : bit_and f.format 7 ≡ decimals (property_in t k)
  code_is = packing.lower f.format 3 ∙ ap (λ n. n % 2 ^ 3) same.format

  pub probe_unready : None ≡ option_of (reading (property_in t k) (cell_in cs k))
      → record { value = 0; status = 0; format = bit_and f.format 7 } ≡ probe_indicator t cs k
  unfolding probe_indicator
  probe_unready h = rw (found_none (reading (property_in t k) (cell_in cs k)) h, code_is)

  pub probe_word : {w : ℕ} {signed : Bool} {i : Indicator} → Some w ≡ option_of (reading (property_in t k) (cell_in cs k))
      → signed ≡ takes_sign (numbers_of f) → i ≡ valued (bit_and f.format 7) (scaled (bit_and f.format 7) (number_of signed w))
      → i ≡ probe_indicator t cs k
  unfolding probe_indicator
  probe_word h s e = e ∙ rw (found_at (reading (property_in t k) (cell_in cs k)) h, code_is, s ∙ sign_same same)

-- A place past the last property shows nothing.
pub shown_past : (t : Tree) (cs : List Cell) (k : ℕ) → length t.properties ≤ k → probe_indicator t cs k ≡ blank
unfolding probe_indicator reading readable
shown_past t cs k h = rw (get_or-eq_default t.properties _ h)

-- The live properties of a tree, passed one after the other: the first, the one behind another, and none behind none.
pub probe_first : (t : Tree) {k : ℕ} → NextIs is_live t 0 k → ProbeAt t 0 k
unfolding places_in live_of
probe_first t n = record { rest = sym n.same; live = n.is }

pub probe_next : (t : Tree) (n : ℕ) {k j : ℕ} → ProbeAt t n k → k < length t.properties → NextIs is_live t (k + 1) j → ProbeAt t (n + 1) j
probe_next t n {k} {j} p h next =
    record {
      rest =
          sym next.same
          ∙ ap (drop 1) (sym (places_next is_live t h (p.live h)) ∙ p.rest)
          ∙ drop-drop 1 n (live_of t);
      live = next.is;
    }

pub probe_past : (t : Tree) (n m : ℕ) {k : ℕ} → n ≤ m → ProbeAt t n k → length t.properties ≤ k → ProbeAt t m k
probe_past t n m {k} l p h =
    let none : places_in is_live t k ≡ [] = places_none is_live t h in
    let split : n + (m - n) ≡ m = omega (arith, l) in
    record {
      rest =
          none
          ∙ sym (drop-nil (m - n))
          ∙ ap (drop (m - n)) (sym none ∙ p.rest)
          ∙ drop-drop (m - n) n (live_of t)
          ∙ ap (λ i. drop i (live_of t)) split;
      live = p.live;
    }

-- What stands at a place of a list, by what is left of it there.
module _ {A : Type 0} where
  left_at : (xs : List A) (n : ℕ) → get_elem? xs n ≡ get_elem? (drop n xs) 0
  left_at [] n = ap (λ l. get_elem? l 0) (sym (drop-nil n))
  left_at (x ∷ xs) zero = refl
  left_at (x ∷ xs) (suc n) = left_at xs n

  -- The first entries of a list have their places, and there is none behind them.
  taken_at : (m : ℕ) (xs : List A) (n : ℕ) → n < m → get_elem? (take m xs) n ≡ get_elem? xs n
  taken_at zero xs n h = absurd (omega (arith, h))
  taken_at (suc m) [] n h = refl
  taken_at (suc m) (x ∷ xs) zero h = refl
  taken_at (suc m) (x ∷ xs) (suc n) h = taken_at m xs n (omega (arith, h))

  taken_none : (m : ℕ) (xs : List A) (n : ℕ) → m ≤ n → get_elem? (take m xs) n ≡ none
  taken_none zero xs n h = refl
  taken_none (suc m) [] n h = refl
  taken_none (suc m) (x ∷ xs) zero h = absurd (omega (arith, h))
  taken_none (suc m) (x ∷ xs) (suc n) h = taken_none m xs n (omega (arith, h))

-- A probe is a live property.
module _ {A : Type 0} where
  taken_some : (m : ℕ) (xs : List A) (n : ℕ) {x : A} → get_elem? (take m xs) n ≡ some x → get_elem? xs n ≡ some x
  taken_some zero xs n {x} h = absurd (none-ne-some x h)
  taken_some (suc m) [] n h = h
  taken_some (suc m) (y ∷ xs) zero h = h
  taken_some (suc m) (y ∷ xs) (suc n) h = taken_some m xs n h

  all_at : (P : A → Type 0) (xs : List A) (n : ℕ) {x : A} → All P xs → get_elem? xs n ≡ some x → P x
  all_at P [] n {x} a h = absurd (none-ne-some x h)
  all_at P (y ∷ xs) zero a h = subst P (some-injective _ _ h) a.0
  all_at P (y ∷ xs) (suc n) a h = all_at P xs n a.1 h

pub probe_live : (t : Tree) (n : ℕ) {k : ℕ} → numbered (probes_of t) n ≡ some k → is_live (property_in t k) ≡ true
unfolding numbered probes_of live_of
probe_live t zero {k} h = absurd (none-ne-some k h)
probe_live t (suc n) h =
    all_at (λ k. is_live (property_in t k) ≡ true) (places_from 0 is_live t.properties) n
    (places_all is_live _ (λ k. is_live (property_in t k) ≡ true) t.properties 0 (λ i e. subst (λ k. is_live (property_in t k) ≡ true) (omega arith) e))
    (taken_some indicators (places_from 0 is_live t.properties) n h)

-- The probe of an indicator, and that there is none behind the last.
module _ (t : Tree) (cs : List Cell) where
  numbered_next : (xs : List ℕ) (n : ℕ) → numbered xs (n + 1) ≡ get_elem? xs n
  unfolding numbered
  numbered_next xs n = ap (numbered xs) (add-one n)

  pub probe_shown : (n : ℕ) {k : ℕ} → n < indicators → ProbeAt t n k → probe_indicator t cs k ≡ indicator_of t cs (n + 1)
  unfolding indicator_of probes_of
  probe_shown n {k} h p =
      go (dec_lt k (length t.properties))
      ∙ ap (or_blank t cs)
      (sym (numbered_next (take indicators (live_of t)) n
      ∙ taken_at indicators (live_of t) n h
      ∙ left_at (live_of t) n
      ∙ ap (λ l. get_elem? l 0) (sym p.rest)))
    where
      go : Dec (k < length t.properties) → probe_indicator t cs k ≡ or_blank t cs (get_elem? (places_in is_live t k) 0)
      go (yes l) = ap (λ ks. or_blank t cs (get_elem? ks 0)) (sym (places_next is_live t l (p.live l)))
      go (no l) =
          let past : length t.properties ≤ k = omega (arith, l) in
          shown_past t cs k past ∙ ap (λ ks. or_blank t cs (get_elem? ks 0)) (sym (places_none is_live t past))

  pub none_behind : (n : ℕ) → indicators ≤ n → blank ≡ indicator_of t cs (n + 1)
  unfolding indicator_of probes_of
  none_behind n h =
      ap (or_blank t cs) (sym (numbered_next (take indicators (live_of t)) n ∙ taken_none indicators (live_of t) n h))

-- Status bits in their places, and a format of three bits.
pub record Marked (i : Indicator) : Type 0 where
  pub status : i.status % 2 ^ 3 ≡ 0
  pub format : i.format < 2 ^ 3

valued_marked : (code : ℕ) (n : Number) → code < 2 ^ 3 → Marked (valued code n)
unfolding valued
valued_marked code n h =
    if_both Marked (fits n) (record { status = refl; format = h }) (record { status = refl; format = h })

pub probe_marked : (t : Tree) (cs : List Cell) (k : ℕ) → Marked (probe_indicator t cs k)
unfolding probe_indicator
probe_marked t cs k = go (reading (property_in t k) (cell_in cs k))
  where
    small : decimals (property_in t k) < 2 ^ 3
    small = omega arith

    go : (o : Option ℕ) → Marked (shown (property_in t k) o)
    go none = record { status = refl; format = small }
    go (some w) = valued_marked (decimals (property_in t k)) _ small

pub indicator_marked : (t : Tree) (cs : List Cell) (n : ℕ) → Marked (indicator_of t cs n)
unfolding indicator_of
indicator_marked t cs n = go (numbered (probes_of t) n)
  where
    go : (o : Option ℕ) → Marked (or_blank t cs o)
    go none = record { status = refl; format = omega arith }
    go (some k) = probe_marked t cs k

-- The eight bytes.
pub data-joined : (t : Tree) (cs : List Cell) (kind : ℕ) {i j : Indicator} {x y : List ℕ} → i ≡ indicator_of t cs (first_of kind)
    → j ≡ indicator_of t cs (first_of kind + 1) → x ≡ bytes_of i → y ≡ bytes_of j
    → get_or x 0 0 ∷ get_or x 1 0 ∷ get_or x 2 0 ∷ get_or x 3 0 ∷ get_or y 0 0 ∷ get_or y 1 0 ∷ get_or y 2 0 ∷ get_or y 3 0 ∷ [] ≡ data_of t cs kind
unfolding data_of bytes_of
data-joined t cs kind e f g h = rw (g, h, e, f) refl

pub data-length : (t : Tree) (cs : List Cell) (kind : ℕ) → length (data_of t cs kind) ≡ 8
unfolding data_of bytes_of
data-length t cs kind = refl

-- A frame sent, or refused, by the tests of the code.
module _ (tree cells : List ℕ) (base sub kind : ℕ) (old : List ℕ) where
  unsent_as : (m : ℕ) {what : Sent} → what ≡ unsent m → Sends what old m 0 old
  unsent_as m e = rw e (record { number = refl; identifier_is = refl; bytes = sym (over_nil old) })

  pub unsent_broken : (e : Refusal) → refusal_number e ≡ lent_number tree cells → Sends (send_in tree cells base sub kind (length old)) old (refusal_number e) 0 old
  unfolding send_in
  unsent_broken e h =
      unsent_as (refusal_number e)
      (rw (lent_refused tree cells h (refusal_some e)) (ap unsent (sym (refused_unsound tree cells h (refusal_some e)))))

  module _ (lent : is_lent tree cells ≡ true) where
    pub unsent_short : length old < 8 → Sends (send_in tree cells base sub kind (length old)) old no_room 0 old
    unfolding send_in
    unsent_short h = unsent_as no_room (rw (lent, lt-ltb (length old) 8 h))

    module _ (room : 8 ≤ length old) where
      pub unsent_other : (is_station base sub && is_indicator_type kind) ≡ false
          → Sends (send_in tree cells base sub kind (length old)) old bad_identifier 0 old
      unfolding send_in
      unsent_other k = unsent_as bad_identifier (rw (lent, le-ltb (length old) 8 room, k))

      pub sent_frame : is_station base sub ≡ true → is_indicator_type kind ≡ true → {i : ℕ} {ys : List ℕ} → i ≡ identifier base sub kind
          → ys ≡ data_of (seen tree) (cells_in cells) kind → Sends (send_in tree cells base sub kind (length old)) old done i (ys ++ drop 8 old)
      unfolding send_in over
      sent_frame s k f e =
          rw (lent, le-ltb (length old) 8 room, s, k)
          (record {
            number = refl;
            identifier_is = f;
            bytes = ap₂ (λ ys n. ys ++ drop n old) e (sym (data-length (seen tree) (cells_in cells) kind));
          })
