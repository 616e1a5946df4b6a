-- Stations, types and identifiers.
-- Assumes nothing.
use Prim.Native.Nat.{ℕ, ◌+◌, ◌-◌, ◌*◌, ◌/◌, ◌%◌, ◌^◌, ◌<◌, ◌≤◌}
use native.Mathlib.Omega.{arith}
use mathlib.Core.Path.{◌≡◌, refl, sym, ap, ◌∙◌}
use mathlib.Core.Bool.{true, false}
use borrow.Author.Tests.{eq-eqb, ne_eqb, leb-true, eqb-true}
use lib.Bits.{bit_or, or_shifted}
use lib.Dec.{leb}
use Rattle.protocol.proofs.TestLaws.{and_left, and_right, and_both}
use Rattle.buslink.specs.Identifier.{is_station, is_indicator_type, identifier, type_in, is_for}
use Rattle.protocol.proofs.PackLaws.{packing}

-- The bounds of addresses and types.
pub record Station (base sub : ℕ) : Type 0 where
  pub base_from : 1 ≤ base
  pub base_to : base ≤ 8
  pub sub_from : 1 ≤ sub
  pub sub_to : sub ≤ 5

module _ (base sub : ℕ) where
  pub station_parts : is_station base sub ≡ true → Station base sub
  unfolding is_station
  station_parts h =
      let rest = and_right (leb 1 base) _ h in
      let subs = and_right (leb base 8) _ rest in
      record {
        base_from = leb-true 1 base (and_left (leb 1 base) _ h);
        base_to = leb-true base 8 (and_left (leb base 8) _ rest);
        sub_from = leb-true 1 sub (and_left (leb 1 sub) _ subs);
        sub_to = leb-true sub 5 (and_right (leb 1 sub) _ subs);
      }

module _ (kind : ℕ) where
  pub type_parts : is_indicator_type kind ≡ true → (2 ≤ kind) × (kind ≤ 9)
  unfolding is_indicator_type
  type_parts h = (leb-true 2 kind (and_left (leb 2 kind) _ h), leb-true kind 9 (and_right (leb 2 kind) _ h))

-- The three fields of an identifier: 1555h above the type, and that above the station.
module _ (base sub kind : ℕ) (station : is_station base sub ≡ true) (carries : is_indicator_type kind ≡ true) where
  bounds : Station base sub
  bounds = station_parts base sub station

  types : (2 ≤ kind) × (kind ≤ 9)
  types = type_parts kind carries

  low : 5 * (base - 1) + sub < 2 ^ 8
  low = let s = bounds in omega (arith, s.base_to, s.sub_to)

  pub fields : bit_or (bit_or 0x15550000 ((kind * 2 ^ 8) % 2 ^ 32)) (5 * (base - 1) + sub) ≡ identifier base sub kind
  unfolding identifier
  fields =
      let typed : (kind * 2 ^ 8) % 2 ^ 32 ≡ kind * 2 ^ 8 = omega (arith, types.1) in
      let above : bit_or 0x15550000 (kind * 2 ^ 8) ≡ 0x15550000 + kind * 2 ^ 8 = packing.joined 32 16 0x1555 (kind * 2 ^ 8) (omega arith) (omega (arith, types.1)) in
      let joined : 0x15550000 + kind * 2 ^ 8 ≡ (0x155500 + kind) * 2 ^ 8 = omega arith in
      ap (λ n. bit_or n (5 * (base - 1) + sub)) (ap (bit_or 0x15550000) typed ∙ above ∙ joined)
      ∙ or_shifted (0x155500 + kind) 8 (5 * (base - 1) + sub) low
      ∙ omega (arith, joined)

  pub type_in_lem : type_in (identifier base sub kind) ≡ kind
  unfolding identifier
  type_in_lem =
      let above : identifier base sub kind / 2 ^ 8 ≡ 0x155500 + kind = omega (arith, low) in
      ap (λ n. n % 2 ^ 4) above ∙ omega (arith, types.1)

  -- A station's identifier of a type 2 to 9 is taken as its own.
  pub station_for : is_for base sub (identifier base sub kind) ≡ true
  unfolding is_for
  station_for =
      and_both (ap is_indicator_type type_in_lem ∙ carries)
      (eq-eqb (identifier base sub kind) _ (ap (identifier base sub) (sym type_in_lem)))

-- What is taken is the identifier of a type 2 to 9, and that of no other station.
pub for_station : (base sub i : ℕ) → is_for base sub i ≡ true → (is_indicator_type (type_in i) ≡ true) × (i ≡ identifier base sub (type_in i))
unfolding is_for
for_station base sub i h =
    (and_left (is_indicator_type (type_in i)) _ h, eqb-true i _ (and_right (is_indicator_type (type_in i)) _ h))

-- Its last byte gives the two addresses back.
station_in : (base sub : ℕ) → Station base sub → (n : ℕ) → n ≡ 5 * (base - 1) + sub → (base ≡ (n - 1) / 5 + 1) × (sub ≡ (n - 1) % 5 + 1)
station_in base sub s n e = (omega (arith, s.base_from, s.sub_from, s.sub_to, e), omega (arith, s.base_from, s.sub_from, s.sub_to, e))

pub same_station : (base sub kind base' sub' kind' : ℕ) → Station base sub → Station base' sub'
    → identifier base sub kind ≡ identifier base' sub' kind' → (base ≡ base') × (sub ≡ sub')
unfolding identifier
same_station base sub kind base' sub' kind' s t e =
    let n : ℕ = 5 * (base - 1) + sub in
    let m : ℕ = 5 * (base' - 1) + sub' in
    let first : n ≡ identifier base sub kind % 2 ^ 8 = omega (arith, s.base_to, s.sub_to) in
    let second : m ≡ identifier base' sub' kind' % 2 ^ 8 = omega (arith, t.base_to, t.sub_to) in
    let same : n ≡ m = first ∙ ap (λ i. i % 2 ^ 8) e ∙ sym second in (
      (station_in base sub s n refl).0 ∙ sym (station_in base' sub' t n same).0,
      (station_in base sub s n refl).1 ∙ sym (station_in base' sub' t n same).1,
    )

-- Whose an identifier is, by the type in it.
module _ (base sub i : ℕ) {k : ℕ} (e : k ≡ type_in i) where
  pub other_type : is_indicator_type k ≡ false → is_for base sub i ≡ false
  unfolding is_for
  other_type h = rw (sym e, h)

  pub other_station : is_indicator_type k ≡ true → (identifier base sub k ≡ i → ⊥) → is_for base sub i ≡ false
  unfolding is_for
  other_station h d = rw (sym e, h, ne_eqb i (identifier base sub k) (λ q. d (sym q)))

  pub its_own : is_indicator_type k ≡ true → identifier base sub k ≡ i → is_for base sub i ≡ true
  unfolding is_for
  its_own h d = rw (sym e, h, eq-eqb i (identifier base sub k) (sym d))
