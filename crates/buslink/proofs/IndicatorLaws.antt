-- An indicator's four bytes, put together and taken apart.
-- Assumes nothing.
use Prim.Native.Nat.{ℕ, ◌+◌, ◌*◌, ◌/◌, ◌%◌, ◌^◌, ◌<◌, ◌≤◌}
use native.Mathlib.Omega.{arith}
use native.Mathlib.Nat.{div-div-eq-div-mul}
use mathlib.Core.Path.{◌≡◌, sym, ap, ap₂, ◌∙◌}
use mathlib.Core.Bool.{not, ◌&&◌}
use mathlib.Core.List.{List, [], ◌∷◌, ◌++◌}
use borrow.Author.Tests.{lt-ltb, le-ltb}
use lib.Bits.{bit_and, bit_or, or_shifted}
use lib.Dec.{eqb}
use lib.ListN.{get_or}
use Rattle.buslink.specs.declared.indicator.Indicator.{Indicator}
use Rattle.buslink.specs.Indicator.{bytes_of, extended, indicator_in, is_usable}
use Rattle.buslink.specs.Steps.{usable_byte}
use Rattle.protocol.proofs.PackLaws.{packing}

-- 24 bits as a word.
pub no_sign : (v : ℕ) → v / 2 ^ 23 ≡ 0 → v ≡ extended v
unfolding extended
no_sign v h = rw (lt-ltb v (2 ^ 23) (omega (arith, h)))

pub sign : (v : ℕ) → v < 2 ^ 24 → (v / 2 ^ 23 ≡ 0 → ⊥) → bit_or 0xFF000000 v ≡ extended v
unfolding extended
sign v h d =
    let far : 2 ^ 23 ≤ v = omega (arith, d) in
    packing.joined 32 24 255 v (omega arith) h ∙ rw (le-ltb v (2 ^ 23) far) (omega arith)

-- The fourth byte.
pub upper_five : (d : ℕ) → d < 2 ^ 8 → bit_and d 0xF8 ≡ d / 2 ^ 3 * 2 ^ 3
upper_five d h = packing.upper d 5 3 ∙ omega (arith, h)

pub fourth : (status format : ℕ) → status % 2 ^ 3 ≡ 0 → format < 2 ^ 3 → bit_or status format ≡ status + format
fourth status format h k =
    let whole : status ≡ status / 2 ^ 3 * 2 ^ 3 = omega (arith, h) in
    ap (λ n. bit_or n format) whole ∙ or_shifted (status / 2 ^ 3) 3 format k ∙ ap (λ n. n + format) (sym whole)

-- The indicator in four bytes, and its four bytes.
pub taken_apart : (bs : List ℕ) {v w : ℕ} → get_or bs 3 0 < 2 ^ 8 → v ≡ get_or bs 0 0 + get_or bs 1 0 * 2 ^ 8 + get_or bs 2 0 * 2 ^ 16 → w ≡ extended v
    → record { value = w; status = bit_and (get_or bs 3 0) 0xF8; format = bit_and (get_or bs 3 0) 7 } ≡ indicator_in bs
unfolding indicator_in
taken_apart bs h e f = rw (f, e, upper_five (get_or bs 3 0) h, packing.lower (get_or bs 3 0) 3)

pub put_together : (i : Indicator) {a b c : ℕ} → a ≡ i.value % 2 ^ 8 → b ≡ i.value / 2 ^ 8 % 2 ^ 8 → c ≡ i.value / 2 ^ 16 % 2 ^ 8
    → i.status % 2 ^ 3 ≡ 0 → i.format < 2 ^ 3 → a ∷ b ∷ c ∷ bit_or i.status i.format ∷ [] ≡ bytes_of i
unfolding bytes_of
put_together i e f g s h = rw (e, f, g, fourth i.status i.format s h)

pub usable_fourth : (bs : List ℕ) → is_usable (indicator_in bs) ≡ usable_byte (get_or bs 3 0)
unfolding is_usable indicator_in
usable_fourth bs =
    let d : ℕ = get_or bs 3 0 in
    let high : d / 2 ^ 3 * 2 ^ 3 / 2 ^ 7 ≡ d / 2 ^ 7 = omega arith in
    let next : d / 2 ^ 3 * 2 ^ 3 / 2 ^ 6 ≡ d / 2 ^ 6 = omega arith in
    ap₂ (λ m n. eqb (m % 2) 1 && not (eqb (n % 2) 1)) high next

-- What can be sent as it is: a value of 24 bits with its sign, status bits in their places, a format of three bits.
pub record Sendable (i : Indicator) : Type 0 where
  pub value : extended (i.value % 2 ^ 24) ≡ i.value
  pub status : i.status % 2 ^ 3 ≡ 0
  pub format : i.format < 2 ^ 3

pub read_back : (i : Indicator) (bs : List ℕ) → Sendable i → indicator_in (bytes_of i ++ bs) ≡ i
unfolding bytes_of indicator_in
read_back i bs s =
    let v : ℕ = i.value in
    let e : v % 2 ^ 8 + v / 2 ^ 8 % 2 ^ 8 * 2 ^ 8 + v / 2 ^ 16 % 2 ^ 8 * 2 ^ 16 ≡ v % 2 ^ 24 = omega (arith, div-div-eq-div-mul v (2 ^ 8) (2 ^ 8)) in
    let whole : i.status ≡ i.status / 2 ^ 3 * 2 ^ 3 = omega (arith, s.status) in
    let parts = packing.parted 3 (i.status / 2 ^ 3) i.format s.format in
    let status : (i.status + i.format) / 2 ^ 3 * 2 ^ 3 ≡ i.status = ap (λ n. (n + i.format) / 2 ^ 3 * 2 ^ 3) whole ∙ ap (λ n. n * 2 ^ 3) parts.0 ∙ sym whole in
    let format : (i.status + i.format) % 2 ^ 3 ≡ i.format = ap (λ n. (n + i.format) % 2 ^ 3) whole ∙ parts.1 in
    rw (ap extended e ∙ s.value, status, format)
