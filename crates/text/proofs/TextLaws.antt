-- Text put into an output: a number digit by digit, bytes told one after the other, and a line.
-- Assumes nothing.
use Prim.Native.Nat.{ℕ, ◌+◌, ◌-◌, ◌/◌, ◌%◌, ◌^◌, ◌<◌, ◌≤◌}
use native.Mathlib.Omega.{arith}
use native.Mathlib.Numerals.{add-one}
use native.Mathlib.Nat.{mod-eq_of_lt}
use mathlib.Core.Path.{◌≡◌, sym, ap, ◌∙◌}
use mathlib.Core.Bool.{Bool, true, false}
use mathlib.Core.Logic.{◌⊎◌, inl, inr}
use mathlib.Core.List.{List, [], ◌∷◌, ◌++◌, append_assoc, append-nil}
use borrow.Author.Tests.{lt-ltb, le-ltb}
use lib.ListN.{length, take, get_or}
use lib.Seq.{take-suc, take_all}
use Rattle.protocol.specs.Numbers.{word_end}
use Rattle.protocol.specs.Text.{each, digit, decimal, dotted, dotted_on, hex_digit, hex_byte, hex, line}
use Rattle.protocol.specs.Signed.{number_of, numeral}
use Rattle.protocol.proofs.WalkLaws.{each_append}
use Rattle.protocol.proofs.DecimalLaws.{decimal_small, decimal_more}
use Rattle.protocol.proofs.SignedLaws.{plain-numeral, low_numeral, high_numeral}
use Rattle.text.specs.declared.output.Output.{Output}
use Rattle.text.specs.Lays.{Lays}
use Rattle.text.proofs.LaysLaws.{lays_nil, lays_as, lays_join}

-- A number of one digit, and a digit behind those of a tenth.
pub small_put : {n : ℕ} {a b : Output} → n < 10 → Lays (digit (n % 10) ∷ []) a b → Lays (decimal n) a b
small_put {n} h p = lays_as (ap (λ d. digit d ∷ []) (mod-eq_of_lt h) ∙ sym (decimal_small n h)) p

pub more_put : {n : ℕ} {a b c : Output} → 10 ≤ n → Lays (decimal (n / 10)) a b → Lays (digit (n % 10) ∷ []) b c → Lays (decimal n) a c
more_put {n} k p q = lays_as (sym (decimal_more n k)) (lays_join p q)

-- A word, signed or not: with no minus, and with one where it is below zero.
module _ (s : Bool) (w : ℕ) {a b : Output} where
  pub plain_put : (s ≡ false) ⊎ ((s ≡ true) × (w ≤ 2147483647)) → Lays (decimal w) a b → Lays (numeral (number_of s w)) a b
  plain_put h p =
      lays_as (sym (elim h [ inl e ↦ plain-numeral s w e | inr k ↦ low_numeral s w (omega (arith, k.1)) ])) p

  pub high_put : {m : ℕ} {c : Output} → s ≡ true → 2 ^ 31 ≤ w → m ≡ word_end - w → Lays (45 ∷ []) a b → Lays (decimal m) b c
      → Lays (numeral (number_of s w)) a c
  high_put h k e p q = lays_as (ap (λ n. 45 ∷ decimal n) e ∙ sym (high_numeral s w h k)) (lays_join p q)

-- The first i of some bytes told.
pub record Telling (text : List ℕ → List ℕ) (bs : List ℕ) (start now : Output) (i : ℕ) : Type 0 where
  pub within : i ≤ length bs
  pub lays : Lays (text (take i bs)) start now

module _ (text : List ℕ → List ℕ) (bs : List ℕ) {start now : Output} {i : ℕ} (t : Telling text bs start now i) where
  tell_more : {ys : List ℕ} {next : Output} → i < length bs → text (take i bs ++ get_or bs i 0 ∷ []) ≡ text (take i bs) ++ ys
      → Lays ys now next → Telling text bs start next (i + 1)
  tell_more k e p =
      record {
        within = omega arith;
        lays = lays_as (sym (ap (λ n. text (take n bs)) (add-one i) ∙ ap text (take-suc bs i 0 k) ∙ e)) (lays_join t.lays p);
      }

  tell_ends : length bs ≤ i → Lays (text bs) start now
  tell_ends h = lays_as (ap text (take_all i bs h)) t.lays

-- A hex digit: a numeral, and a letter.
pub digit_low : (n : ℕ) → n < 10 → 48 + n ≡ hex_digit n
unfolding hex_digit
digit_low n h = rw (lt-ltb n 10 h)

pub digit_high : (n : ℕ) → 10 ≤ n → 55 + n ≡ hex_digit n
unfolding hex_digit
digit_high n h = rw (le-ltb n 10 h)

-- Bytes in hex.
hex_snoc : (bs : List ℕ) (b : ℕ) → hex (bs ++ b ∷ []) ≡ hex bs ++ hex_byte b
unfolding each
hex_snoc bs b = each_append hex_byte bs (b ∷ [])

module _ (bs : List ℕ) where
  pub hex-begins : (start : Output) → Telling hex bs start start 0
  unfolding each
  hex-begins start = record { within = omega arith; lays = lays_nil start }

  pub hex_more : {ys : List ℕ} {start now next : Output} {i : ℕ} → Telling hex bs start now i → i < length bs
      → ys ≡ hex_byte (get_or bs i 0) → Lays ys now next → Telling hex bs start next (i + 1)
  hex_more {i = i} t k e p = tell_more hex bs t k (hex_snoc (take i bs) (get_or bs i 0)) (lays_as e p)

-- A path, dotted: its first number, and behind it the others, of which a loop tells the first i.
dots_snoc : (ns : List ℕ) (n : ℕ) → dotted_on (ns ++ n ∷ []) ≡ dotted_on ns ++ 46 ∷ decimal n
unfolding dotted_on
dots_snoc [] n = ap (λ l. 46 ∷ l) (append-nil (decimal n))
dots_snoc (m ∷ ns) n =
    ap (λ l. 46 ∷ (decimal m ++ l)) (dots_snoc ns n) ∙ ap (λ l. 46 ∷ l) (sym (append_assoc (decimal m) (dotted_on ns) (46 ∷ decimal n)))

pub dotted_none : (ns : List ℕ) (a : Output) → length ns ≡ 0 → Lays (dotted ns) a a
unfolding dotted
dotted_none [] a h = lays_nil a
dotted_none (n ∷ ns) a h = absurd (omega (arith, h))

module _ (ns : List ℕ) where
  pub dots_begin : (start : Output) → Telling dotted_on ns start start 0
  unfolding dotted_on
  dots_begin start = record { within = omega arith; lays = lays_nil start }

  pub dots_more : {start now dot next : Output} {i n : ℕ} → Telling dotted_on ns start now i → i < length ns
      → Lays (46 ∷ []) now dot → n ≡ get_or ns i 0 → Lays (decimal n) dot next → Telling dotted_on ns start next (i + 1)
  dots_more {i = i} t l p e q =
      tell_more dotted_on ns t l (dots_snoc (take i ns) (get_or ns i 0)) (lays_join p (lays_as (ap decimal e) q))

pub dotted-ends : {start first now : Output} {i n m : ℕ} {ns : List ℕ} (path : List ℕ) → path ≡ n ∷ ns → m ≡ n
    → Lays (decimal m) start first → Telling dotted_on ns first now i → length ns ≤ i → Lays (dotted path) start now
unfolding dotted
dotted-ends {ns = ns} path k e p t l = lays_as (sym (ap dotted k)) (lays_join (lays_as (ap decimal e) p) (tell_ends dotted_on ns t l))

-- A key, "=", a value, and the end of the line.
pub line_put : {a b c d e : Output} (key value : List ℕ) → Lays key a b → Lays (61 ∷ []) b c → Lays value c d → Lays (10 ∷ []) d e
    → Lays (line key value) a e
unfolding line
line_put key value p q r s =
    lays_as (append_assoc (key ++ 61 ∷ []) value (10 ∷ []) ∙ append_assoc key (61 ∷ []) (value ++ 10 ∷ []))
    (lays_join (lays_join (lays_join p q) r) s)
