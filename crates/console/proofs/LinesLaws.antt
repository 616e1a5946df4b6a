-- The two lines of a frame at the front of a text: how long they are, and that they are put where there is room.
-- Assumes nothing.
use Prim.Native.Nat.{ℕ, ◌+◌, ◌*◌, ◌/◌, ◌%◌, ◌<◌, ◌≤◌}
use native.Mathlib.Omega.{arith}
use native.Mathlib.Decide.{dec_le}
use mathlib.Core.Path.{◌≡◌, refl, ap}
use mathlib.Core.List.{List, [], ◌∷◌, ◌++◌}
use lib.ListN.{length, length-append}
use Rattle.protocol.specs.Buffer.{Put, farthest, Laid}
use Rattle.protocol.specs.Text.{each, digit, decimal, hex, line, answer_key}
use Rattle.protocol.proofs.LayLaws.{laid_put}
use Rattle.protocol.proofs.DecimalLaws.{decimal_small, decimal_more}
use Rattle.console.specs.Lines.{reply_key, lines}

-- A number has at most one digit more than a tenth of it.
decimal_longer : (n k : ℕ) → length (decimal (n / 10)) ≤ k → length (decimal n) ≤ 1 + k
decimal_longer n k h = go (dec_le 10 n)
  where
    go : Dec (10 ≤ n) → length (decimal n) ≤ 1 + k
    go (yes l) = omega (arith, h, ap length (decimal_more n l), length-append (decimal (n / 10)) (digit (n % 10) ∷ []))
    go (no l) = omega (arith, ap length (decimal_small n (omega (arith, l))))

decimal_short : (n : ℕ) → n < 1000 → length (decimal n) ≤ 3
decimal_short n h =
    decimal_longer n 2 (decimal_longer (n / 10) 1 (omega (arith, ap length (decimal_small (n / 10 / 10) (omega (arith, h))))))

length-hex : (bs : List ℕ) → length (hex bs) ≡ 2 * length bs
unfolding each
length-hex [] = refl
length-hex (b ∷ bs) = omega (arith, length-hex bs)

length-line : (key value : List ℕ) → length (line key value) ≡ length key + (2 + length value)
unfolding line
length-line key value = omega (arith, length-append key (61 ∷ (value ++ 10 ∷ [])), length-append value (10 ∷ []))

lines_short : (number : ℕ) (reply : List ℕ) → number < 1000 → length (lines number reply) ≤ 18 + 2 * length reply
unfolding lines
lines_short number reply h =
    omega (
      arith,
      length-append (line answer_key (decimal number)) (line reply_key (hex reply)),
      length-line answer_key (decimal number),
      length-line reply_key (hex reply),
      decimal_short number h,
      length-hex reply,
    )

pub lines_put : {number r : ℕ} {old new : List ℕ} (reply : List ℕ) → number < 1000 → 18 + 2 * length reply ≤ length old → length old < farthest
    → Laid 0 (lines number reply) old r new → Put 0 (lines number reply) old r new
lines_put {number} reply h room k p = laid_put (omega (arith, room, lines_short number reply h)) k p
