-- What is read at the front of some bytes, as code hands it back.
use Rattle.std.specs.Prelude.{ℕ, ◌+◌, ◌-◌, ◌*◌, ◌%◌, ◌≡◌, Bool, true, false, cond, ◌&&◌, List, Option, Some, None, is_some, unwrap_or, ltb, leb}
use Rattle.protocol.specs.Numbers.{word_end}
use Rattle.protocol.specs.Signed.{Number, is_word, word_for, digits_in, value}
use Rattle.text.specs.declared.read.Digits.{Digits}
use Rattle.text.specs.declared.read.Numeral.{Numeral}

-- A number, if it is one of 32 bits.
abbrev pub in_word : ℕ → Option ℕ
in_word n = cond (ltb n word_end) (Some n) None

-- Such a number with one digit more.
abbrev pub Adds : Option ℕ → ℕ → Option ℕ → Type 0
Adds so_far d r = (n : ℕ) → so_far ≡ in_word n → r ≡ in_word (n * 10 + d)

-- Such a number if it is at most another, and the word of one that is below zero.
abbrev pub at_most : Option ℕ → ℕ → Option ℕ
at_most None most = None
at_most (Some n) most = cond (leb n most) (Some n) None

abbrev pub negated : Option ℕ → Option ℕ
negated None = None
negated (Some n) = Some ((word_end - n) % word_end)

pub record DigitsAre (bs : List ℕ) (r : Digits) : Type 0 where
  pub len : r.len ≡ digits_in bs
  pub number : r.number ≡ in_word (value bs)

abbrev pub number : Bool → ℕ → Number
number below size = record { below = below; size = size }

-- A number that was read: whether one stands there, whether it is one of 32 bits, the word that holds it, and how many bytes it
-- takes with its 0Ah.
pub record Told : Type 0 where
  pub is : Bool
  pub fits : Bool
  pub word : ℕ
  pub size : ℕ

-- What reading one hands back tells so; what there is not is 0.
abbrev pub told_of : Option Numeral → Told
told_of None = record { is = false; fits = false; word = 0; size = 0 }
told_of (Some m) = record { is = true; fits = is_some m.word; word = unwrap_or m.word 0; size = m.size }

-- Whether a number stands there, whether it is one of 32 bits, its word, and how many bytes it takes; what there is not is 0.
pub record ToldIs (stands signed : Bool) (n : Number) (size : ℕ) (r : Told) : Type 0 where
  pub is : r.is ≡ stands
  pub fits : r.fits ≡ (stands && is_word signed n)
  pub word : r.word ≡ cond (stands && is_word signed n) (word_for n) 0
  pub bytes : r.size ≡ cond stands size 0
