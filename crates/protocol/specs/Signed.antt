-- 02, section 3: numbers with a sign as text, written and read.
use Rattle.std.specs.Prelude.{ℕ, suc, ◌+◌, ◌-◌, ◌*◌, ◌^◌, Bool, true, false, cond, not, ◌&&◌, List, [], ◌∷◌, get_or, take, drop, eqb, ltb, leb, ℤ, pos, neg_ℤ}
use Rattle.protocol.specs.Numbers.{word_end}
use Rattle.protocol.specs.Text.{decimal}

-- A number: whether it is below zero, and its size.
pub record Number : Type 0 where
  pub below : Bool
  pub size : ℕ

-- The number that a word holds, taken as signed or not.
unfoldable pub number_of : Bool → ℕ → Number
number_of signed w =
    cond (signed && leb (2 ^ 31) w) (record { below = true; size = word_end - w }) (record { below = false; size = w })

-- The same as an integer.
unfoldable pub integer_of : Number → ℤ
integer_of n = cond n.below (neg_ℤ (pos n.size)) (pos n.size)

-- Decimal, a minus sign where it is below zero, no leading zeros.
unfoldable pub numeral : Number → List ℕ
numeral n = cond n.below (45 ∷ decimal n.size) (decimal n.size)

-- A number that can be told so: one below zero only where it may be signed, and then not 0.
unfoldable pub is_told : Bool → Number → Bool
is_told signed n = cond n.below (signed && ltb 0 n.size) true

-- Whether a number is one of 32 bits (of a signed setting, 31 bits and the sign), and the word that holds it.
unfoldable pub is_word : Bool → Number → Bool
is_word signed n = cond n.below (leb n.size (2 ^ 31)) (ltb n.size (cond signed (2 ^ 31) word_end))

unfoldable pub word_for : Number → ℕ
word_for n = cond n.below (word_end - n.size) n.size

-- The digits in front of some bytes: how many there are, and their number.
abbrev pub is_digit : ℕ → Bool
is_digit c = leb 48 c && leb c 57

unfoldable pub digits_in : List ℕ → ℕ
digits_in [] = 0
digits_in (c ∷ cs) = cond (is_digit c) (suc (digits_in cs)) 0

-- The number of digits, with n in front of them.
unfoldable pub value_after : ℕ → List ℕ → ℕ
value_after n [] = n
value_after n (c ∷ cs) = value_after (n * 10 + (c - 48)) cs

abbrev pub value : List ℕ → ℕ
value bs = value_after 0 (take (digits_in bs) bs)

-- One digit or more, no leading zero, and then 0Ah.
unfoldable pub is_numeral : List ℕ → Bool
is_numeral bs =
    ltb 0 (digits_in bs)
    && (not (eqb (get_or bs 0 0) 48 && ltb 1 (digits_in bs)) && eqb (get_or bs (digits_in bs) 0) 10)

-- A minus sign in front.
abbrev pub has_minus : List ℕ → Bool
has_minus bs = eqb (get_or bs 0 0) 45

-- A number and the 0Ah that ends it, in front of some bytes: a minus only where it may be signed, and none before 0.
unfoldable pub is_number : Bool → List ℕ → Bool
is_number signed bs =
    cond (has_minus bs) (signed && (is_numeral (drop 1 bs) && not (eqb (get_or bs 1 0) 48))) (is_numeral bs)

-- The number that stands there, and how many bytes it takes with its 0Ah.
unfoldable pub number_in : List ℕ → Number
number_in bs =
    cond (has_minus bs) (record { below = true; size = value (drop 1 bs) }) (record { below = false; size = value bs })

unfoldable pub number_size : List ℕ → ℕ
number_size bs = cond (has_minus bs) (2 + digits_in (drop 1 bs)) (1 + digits_in bs)
