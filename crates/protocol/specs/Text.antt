-- Text, as lists of ASCII codes: numbers, paths, bytes in hex, and lines.
use Rattle.std.specs.Prelude.{ℕ, zero, suc, ◌+◌, ◌/◌, ◌%◌, Bool, true, false, cond, ◌&&◌, List, [], ◌∷◌, ◌++◌, length, eqb, ltb}

-- What each entry gives, one behind the other.
module _ {A B : Type 0} (f : A → List B) where
  unfoldable pub each : List A → List B
  each [] = []
  each (x ∷ xs) = f x ++ each xs

-- A decimal digit: "0" to "9".
abbrev pub digit : ℕ → ℕ
digit d = 48 + d

-- The digits of a number, the highest first; `left` is how many more there may be.
unfoldable pub decimal_in : ℕ → ℕ → List ℕ
decimal_in zero n = digit n ∷ []
decimal_in (suc left) n = elim (ltb n 10) [ true ↦ digit n ∷ [] | false ↦ decimal_in left (n / 10) ++ digit (n % 10) ∷ [] ]

-- A number in decimal, with no leading zero: it has no more than n digits beside its last. What this comes to is said by
-- `decimal_small` and `decimal_more`.
unfoldable pub decimal : ℕ → List ℕ
decimal n = decimal_in n n

-- Numbers behind a first one, each with a dot in front.
unfoldable pub dotted_on : List ℕ → List ℕ
dotted_on [] = []
dotted_on (n ∷ ns) = 46 ∷ (decimal n ++ dotted_on ns)

-- 02, section 1: a path, dotted: its numbers in decimal with a dot between them.
unfoldable pub dotted : List ℕ → List ℕ
dotted [] = []
dotted (n ∷ ns) = decimal n ++ dotted_on ns

-- A hex digit, upper case: "0" to "9", "A" to "F".
unfoldable pub hex_digit : ℕ → ℕ
hex_digit n = cond (ltb n 10) (48 + n) (55 + n)

abbrev pub hex_byte : ℕ → List ℕ
hex_byte b = hex_digit (b / 16) ∷ hex_digit (b % 16) ∷ []

abbrev pub hex : List ℕ → List ℕ
hex bs = each hex_byte bs

-- A text that stands in front of some bytes, and two texts that are the same.
unfoldable pub begins : List ℕ → List ℕ → Bool
begins [] bs = true
begins (c ∷ cs) [] = false
begins (c ∷ cs) (b ∷ bs) = eqb c b && begins cs bs

unfoldable pub same_text : List ℕ → List ℕ → Bool
same_text s t = eqb (length s) (length t) && begins s t

-- A line: a key, "=", a value, and the 0Ah that ends it.
unfoldable pub line : List ℕ → List ℕ → List ℕ
line key value = key ++ 61 ∷ (value ++ 10 ∷ [])

-- "answer": the key of the number that a program answers with.
abbrev pub answer_key : List ℕ
answer_key = 97 ∷ 110 ∷ 115 ∷ 119 ∷ 101 ∷ 114 ∷ []
