-- Lists of bytes: numbers in them, texts in them, and tests on every entry.
use Rattle.std.specs.Prelude.{ℕ, ◌+◌, ◌*◌, ◌/◌, ◌%◌, ◌^◌, ◌<◌, Bool, true, false, ◌&&◌, List, [], ◌∷◌, ◌++◌, get_or, eqb, leb}
use Rattle.protocol.specs.Numbers.{byte_end}

-- Every entry is a byte. (Past the end `get_or` gives 0.)
abbrev pub Bytes : List ℕ → Type 0
Bytes bs = (i : ℕ) → get_or bs i 0 < byte_end

-- A test passes at every entry.
module _ {A : Type 0} where
  unfoldable pub every : (A → Bool) → List A → Bool
  every f [] = true
  every f (x ∷ xs) = f x && every f xs

-- 01, Requests and replies: a number of 16 and of 32 bits, the high byte first.
unfoldable pub half : ℕ → List ℕ
half n = n / 2 ^ 8 % 2 ^ 8 ∷ n % 2 ^ 8 ∷ []

unfoldable pub word : ℕ → List ℕ
word n = n / 2 ^ 24 % 2 ^ 8 ∷ n / 2 ^ 16 % 2 ^ 8 ∷ n / 2 ^ 8 % 2 ^ 8 ∷ n % 2 ^ 8 ∷ []

-- The number that bytes stand for, high byte first, with n in front of them.
unfoldable pub number_after : ℕ → List ℕ → ℕ
number_after n [] = n
number_after n (b ∷ bs) = number_after (n * 2 ^ 8 + b) bs

abbrev pub number : List ℕ → ℕ
number bs = number_after 0 bs

-- 01, Requests and replies: a text with the zero byte that ends it, and several of them.
unfoldable pub text : List ℕ → List ℕ
text s = s ++ 0 ∷ []

unfoldable pub texts : List (List ℕ) → List ℕ
texts [] = []
texts (s ∷ ss) = text s ++ texts ss

-- The sum of the entries.
unfoldable pub sum : List ℕ → ℕ
sum [] = 0
sum (b ∷ bs) = b + sum bs

-- Bit k of a number.
abbrev pub bit : ℕ → ℕ → Bool
bit k n = eqb (n / 2 ^ k % 2) 1

-- Words in order, signed or not: of signed ones the sign bit is turned over before they are compared.
unfoldable pub ordered : Bool → ℕ → ℕ
ordered true n = (n + 2 ^ 31) % 2 ^ 32
ordered false n = n

unfoldable pub at_most : Bool → ℕ → ℕ → Bool
at_most signed m n = leb (ordered signed m) (ordered signed n)
