-- No public promise is stated by these definitions: they follow the code step by step.
use Rattle.std.specs.Prelude.{Option, Some, None, Result, Ok, Err, ◌≡◌, ℕ, zero, suc, ◌+◌, ◌-◌, ◌%◌, ◌^◌, cond, List, [], ◌∷◌, ◌++◌, length, drop, ◌==◌, nat_lt, slice_index}
use Rattle.std.proofs.Math.Option as math
use Rattle.protocol.specs.Numbers.{DLE, ETX, max_content}
use Rattle.protocol.specs.Bytes.{sum}
use Rattle.protocol.specs.Frame.{received, refused, doubled, double, read_frame}
use Rattle.protocol.specs.Buffer.{Put}
use Rattle.protocol.specs.declared.Refusal.{Refusal}
use Rattle.protocol.specs.declared.Refusal.TheVariants.{TooShort, TooLong, BadChecksum, OtherAddress}
use Rattle.protocol.specs.Refusal.{refusal_number}
use Rattle.frame.specs.declared.read.Tally.{Tally}
use Rattle.frame.specs.declared.read.Piece.{Piece}
use Rattle.frame.specs.declared.read.Piece.TheVariants.{Lone, Doubled, End, Bad}

-- 02, section 4: what is kept of the bytes added, from the address on: their sum mod 256.
abbrev pub byte_sum : List ℕ → ℕ
byte_sum bs = sum bs % 2 ^ 8

-- The same sentence, of one byte more: what is kept of any bytes becomes what is kept of them and b. Every byte is kept of some
-- bytes (`kept_alone`), so this fixes r.
abbrev pub Adds : ℕ → ℕ → ℕ → Type 0
Adds kept b r = (bs : List ℕ) → kept ≡ byte_sum bs → r ≡ byte_sum (bs ++ b ∷ [])

-- Bytes put from a place on, doubled, and added to the sum that an address began.
pub record PutBody (from address : ℕ) (bs old : List ℕ) (at total : ℕ) (new : List ℕ) : Type 0 where
  pub put : Put from (double bs) old at new
  pub summed : total ≡ byte_sum (address ∷ bs)

-- A pair, and whether anything follows it.
abbrev pub ending : List ℕ → Piece
ending [] = End
ending (b ∷ bs) = Bad

abbrev pub pair : ℕ → List ℕ → Piece
pair p bs = cond (p == DLE) Doubled (cond (p == ETX) (ending bs) Bad)

-- The piece at the front of some bytes.
unfoldable pub piece_of : List ℕ → Piece
piece_of [] = Bad
piece_of (b ∷ []) = cond (b == DLE) Bad (Lone b)
piece_of (b ∷ p ∷ bs) = cond (b == DLE) (pair p bs) (Lone b)

-- The tally of a content.
pub record Tallies (c : List ℕ) (t : Tally) : Type 0 where
  pub count : t.count ≡ length c
  pub total : t.sum ≡ byte_sum c
  pub first : t.first ≡ slice_index c 0

-- One byte more.
pub record OneMore (t : Tally) (b : ℕ) (r : Tally) : Type 0 where
  pub count : r.count ≡ t.count + 1
  pub total : Adds t.sum b r.sum
  pub first : r.first ≡ cond (t.count == 0) b t.first

-- What a pass finds of bytes that have a content, and of bytes that have none.
abbrev pub ScanOf : math.Option (List ℕ) → Option Tally → Type 0
ScanOf math.none (Some t) = ⊥
ScanOf math.none None = Unit {0}
ScanOf (math.some c) (Some t) = Tallies c t
ScanOf (math.some c) None = ⊥

-- The judgement of a content by its tally: where the checksum is right, all bytes of the content sum up to 255. A content that
-- passes has its data between its first and its last byte.
unfoldable pub judged : ℕ → Tally → Result ℕ Refusal
judged address t =
    cond (nat_lt t.count 3)
    (Err TooShort)
    (cond (nat_lt max_content t.count)
    (Err TooLong)
    (cond (t.sum == 255)
    (cond (t.first == address) (Ok (t.count - 2)) (Err OtherAddress))
    (Err BadChecksum)))

-- The first n content bytes of doubled bytes, or as many as there are: behind a 10h its second byte is passed over.
unfoldable pub content_from : ℕ → List ℕ → List ℕ
content_from zero bs = []
content_from (suc n) [] = []
content_from (suc n) (b ∷ bs) = b ∷ content_from n (drop (length (doubled b)) (b ∷ bs))

-- What `check_frame` says of a string read for an address: its refusal, or how long its data is, which is the content from behind
-- the address on.
abbrev pub Checks : ℕ → List ℕ → Result ℕ Refusal → Type 0
Checks address s (Ok n) = read_frame address s ≡ received (content_from n (drop (2 + length (doubled address)) s))
Checks address s (Err e) = read_frame address s ≡ refused (refusal_number e)
