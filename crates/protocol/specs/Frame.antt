-- 01, Frames on the wire: frames and datagrams, as written and as read. 003, sections 2 and 3, has the same frames.
use Rattle.std.specs.Prelude.{ℕ, ◌-◌, ◌%◌, ◌^◌, ◌≤◌, Bool, true, false, cond, ◌&&◌, List, [], ◌∷◌, ◌++◌, length, get_or, take, drop, eqb, ltb, leb}
use Rattle.std.proofs.Math.Option.{Option, none, some}
use Rattle.protocol.specs.Numbers.{done, no_preamble, bad_pair, too_short, too_long, bad_checksum, other_address, no_room, STX, ETX, DLE, max_data, max_content}
use Rattle.protocol.specs.Bytes.{sum, every}

-- Doubling: each 10h is written twice.
abbrev pub doubled : ℕ → List ℕ
doubled b = cond (eqb b DLE) (DLE ∷ DLE ∷ []) (b ∷ [])

unfoldable pub double : List ℕ → List ℕ
double [] = []
double (b ∷ bs) = doubled b ++ double bs

-- The checksum of address and data, which are not doubled yet: 255 less their sum mod 256.
unfoldable pub checksum : List ℕ → ℕ
checksum bs = 255 - sum bs % 2 ^ 8

-- The content of a frame: address, data, checksum.
unfoldable pub content_of : ℕ → List ℕ → List ℕ
content_of address bs = address ∷ (bs ++ checksum (address ∷ bs) ∷ [])

-- A content between 10 02 and 10 03, doubled.
unfoldable pub wrap : List ℕ → List ℕ
wrap content = DLE ∷ STX ∷ (double content ++ DLE ∷ ETX ∷ [])

-- The written frame of data for an address.
unfoldable pub frame : ℕ → List ℕ → List ℕ
frame address bs = wrap (content_of address bs)

-- The datagram of data: four zero bytes in front.
unfoldable pub datagram : List ℕ → List ℕ
datagram bs = 0 ∷ 0 ∷ 0 ∷ 0 ∷ bs

-- What reading gives: a number, and with 0 the data; a refusal has no data.
pub record Received : Type 0 where
  pub number : ℕ
  pub payload : List ℕ

abbrev pub received : List ℕ → Received
received bs = record { number = done; payload = bs }

abbrev pub refused : ℕ → Received
refused n = record { number = n; payload = [] }

-- The house rule on data: 1 to 256 bytes.
pub record Sized (bs : List ℕ) : Type 0 where
  pub least : 1 ≤ length bs
  pub most : length bs ≤ max_data

-- 01, Numbers returned, rows 4 and 5: by how many bytes data has.
unfoldable pub size_number : ℕ → ℕ
size_number n = cond (eqb n 0) too_short (cond (ltb max_data n) too_long done)

-- What is done with a number of 0 alone.
abbrev pub if_done : ℕ → Received → Received
if_done n r = cond (eqb n done) r (refused n)

unfoldable pub if_sized : List ℕ → Received → Received
if_sized bs r = if_done (size_number (length bs)) r

-- Data written as a frame for an address, and as a datagram.
abbrev pub write_frame : ℕ → List ℕ → Received
write_frame address bs = if_sized bs (received (frame address bs))

abbrev pub write_datagram : List ℕ → Received
write_datagram bs = if_sized bs (received (datagram bs))

-- Row 8: a call with less room than its kind of output needs is refused before anything else is looked at.
unfoldable pub if_room : ℕ → ℕ → Received → Received
if_room least room r = cond (ltb room least) (refused no_room) r

-- The three parts of a content.
abbrev pub address_in : List ℕ → ℕ
address_in content = get_or content 0 0

abbrev pub data_in : List ℕ → List ℕ
data_in content = take (length content - 2) (drop 1 content)

abbrev pub checksum_in : List ℕ → ℕ
checksum_in content = get_or content (length content - 1) 0

-- 01, The stream: the judgement of a closed frame for an address, rows 4, 6 and 7.
unfoldable pub judge : ℕ → List ℕ → Received
judge address content =
    cond (ltb (length content) 3)
    (refused too_short)
    (cond (eqb (checksum_in content) (checksum (take (length content - 1) content)))
    (cond (eqb (address_in content) address) (received (data_in content)) (refused other_address))
    (refused bad_checksum))

abbrev pub push : ℕ → Option (List ℕ) → Option (List ℕ)
push b none = none
push b (some bs) = some (b ∷ bs)

-- The very end: nothing follows.
abbrev pub at_end : List ℕ → Option (List ℕ)
at_end [] = some []
at_end (b ∷ bs) = none

-- 01, Numbers returned, row 3: the content of bytes that are pairs 10 10 and lone bytes, with one pair 10 03 as their very
-- end; none of any other bytes. The first argument: a 10h waits for the other byte of its pair.
unfoldable pub undouble : Bool → List ℕ → Option (List ℕ)
undouble true [] = none
undouble true (b ∷ bs) =
    elim (eqb b DLE) [ true ↦ push DLE (undouble false bs) | false ↦ elim (eqb b ETX) [ true ↦ at_end bs | false ↦ none ] ]
undouble false [] = none
undouble false (b ∷ bs) = elim (eqb b DLE) [ true ↦ undouble true bs | false ↦ push b (undouble false bs) ]

-- Rows 3 to 7 of a whole string, by its content. (Rows 4 and 5 never hold together.)
unfoldable pub judge_whole : ℕ → Option (List ℕ) → Received
judge_whole address none = refused bad_pair
judge_whole address (some content) = cond (ltb max_content (length content)) (refused too_long) (judge address content)

-- A whole serial string read for an address: rows 2 to 7, in their order, and the data.
unfoldable pub read_frame : ℕ → List ℕ → Received
read_frame address s =
    cond (eqb (get_or s 0 0) DLE && eqb (get_or s 1 0) STX)
    (judge_whole address (undouble false (drop 2 s)))
    (refused no_preamble)

-- As many bytes of the data as there is room for; the number stays.
abbrev pub cut : ℕ → Received → Received
cut room r = record { number = r.number; payload = take room r.payload }

-- A datagram read: rows 2, 4 and 5, and the data, which is the datagram itself from byte 4 on.
abbrev pub four_zeros : List ℕ → Bool
four_zeros s = leb 4 (length s) && every (λ b. eqb b 0) (take 4 s)

unfoldable pub read_datagram : List ℕ → Received
read_datagram s = cond (four_zeros s) (if_sized (drop 4 s) (received (drop 4 s))) (refused no_preamble)
