-- 01, Requests and replies: what a request is, how it is written, and how data is read as one.
use Rattle.std.specs.Prelude.{ℕ, suc, ◌-◌, Bool, cond, ◌&&◌, List, [], ◌∷◌, ◌++◌, ◌≡◌, length, get_or, take, drop, eqb, ltb, leb}
use Rattle.protocol.specs.Numbers.{done, unknown_command, bad_parameter, PDI, op_detect, op_node, op_read, op_write_extended, max_depth, byte_end, word_end}
use Rattle.protocol.specs.Bytes.{every, word, number}
use Rattle.protocol.specs.Frame.{Received, frame, datagram, read_frame, read_datagram}

-- A request is these four and nothing else. What its op does not ask for is empty or 0.
pub record Request : Type 0 where
  pub op : ℕ
  pub path : List ℕ
  pub index : ℕ
  pub value : ℕ

-- The request of an op, a path, an index and a value.
abbrev pub request_of : ℕ → List ℕ → ℕ → ℕ → Request
request_of op path index value = record { op = op; path = path; index = index; value = value }

-- A nonzero byte.
abbrev pub nonzero : ℕ → Bool
nonzero b = ltb 0 b && ltb b byte_end

-- A path: 1 to 16 nonzero bytes.
unfoldable pub is_path : List ℕ → Bool
is_path bs = leb 1 (length bs) && (leb (length bs) max_depth && every nonzero bs)

-- The table's middle column: op 0 asks for nothing, op 1 for a path, ops 2 and 3 for an index too, ops 4 and 5 for a value
-- too.
abbrev pub asks_path : ℕ → Bool
asks_path op = ltb op_detect op

abbrev pub asks_index : ℕ → Bool
asks_index op = ltb op_node op

abbrev pub asks_value : ℕ → Bool
asks_value op = ltb op_read op

-- Each part of a request keeps its rule where the op asks for it, and is empty or 0 where not.
abbrev pub path_fits : ℕ → List ℕ → Bool
path_fits op path = cond (asks_path op) (is_path path) (eqb (length path) 0)

abbrev pub index_fits : ℕ → ℕ → Bool
index_fits op index = cond (asks_index op) (nonzero index) (eqb index 0)

abbrev pub value_fits : ℕ → ℕ → Bool
value_fits op value = cond (asks_value op) (ltb value word_end) (eqb value 0)

unfoldable pub fits : Request → Bool
fits r = path_fits r.op r.path && (index_fits r.op r.index && value_fits r.op r.value)

-- What writing a request out answers for its shape: 10 for an op that the table lacks, 11 for what does not fit its op.
unfoldable pub allowance : Request → ℕ
allowance r = cond (ltb op_write_extended r.op) unknown_command (cond (fits r) done bad_parameter)

abbrev pub Allowed : Request → Type 0
Allowed r = allowance r ≡ done

-- The parts of the middle column.
abbrev pub index_part : Request → List ℕ
index_part r = cond (asks_index r.op) (r.index ∷ []) []

abbrev pub value_part : Request → List ℕ
value_part r = cond (asks_value r.op) (0 ∷ word r.value) []

-- The data of a request: B4, the op, and the middle column.
unfoldable pub data_of : Request → List ℕ
data_of r = PDI ∷ r.op ∷ (r.path ++ (index_part r ++ value_part r))

-- The written forms of a request: the frame of its data for an address, and the datagram of its data.
unfoldable pub serial_form : ℕ → Request → List ℕ
serial_form address r = frame address (data_of r)

unfoldable pub udp_form : Request → List ℕ
udp_form r = datagram (data_of r)

-- What reading gives: a number, and with 0 the request; a refusal's fields are empty and 0.
pub record Asked : Type 0 where
  pub number : ℕ
  pub request : Request

abbrev pub no_request : Request
no_request = request_of 0 [] 0 0

abbrev pub declined : ℕ → Asked
declined n = record { number = n; request = no_request }

-- A request that fits is read with 0; any other shape is 11.
unfoldable pub asked_if : Request → Asked
asked_if r = cond (fits r) (record { number = done; request = r }) (declined bad_parameter)

-- How many bytes stand before the first zero.
unfoldable pub before_zero : List ℕ → ℕ
before_zero [] = 0
before_zero (b ∷ bs) = cond (eqb b 0) 0 (suc (before_zero bs))

-- Path and index, the index last, with a value beside them.
unfoldable pub read_indexed : ℕ → ℕ → List ℕ → Asked
read_indexed op value bs = asked_if (request_of op (take (length bs - 1) bs) (get_or bs (length bs - 1) 0) value)

-- Ops 4 and 5: the first zero ends path and index, and exactly four bytes follow it.
unfoldable pub read_valued : ℕ → List ℕ → Asked
read_valued op bs =
    cond (eqb (length (drop (suc (before_zero bs)) bs)) 4)
    (read_indexed op (number (drop (suc (before_zero bs)) bs)) (take (before_zero bs) bs))
    (declined bad_parameter)

-- The bytes after B4 and the op.
unfoldable pub read_shape : ℕ → List ℕ → Asked
read_shape op bs =
    cond (asks_value op)
    (read_valued op bs)
    (cond (asks_index op) (read_indexed op 0 bs) (asked_if (request_of op bs 0 0)))

-- Data read as a request: rows 10 and 11. B4 by itself is 11. (No call comes here with no bytes: that is 4.)
unfoldable pub read_request : List ℕ → Asked
read_request [] = declined bad_parameter
read_request (c ∷ []) = cond (eqb c PDI) (declined bad_parameter) (declined unknown_command)
read_request (c ∷ op ∷ bs) =
    cond (eqb c PDI && leb op op_write_extended) (read_shape op bs) (declined unknown_command)

unfoldable pub read_payload : Received → Asked
read_payload r = cond (eqb r.number done) (read_request r.payload) (declined r.number)

-- A string read as a request for an address, and a datagram: first rows 2 to 7, then 10 and 11.
unfoldable pub read_serial : ℕ → List ℕ → Asked
read_serial address s = read_payload (read_frame address s)

unfoldable pub read_udp : List ℕ → Asked
read_udp s = read_payload (read_datagram s)
