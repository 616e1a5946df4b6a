-- 01, Requests and replies, and Numbers returned: what the box answers to a request's data.
use Rattle.std.specs.Prelude.{ℕ, ◌<◌, ◌≡◌, Bool, true, false, cond, ◌&&◌, List, [], ◌∷◌, ◌++◌, length, set, eqb, leb}
use Rattle.std.proofs.Math.Option.{Option, none, some}
use Rattle.protocol.specs.Numbers.{done, disabled, unknown_command, no_reading, not_saved, PDI, ERROR, ACK, DISABLED, NAK, ILLEGAL, op_detect, op_node, op_record, op_read, op_write, standard, status_ok, save_failed, save_done, save_none}
use Rattle.protocol.specs.Bytes.{half, word, text, texts, at_most}
use Rattle.protocol.specs.Request.{Request, Asked, read_request}
use Rattle.protocol.specs.Step.{on_step}
use Rattle.protocol.specs.Path.{missing_length, Failure, no_node, no_property, failure_number, failure_length}
use Rattle.protocol.specs.Tree.{Property, Tree, Cell, can_read, can_write, is_signed, children_of, properties_of, property_of, node_at, node_in, property_in, cell_in, readable}

-- The range rule. Type 1: any value where min and max are both 0, else from min to max, both included, in the order that
-- format bit 15 gives. Type 2: from 0 to max, unsigned, a max of 0 included.
abbrev pub within : Bool → Property → ℕ → Bool
within signed p v = at_most signed p.min v && at_most signed v p.max

unfoldable pub in_range : Property → ℕ → Bool
in_range p v =
    cond (eqb p.kind standard)
    (cond (eqb p.min 0 && eqb p.max 0) true (within (is_signed p) p v))
    (leb v p.max)

-- Whether the range rule takes a value as signed: type 1 with format bit 15.
unfoldable pub takes_sign : Property → Bool
takes_sign p = eqb p.kind standard && is_signed p

-- What a write does: the value is saved, the action is taken, or neither, and why.
pub data Outcome : Type 0 where
  saved taken read_only out_of_range off_step : Outcome

-- The tests of a write in their order: no write attribute, then the range, then (02, section 6) the step; an action has neither.
unfoldable pub outcome : Property → ℕ → Outcome
outcome p v =
    cond (can_write p) (cond (can_read p) (cond (in_range p v) (cond (on_step p v) saved off_step) out_of_range) taken) read_only

-- The save byte.
unfoldable pub save_byte : Outcome → ℕ
save_byte saved = save_done
save_byte taken = save_none
save_byte read_only = save_failed
save_byte out_of_range = save_failed
save_byte off_step = save_failed

-- The text of op 5: empty, "Read only", "Range" or (02, section 6) "Step".
unfoldable pub reason : Outcome → List ℕ
reason saved = []
reason taken = []
reason read_only = 0x52 ∷ 0x65 ∷ 0x61 ∷ 0x64 ∷ 0x20 ∷ 0x6F ∷ 0x6E ∷ 0x6C ∷ 0x79 ∷ []
reason out_of_range = 0x52 ∷ 0x61 ∷ 0x6E ∷ 0x67 ∷ 0x65 ∷ []
reason off_step = 0x53 ∷ 0x74 ∷ 0x65 ∷ 0x70 ∷ []

unfoldable pub write_number : Outcome → ℕ
write_number saved = done
write_number taken = done
write_number read_only = not_saved
write_number out_of_range = not_saved
write_number off_step = not_saved

-- What stands in a setting's cell once a value is saved in it.
abbrev pub stored : Cell → ℕ → Cell
stored c v = record { word = v; ready = c.ready }

unfoldable pub cells_after : Outcome → List Cell → ℕ → ℕ → List Cell
cells_after saved cs place v = set cs place (stored (cell_in cs place) v)
cells_after taken cs place v = cs
cells_after read_only cs place v = cs
cells_after out_of_range cs place v = cs
cells_after off_step cs place v = cs

-- The caller is told the place of the property whose action it is to take.
unfoldable pub action_of : Outcome → ℕ → Option ℕ
action_of saved place = none
action_of taken place = some place
action_of read_only place = none
action_of out_of_range place = none
action_of off_step place = none

-- The table's last column: B4, the op and the path in front, the index behind them where there is one; then what the request
-- asked for (its body).
abbrev pub echo : Request → List ℕ
echo r = PDI ∷ r.op ∷ r.path

abbrev pub echo_indexed : Request → List ℕ
echo_indexed r = echo r ++ r.index ∷ []

abbrev pub node_body : Tree → ℕ → List ℕ
node_body t place = length (children_of t place) ∷ length (properties_of t place) ∷ text (node_in t place).name

unfoldable pub node_reply : Tree → ℕ → Request → List ℕ
node_reply t place r = echo r ++ node_body t place

abbrev pub record_texts : Property → List ℕ
record_texts p = text p.label ++ texts p.options

abbrev pub record_body : Property → List ℕ
record_body p =
    p.kind ∷ (word p.min ++ (word p.max ++ (half p.attribute ++ (half p.format ++ record_texts p))))

unfoldable pub record_reply : Property → Request → List ℕ
record_reply p r = echo_indexed r ++ record_body p

-- 003, 5.4: a status byte stands before the word, 01 for OK.
abbrev pub read_body : ℕ → List ℕ
read_body n = status_ok ∷ word n

unfoldable pub read_reply : Cell → Request → List ℕ
read_reply c r = echo_indexed r ++ read_body c.word

-- The save byte, and for op 5 the text.
abbrev pub write_body : Outcome → ℕ → List ℕ
write_body o op = save_byte o ∷ cond (eqb op op_write) [] (text (reason o))

-- The value in a reply to a write is the one sent, saved or not.
unfoldable pub write_reply : Outcome → Request → List ℕ
write_reply o r = echo_indexed r ++ 0 ∷ (word r.value ++ write_body o r.op)

-- What a call answers: the number, the reply's data, the cells afterwards, the place of the property whose action is to be taken,
-- and (02, section 7) the length of the part of the path that no node has.
pub record Answer : Type 0 where
  pub number : ℕ
  pub reply : List ℕ
  pub cells : List Cell
  pub action : Option ℕ
  pub missing : ℕ

-- A reply that leaves every cell as it is, takes no action and tells no length.
abbrev pub plain : List Cell → ℕ → List ℕ → Answer
plain cs n bs = record { number = n; reply = bs; cells = cs; action = none; missing = 0 }

-- Rows 9 to 12: the reply code of a refusal. 02, section 7: 15 and 16 have that of 11.
unfoldable pub refusal_code : ℕ → ℕ
refusal_code n =
    cond (eqb n disabled) DISABLED (cond (eqb n unknown_command) ILLEGAL (cond (eqb n no_reading) NAK ERROR))

-- A refusal that tells a length, and one that tells none.
abbrev pub refuse_at : List Cell → ℕ → ℕ → Answer
refuse_at cs n len = record { number = n; reply = refusal_code n ∷ []; cells = cs; action = none; missing = len }

abbrev pub refuse : List Cell → ℕ → Answer
refuse cs n = refuse_at cs n 0

-- A lookup that fails, where a numbering has its number.
abbrev pub failed : (Failure → ℕ) → List Cell → Failure → Answer
failed numbering cs f = refuse_at cs (numbering f) (failure_length f)

unfoldable pub on_read : List Cell → Property → ℕ → Request → Answer
on_read cs p place r =
    cond (readable p (cell_in cs place)) (plain cs done (read_reply (cell_in cs place) r)) (refuse cs no_reading)

unfoldable pub on_write : List Cell → ℕ → Request → Outcome → Answer
on_write cs place r o =
    record {
      number = write_number o;
      reply = write_reply o r;
      cells = cells_after o cs place r.value;
      action = action_of o place;
      missing = 0;
    }

-- What the box answers where a rule says what a write of a value to a property does, and a numbering has the number of a lookup
-- that fails.
module _ (rule : Property → ℕ → Outcome) where
  -- Ops 2 to 5 once the property is found.
  unfoldable pub on_property : Tree → List Cell → Request → ℕ → Answer
  on_property t cs r place =
      cond (eqb r.op op_record)
      (plain cs done (record_reply (property_in t place) r))
      (cond (eqb r.op op_read)
      (on_read cs (property_in t place) place r)
      (on_write cs place r (rule (property_in t place) r.value)))

  module _ (numbering : Failure → ℕ) where
    -- A node with no such property, and a path with no node.
    unfoldable pub if_property : Tree → List Cell → Request → Option ℕ → Answer
    if_property t cs r none = failed numbering cs no_property
    if_property t cs r (some place) = on_property t cs r place

    unfoldable pub if_node : Tree → List Cell → Request → Option ℕ → Answer
    if_node t cs r none = failed numbering cs (no_node (missing_length t r.path))
    if_node t cs r (some place) =
        cond (eqb r.op op_node)
        (plain cs done (node_reply t place r))
        (if_property t cs r (property_of t place (record { 0 = r.index })))

    -- A request answered.
    unfoldable pub perform : Tree → List Cell → Request → Answer
    perform t cs r = cond (eqb r.op op_detect) (plain cs done (ACK ∷ [])) (if_node t cs r (node_at t r.path))

    unfoldable pub if_asked : Tree → List Cell → Asked → Answer
    if_asked t cs a = cond (eqb a.number done) (perform t cs a.request) (refuse cs a.number)

    -- Data answered, host functions on (true) or off: 9, then 10 and 11, then 15, 16, and 12 or 13.
    unfoldable pub answer_by : Tree → List Cell → Bool → List ℕ → Answer
    answer_by t cs true bs = if_asked t cs (read_request bs)
    answer_by t cs false bs = refuse cs disabled

-- The rule and the numbering of the box.
abbrev pub answer : Tree → List Cell → Bool → List ℕ → Answer
answer t cs host bs = answer_by outcome failure_number t cs host bs

-- A request that names a property: its path has a node, and the node has a property with its index, at a place.
pub record Finds (t : Tree) (r : Request) (place : ℕ) : Type 0 where
  pub node : ℕ
  pub at_node : node_at t r.path ≡ some node
  pub at_property : property_of t node (record { 0 = r.index }) ≡ some place

-- Data that is read as a request.
abbrev pub ReadAs : List ℕ → Request → Type 0
ReadAs bs r = read_request bs ≡ record { number = done; request = r }

-- Data that is read as a write to the property at a place.
pub record Writes (t : Tree) (bs : List ℕ) (r : Request) (place : ℕ) : Type 0 where
  pub asks : ReadAs bs r
  pub writes : op_read < r.op
  pub finds : Finds t r place

-- A write that is accepted: the outcome is that the value is saved.
pub record Saves (t : Tree) (bs : List ℕ) (place value : ℕ) : Type 0 where
  pub request : Request
  pub writes : Writes t bs request place
  pub saves : outcome (property_in t place) value ≡ saved
  pub sent : request.value ≡ value
