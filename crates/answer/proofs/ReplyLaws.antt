-- Replies: each is the request's data with more behind it, and has room in the output.
-- Assumes nothing.
use Prim.Native.Nat.{ℕ, ◌<◌, ◌≤◌}
use native.Mathlib.Omega.{arith}
use mathlib.Core.Path.{◌≡◌, sym, ap, ◌∙◌}
use mathlib.Core.List.{List, ◌∷◌, ◌++◌, append_assoc}
use lib.ListN.{length, length-append}
use Rattle.protocol.specs.Numbers.{room_data, op_node, op_record, op_read, max_depth}
use Rattle.protocol.specs.Bytes.{word}
use Rattle.protocol.specs.Buffer as buffer
use Rattle.protocol.specs.Buffer.{Put}
use Rattle.protocol.specs.Request.{Request, Allowed, data_of}
use Rattle.protocol.specs.Tree.{Property, Tree, Cell}
use Rattle.protocol.specs.Answer.{Outcome, echo_indexed, node_body, node_reply, record_body, record_reply, read_body, read_reply, write_body, write_reply}
use Rattle.protocol.proofs.BufferLaws.{put_as, put_fits, puts_fit}
use Rattle.protocol.proofs.RequestLaws.{data_of_size, fitting, path_most}
use Rattle.compose.proofs.WriteLaws.{data-path, data-index, data-value}

-- The path of a request that the table allows is short.
pub path_short : (r : Request) → Allowed r → length r.path ≤ max_depth
path_short r h = path_most r (fitting r h).rest

-- The data of a request that the table allows is put.
pub put_allowed : (r : Request) {old new : List ℕ} {size : ℕ} → room_data ≤ length old → Allowed r → Put 0 (buffer.fitting 0 (data_of r) old) old size new
    → Put 0 (data_of r) old size new
put_allowed r h k p = put_fits (omega (arith, h, (data_of_size r k).1)) p

module _ (r : Request) where
  -- What the replies to ops 2 and 3 begin with is the request's data, and so it is for ops 4 and 5.
  indexed : op_node < r.op → r.op ≤ op_read → (xs : List ℕ) → data_of r ++ xs ≡ echo_indexed r ++ xs
  indexed h k xs = ap (λ l. l ++ xs) (sym (data-index r.op r.path r.index r.value h k))

  valued : op_read < r.op → (xs : List ℕ) → data_of r ++ xs ≡ echo_indexed r ++ 0 ∷ (word r.value ++ xs)
  valued h xs = simp (← data-value r.op r.path r.index r.value h, append_assoc)

  -- Each reply: its body put behind that data.
  module _ {old mid new : List ℕ} {n n' : ℕ} (put : Put 0 (data_of r) old n mid) where
    put_body : {reply : List ℕ} → length reply ≤ length old → (body : List ℕ) → data_of r ++ body ≡ reply
        → Put n (buffer.fitting n body mid) mid n' new → Put 0 reply old n' new
    put_body room body e p =
        put_as e (puts_fit body put (omega (arith, room, ap length e, length-append (data_of r) body)) p)

    pub put_node_reply : (t : Tree) (place : ℕ) → length (node_reply t place r) ≤ length old → r.op ≡ op_node
        → Put n (buffer.fitting n (node_body t place) mid) mid n' new → Put 0 (node_reply t place r) old n' new
    unfolding node_reply
    put_node_reply t place room h p =
        put_body room (node_body t place) (ap (λ l. l ++ node_body t place) (sym (data-path r.op r.path r.index r.value (omega (arith, h))))) p

    pub put_record_reply : (p : Property) → length (record_reply p r) ≤ length old → r.op ≡ op_record
        → Put n (buffer.fitting n (record_body p) mid) mid n' new → Put 0 (record_reply p r) old n' new
    unfolding record_reply
    put_record_reply p room h q = put_body room (record_body p) (indexed (omega (arith, h)) (omega (arith, h)) (record_body p)) q

    pub put_read_reply : (c : Cell) → length (read_reply c r) ≤ length old → r.op ≡ op_read → {w : ℕ} → c.word ≡ w
        → Put n (buffer.fitting n (read_body w) mid) mid n' new → Put 0 (read_reply c r) old n' new
    unfolding read_reply
    put_read_reply c room h {w} e p =
        put_body room (read_body w) (indexed (omega (arith, h)) (omega (arith, h)) (read_body w) ∙ simp e) p

    pub put_write_reply : (o : Outcome) → length (write_reply o r) ≤ length old → op_read < r.op
        → Put n (buffer.fitting n (write_body o r.op) mid) mid n' new → Put 0 (write_reply o r) old n' new
    unfolding write_reply
    put_write_reply o room h p = put_body room (write_body o r.op) (valued h (write_body o r.op)) p
