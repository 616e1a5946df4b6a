-- 01, demand 3, on requests, over what the exports promise.
use Rattle.std.specs.Prelude.{ℕ, ◌≤◌, ◌↔◌, ◌≡◌, cond, List, [], length, take, drop, ltb}
use Rattle.protocol.specs.Numbers.{done, unknown_command, bad_parameter, op_write_extended}
use Rattle.protocol.specs.Bytes.{Bytes}
use Rattle.protocol.specs.Buffer.{Emits}
use Rattle.protocol.specs.Request.{Request, Asked, Allowed}
use Rattle.compose.specs.Write.{write_request}
use Rattle.pualirqiq.specs.Calls.{Handed, fields_of, HandsBack}

-- An output that begins with some bytes and is else as lent: what a call with 0 wrote.
pub record Wrote (form : List ℕ) (old : List ℕ) (n size : ℕ) (new : List ℕ) : Type 0 where
  pub number : n ≡ done
  pub len : size ≡ length form
  pub front : take size new ≡ form
  pub rest : drop size new ≡ drop size old

-- What is no request is not written: 10 for an op that the table lacks, else 11, and nothing.
pub record WroteNothing (q : Request) (old : List ℕ) (n size : ℕ) (new : List ℕ) : Type 0 where
  pub number : n ≡ cond (ltb op_write_extended q.op) unknown_command bad_parameter
  pub len : size ≡ 0
  pub bytes : new ≡ old

-- Requests in a written form, read and written out by calls that keep their promises.
pub record Requests (form : Request → List ℕ) (read : List ℕ → Asked) (least : ℕ) : Type 0 where
  -- a string is read as a request exactly when it is that request's written form
  pub read_exactly : (s : List ℕ) → Bytes s → (old new : Handed) (n : ℕ) → HandsBack (read s) old n new → (q : Request)
      → ((n ≡ done) × (new ≡ fields_of q)) ↔ (Allowed q × (s ≡ form q))
  -- what is no request's written form is not read with 0, and nothing is handed back
  pub not_read : (s : List ℕ) → Bytes s → (old new : Handed) (n : ℕ) → HandsBack (read s) old n new
      → ((q : Request) → Allowed q → s ≡ form q → ⊥) → (n ≡ done → ⊥) × (new ≡ old)
  -- a request that the table allows is written in its form
  pub written : (q : Request) (old new : List ℕ) (n size : ℕ) → least ≤ length old → Allowed q
      → Emits (write_request least (length old) form q) old n size new → Wrote (form q) old n size new
  -- any other is not written
  pub not_written : (q : Request) (old new : List ℕ) (n size : ℕ) → least ≤ length old → (Allowed q → ⊥)
      → Emits (write_request least (length old) form q) old n size new → WroteNothing q old n size new
  -- what was written is read back
  pub read_back : (q : Request) (old new : List ℕ) (n size : ℕ) → least ≤ length old → Bytes new → Allowed q
      → Emits (write_request least (length old) form q) old n size new
      → (before after : Handed) (m : ℕ) → HandsBack (read (take size new)) before m after → (m ≡ done) × (after ≡ fields_of q)
  -- no string is the written form of two requests
  pub once : (q r : Request) → Allowed q → Allowed r → form q ≡ form r → q ≡ r
