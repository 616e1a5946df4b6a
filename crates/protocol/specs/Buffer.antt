-- Lent buffers: what a call that writes leaves in one.
use Rattle.std.specs.Prelude.{ℕ, ◌+◌, ◌-◌, ◌^◌, min, ◌≡◌, cond, List, ◌++◌, length, take, drop, eqb, ltb}
use Rattle.std.proofs.lemmas.List.Edits.{sets}
use Rattle.protocol.specs.Numbers.{done, no_room}
use Rattle.protocol.specs.Frame.{Received}

-- The bytes ys at a place of a buffer, the rest of it as it was.
unfoldable pub put_at : ℕ → List ℕ → List ℕ → List ℕ
put_at at ys xs = take at xs ++ (ys ++ drop (at + length ys) xs)

-- 01, Numbers returned: what is written stands at the front, and the output beyond it stays as lent.
unfoldable pub over : List ℕ → List ℕ → List ℕ
over ys xs = ys ++ drop (length ys) xs

-- As many of some bytes as there is room for, from a place of a buffer on.
abbrev pub fitting : ℕ → List ℕ → List ℕ → List ℕ
fitting at ys xs = take (length xs - at) ys

-- What a helper that writes at a place returns and leaves: the place after its bytes, and the buffer with them.
pub record Put (at : ℕ) (ys old : List ℕ) (r : ℕ) (new : List ℕ) : Type 0 where
  pub next : r ≡ at + length ys
  pub bytes : new ≡ put_at at ys old

-- Bytes stored from a place of a buffer on, each where there is room for it.
unfoldable pub lay : ℕ → List ℕ → List ℕ → List ℕ
lay at ys xs = sets xs at ys

-- No buffer is longer, so that a place past the end need not be told further than this.
abbrev pub farthest : ℕ
farthest = 2 ^ 63

-- What a helper that writes as far as there is room returns and leaves: the place after all its bytes, whether there was room for
-- them or not, and the buffer with those that there was room for.
pub record Laid (at : ℕ) (ys old : List ℕ) (r : ℕ) (new : List ℕ) : Type 0 where
  pub next : r ≡ min farthest (at + length ys)
  pub bytes : new ≡ lay at ys old

-- 02, sections 1, 3 and 11: what a call that writes a text of any length returns: its refusal, then 8 exactly when the text is longer than the
-- room.
unfoldable pub text_number : Received → ℕ → ℕ
text_number what room =
    cond (eqb what.number done) (cond (ltb room (length what.payload)) no_room done) what.number

-- And what it leaves: the length is told with 8 too, and is 0 with any other refusal; the text stands at the front of the output,
-- and nothing is written on a refusal.
pub record Fills (what : Received) (old : List ℕ) (n size : ℕ) (new : List ℕ) : Type 0 where
  pub number : n ≡ text_number what (length old)
  pub len : size ≡ length what.payload
  pub bytes : new ≡ cond (eqb (text_number what (length old)) done) (over what.payload old) old

-- What a call that writes into a lent output returns and leaves: a number, the length of what it wrote, and every byte of
-- the output. A refusal has nothing to write, so that the output is as lent.
pub record Emits (what : Received) (old : List ℕ) (n size : ℕ) (new : List ℕ) : Type 0 where
  pub number : n ≡ what.number
  pub len : size ≡ length what.payload
  pub bytes : new ≡ over what.payload old
