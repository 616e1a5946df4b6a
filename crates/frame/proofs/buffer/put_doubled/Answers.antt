-- `frame::buffer::put_doubled` meets its contract. Assumes nothing.
use Rattle.std.proofs.Common.{◌≡◌, ℕ, List, [], ◌∷◌, subst, arith, eq-eqb, ne_eqb}
use Rattle.protocol.specs.Numbers.{DLE}
use Rattle.protocol.specs.Frame.{doubled}
use Rattle.protocol.specs.Buffer.{Put}
use Rattle.protocol.proofs.BufferLaws.{puts}
use Rattle.frame.proofs.buffer.put_doubled.Goals as goal

-- `frame::buffer::put_doubled` meets its contract. Assumes nothing.
-- One byte, or two, as `doubled` has them.
once : {at b r : ℕ} {old new : List ℕ} → (b ≡ DLE → ⊥) → Put at (b ∷ []) old r new → Put at (doubled b) old r new
once {b = b} h p = rw (ne_eqb b DLE h) p

twice : {at b r : ℕ} {old new : List ℕ} → b ≡ DLE → Put at (b ∷ b ∷ []) old r new → Put at (doubled b) old r new
twice {at} {b} {r} {old} {new} h p = rw (eq-eqb b DLE h) (subst (λ x. Put at (x ∷ x ∷ []) old r new) h p)

pub returns-then-b-eq-DLE : goal.returns-then-b-eq-DLE
returns-then-b-eq-DLE c =
    twice c.if-b-eq-DLE.true
    (puts (omega (arith, c.requires)) c.put-next.ensures c.put.ensures)

pub returns : goal.returns
returns c = once c.if-b-eq-DLE.false c.put-next.ensures
