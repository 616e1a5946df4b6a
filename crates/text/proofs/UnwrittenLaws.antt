-- What kept a text from being written has a number other than 0.
-- Assumes nothing.
use native.Mathlib.Omega.{arith}
use mathlib.Core.Path.{◌≡◌}
use Rattle.protocol.specs.Numbers.{done}
use Rattle.protocol.proofs.RefusalLaws.{refusal_some}
use Rattle.text.specs.declared.unwritten.Unwritten.{Unwritten}
use Rattle.text.specs.declared.unwritten.Unwritten.TheVariants.{Refused, NoRoom}
use Rattle.text.specs.Unwritten.{unwritten_number}

pub unwritten_some : (u : Unwritten) → unwritten_number u ≡ done → ⊥
unwritten_some (Refused r) e = refusal_some r e
unwritten_some (NoRoom size) e = omega (arith, e)
