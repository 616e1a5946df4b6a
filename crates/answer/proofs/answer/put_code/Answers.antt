-- `answer::answer::put_code` meets its contract. Assumes nothing.
use native.Mathlib.Omega.{arith}
use mathlib.Core.Path.{refl}
use Rattle.protocol.proofs.BufferLaws.{set_put}
use Rattle.answer.proofs.answer.put_code.Goals as goal

pub returns : goal.returns
returns c = record { next = refl; bytes = set_put c.args.out.now 0 c.args.code (omega (arith, c.requires)) }
