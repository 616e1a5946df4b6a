-- `frame::buffer::put` meets its contract. Assumes nothing.
use Rattle.std.proofs.Common.{refl}
use Rattle.protocol.proofs.BufferLaws.{set_put}
use Rattle.frame.proofs.buffer.put.Goals as goal

pub returns : goal.returns
returns c = record { next = refl; bytes = set_put c.args.out.now c.args.at c.args.b c.requires }
