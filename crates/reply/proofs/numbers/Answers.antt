-- `reply::numbers` meets its contract. Assumes nothing.
use Rattle.protocol.specs.Bytes.{half, word}
use Rattle.reply.specs.Steps.{numbers_in}
use Rattle.reply.proofs.numbers.Goals as goal

pub returns : goal.returns
unfolding numbers_in half word
returns c = simp (c.bytes_of.ensures, c.bytes_of-2.ensures, c.half_bytes_of.ensures, c.half_bytes_of-2.ensures)
