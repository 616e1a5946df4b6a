-- `frame::checksum::add` meets its contract. Assumes nothing.
use Rattle.std.proofs.Common.{arith}
use Rattle.protocol.proofs.ListLaws.{sum_snoc}
use Rattle.frame.proofs.checksum.add.Goals as goal

pub returns : goal.returns
returns c bs e = omega (arith, e, sum_snoc bs c.args.b)
