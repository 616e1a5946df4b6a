-- `text::number::put_hex` meets its contract. Assumes nothing.
use Rattle.text.proofs.TextLaws.{hex-begins, hex_more}
use Rattle.text.proofs.number.put_hex.Goals as goal

pub loop-b-init : goal.loop-b-init
loop-b-init c = hex-begins c.args.bs.now c.args.output.now

pub loop-b-preserved : goal.loop-b-preserved
loop-b-preserved c = hex_more c.args.bs.now c.loop-b.invariant c.loop-b-test.true c.hex_byte.ensures c.put_all.ensures
