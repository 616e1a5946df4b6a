-- `frame::buffer::put_all` meets its contract. Assumes nothing.
use Rattle.std.proofs.Common.{arith}
use Rattle.protocol.proofs.BufferLaws.{fill_begins, fill_more, fill_full, fill_ends}
use Rattle.frame.proofs.buffer.put_all.Goals as goal

pub loop-b-init : goal.loop-b-init
loop-b-init c = fill_begins c.args.bs.now c.args.out.now c.args.at

pub returns-then-out-next : goal.returns-then-out-next
returns-then-out-next c =
    fill_full c.args.bs.now c.args.out.now c.args.at c.loop-b.invariant
    (omega (arith, c.loop-b.invariant.same_length, c.if-out-next.true))

pub loop-b-preserved : goal.loop-b-preserved
loop-b-preserved c =
    fill_more c.args.bs.now c.args.out.now c.args.at c.loop-b.invariant c.loop-b-test.true
    c.if-out-next.false c.put-next.ensures

pub returns : goal.returns
returns c = fill_ends c.args.bs.now c.args.out.now c.args.at c.loop-b.invariant c.loop-b-test.false
