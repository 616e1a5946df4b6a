-- `frame::write::put_body` meets its contract. Assumes nothing.
use Rattle.std.proofs.Common.{◌+◌, ◌≤◌, length, arith}
use Rattle.frame.proofs.BodyLaws.{begins, more, room_left, ends}
use Rattle.frame.proofs.write.put_body.Goals as goal

pub loop-b-init : goal.loop-b-init
loop-b-init c =
    begins c.args.payload.now c.args.out.now c.args.from c.args.address
    c.requires (omega (arith, c.ranges.address.fits))

pub put_doubled-at-requires : goal.put_doubled-at-requires
put_doubled-at-requires c =
    let left : c.loop-b.at + 2 ≤ length c.loop-b.out =
    room_left c.args.payload.now c.args.out.now c.args.from c.args.address c.requires
    c.loop-b.invariant c.loop-b-test.true in
    left

pub loop-b-preserved : goal.loop-b-preserved
loop-b-preserved c =
    more c.args.payload.now c.args.out.now c.args.from c.args.address c.requires
    c.loop-b.invariant c.loop-b-test.true c.put_doubled-at.ensures c.add-sum.ensures

pub returns : goal.returns
returns c =
    ends c.args.payload.now c.args.out.now c.args.from c.args.address c.requires
    c.loop-b.invariant c.loop-b-test.false
