-- `frame::read::tally_of` meets its contract. Assumes nothing.
use Rattle.std.proofs.Common.{arith, length-take}
use Rattle.frame.proofs.ReadLaws.{tallies_none}
use Rattle.frame.proofs.ContentLaws.{tally_begins, tally_more, tally_ends}
use Rattle.frame.proofs.read.tally_of.Goals as goal

pub loop-b-init : goal.loop-b-init
loop-b-init c = tally_begins c.args.content.now (tallies_none c.default-t.result c.default-t.ensures)

pub add_byte-t-requires : goal.add_byte-t-requires
add_byte-t-requires c =
    let w = c.loop-b.invariant in
    let content = c.args.content.now in
    omega (arith, w.tally.count, length-take c.loop-b.b-index content, w.within, c.well_formed.0.1)

pub loop-b-preserved : goal.loop-b-preserved
loop-b-preserved c = tally_more c.args.content.now c.loop-b.invariant c.loop-b-test.true c.add_byte-t.ensures

pub returns : goal.returns
returns c = tally_ends c.args.content.now c.loop-b.invariant c.loop-b-test.false
