-- `lookup::Table::count` meets its contract. Assumes nothing.
use Rattle.lookup.proofs.FindLaws.{count_begins, count_more, count_ends}
use Rattle.lookup.proofs.Table.count.Goals as goal

pub loop-k-init : goal.loop-k-init
loop-k-init c = count_begins c.args.tree.now c.args.self c.args.node

pub loop-k-preserved : goal.loop-k-preserved
loop-k-preserved c =
    rw (c.from-n.ensures, c.names.ensures) (count_more c.args.tree.now c.args.self c.args.node c.loop-k.invariant c.loop-k-test.true)

pub returns : goal.returns
returns c = count_ends c.args.tree.now c.args.self c.args.node c.loop-k.invariant c.loop-k-test.false
