-- `tree::texts::put_texts` meets its contract. Assumes nothing.
use native.Mathlib.Omega.{arith}
use lib.ListN.{length}
use Rattle.tree.proofs.TextLaws.{copy_begins, copy_more, copy_ends, left_behind, place_behind}
use Rattle.tree.proofs.texts.put_texts.Goals as goal

pub loop-next-init : goal.loop-next-init
loop-next-init c =
    let args = c.args in
    copy_begins args.tree.now args.out.now args.at args.from args.count

pub returns-then-left-eq0 : goal.returns-then-left-eq0
returns-then-left-eq0 c = copy_ends c.loop-next.invariant c.if-left-eq0.true

pub loop-next-preserved : goal.loop-next-preserved
loop-next-preserved c =
    copy_more c.loop-next.invariant (omega arith) (omega arith)
    c.byte_at-b.ensures
    (left_behind c.byte_at-b.result c.loop-next.left c.from-left.ensures)
    (place_behind c.loop-next.i (length c.args.tree.now) c.from-i.ensures)
