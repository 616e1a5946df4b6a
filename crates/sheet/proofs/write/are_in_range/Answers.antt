-- `sheet::write::are_in_range` meets its contract. Assumes nothing.
use Rattle.sheet.proofs.SettingLaws.{starts, next_of}
use Rattle.sheet.proofs.WriteLaws.{ranging_begins, ranging_fails, ranging_on, ranging_ends}
use Rattle.sheet.proofs.write.are_in_range.Goals as goal

pub loop-k-init : goal.loop-k-init
loop-k-init c =
    ranging_begins c.args.lent.tree.now c.args.lent.cells.now
    (starts c.args.lent.tree c.into_iter-k-iterator.ensures.into_iter_gives)

pub returns-then-not-is_in_range : goal.returns-then-not-is_in_range
returns-then-not-is_in_range c =
    ranging_fails c.args.lent.tree.now c.args.lent.cells.now c.loop-k.invariant (next_of c.loop-k.invariant.tree c.in-Some.ensures.steps)
    c.is_in_range.ensures c.if-not-is_in_range.true

pub loop-k-preserved : goal.loop-k-preserved
loop-k-preserved c =
    ranging_on c.args.lent.tree.now c.args.lent.cells.now c.loop-k.invariant (next_of c.loop-k.invariant.tree c.in-Some.ensures.steps)
    c.is_in_range.ensures c.if-not-is_in_range.false

pub returns : goal.returns
returns c = ranging_ends c.args.lent.tree.now c.args.lent.cells.now c.loop-k.invariant c.in-None.ensures.steps.first.0
