-- `sheet::label::differs_behind` meets its contract. Assumes nothing.
use Rattle.tree.specs.Seen.{seen}
use Rattle.sheet.proofs.SettingLaws.{next_of}
use Rattle.sheet.proofs.LabelLaws.{differing_fails, differing_on, differing_ends}
use Rattle.sheet.proofs.label.differs_behind.Goals as goal

pub returns-then-is_label : goal.returns-then-is_label
returns-then-is_label c =
    differing_fails (seen c.args.tree.now) c.args.s.now c.args.k c.loop-j.invariant (next_of c.loop-j.invariant.tree c.in-Some.ensures.steps)
    c.is_label.ensures c.if-is_label.true

pub loop-j-preserved : goal.loop-j-preserved
loop-j-preserved c =
    differing_on (seen c.args.tree.now) c.args.s.now c.args.k c.loop-j.invariant (next_of c.loop-j.invariant.tree c.in-Some.ensures.steps)
    c.is_label.ensures c.if-is_label.false

pub returns : goal.returns
returns c = differing_ends (seen c.args.tree.now) c.args.s.now c.args.k c.loop-j.invariant c.in-None.ensures.steps.first.0
