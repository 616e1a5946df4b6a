-- `text::number::put_dotted` meets its contract. Assumes nothing.
use Rattle.text.proofs.TextLaws.{dotted_none, dots_begin, dots_more, dotted-ends}
use Rattle.text.proofs.number.put_dotted.Goals as goal

pub returns-in_default : goal.returns-in_default
returns-in_default c = dotted_none c.args.path.now c.args.output.now c.in_default.ensures.cases

pub loop-n-init : goal.loop-n-init
loop-n-init c = dots_begin c.in-Some.others.now c.put_decimal.new.output

pub loop-n-preserved : goal.loop-n-preserved
loop-n-preserved c =
    dots_more c.in-Some.others.now c.loop-n.invariant c.loop-n-test.true c.put_all.ensures c.from-in-loop-n.ensures
    c.put_decimal-in-loop-n.ensures

pub returns : goal.returns
returns c =
    dotted-ends c.args.path.now c.in-Some.ensures.cases.0 c.from.ensures c.put_decimal.ensures c.loop-n.invariant c.loop-n-test.false
