-- `text::read::read_digits` meets its contract. Assumes nothing.
use mathlib.Core.Path.{sym}
use Rattle.text.proofs.ReadLaws.{scan_begins, scan_other, scan_more, scan_ends}
use Rattle.text.proofs.read.read_digits.Goals as goal

pub loop-len-init : goal.loop-len-init
loop-len-init c = scan_begins c.args.bs.now

pub returns-then-not-is_ascii_digit : goal.returns-then-not-is_ascii_digit
returns-then-not-is_ascii_digit c = scan_other c.loop-len.invariant c.loop-len-test.true (sym c.if-not-is_ascii_digit.ensures.value)

pub loop-len-preserved : goal.loop-len-preserved
loop-len-preserved c =
    scan_more c.loop-len.invariant c.loop-len-test.true (sym c.if-not-is_ascii_digit.ensures.value) c.more-number.ensures

pub returns : goal.returns
returns c = scan_ends c.loop-len.invariant c.loop-len-test.false
