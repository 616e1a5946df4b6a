-- `text::read::is_numeral` meets its contract. Assumes nothing.
use Rattle.text.proofs.ReadLaws.{numeral_none, numeral_open, numeral_other, numeral_first, numeral_zero}
use Rattle.text.proofs.read.is_numeral.Goals as goal

pub returns-then-len-eq0 : goal.returns-then-len-eq0
returns-then-len-eq0 c = numeral_none c.args.bs.now c.requires c.if-len-eq0.true

pub returns-then-bs-len : goal.returns-then-bs-len
returns-then-bs-len c = numeral_open c.args.bs.now c.requires c.if-bs-len.true

pub returns-then-bs-len-ne-NEWLINE : goal.returns-then-bs-len-ne-NEWLINE
returns-then-bs-len-ne-NEWLINE c = numeral_other c.args.bs.now c.requires c.if-bs-len-ne-NEWLINE.true

pub returns-then-bs-ne-ZERO : goal.returns-then-bs-ne-ZERO
returns-then-bs-ne-ZERO c = numeral_first c.args.bs.now c.requires c.if-len-eq0.false c.if-bs-len-ne-NEWLINE.false c.if-bs-ne-ZERO.true

pub returns : goal.returns
returns c = numeral_zero c.args.bs.now c.requires c.if-len-eq0.false c.if-bs-len-ne-NEWLINE.false c.if-bs-ne-ZERO.false
