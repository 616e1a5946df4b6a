-- `text::read::read_number` meets its contract. Assumes nothing.
use Rattle.text.proofs.ReadLaws.{told_none, number_none, number_unsigned, number-plain, number_minus}
use Rattle.text.proofs.read.read_number.Goals as goal

pub returns-in_err-sign : goal.returns-in_err-sign
returns-in_err-sign c = rw c.from_residual.ensures (told_none (number_none c.args.signed c.args.bs.now c.in_err-sign.ensures.cases))

pub returns-then-sign-ne-MINUS : goal.returns-then-sign-ne-MINUS
returns-then-sign-ne-MINUS c = number-plain c.in_ok-sign.ensures.cases.0 c.args.signed c.if-sign-ne-MINUS.true c.plain.ensures

pub returns-then-not-signed : goal.returns-then-not-signed
returns-then-not-signed c =
    told_none (number_unsigned c.in_ok-sign.ensures.cases.0 c.args.signed c.if-not-signed.true c.if-sign-ne-MINUS.false)

pub returns : goal.returns
returns c =
    number_minus c.in_ok-sign.ensures.cases.0 c.args.signed c.if-not-signed.false c.if-sign-ne-MINUS.false c.below_zero.ensures
