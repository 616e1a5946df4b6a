-- `text::read::plain` meets its contract. Assumes nothing.
use native.Mathlib.Omega.{arith}
use mathlib.Core.Path.{sym}
use Rattle.protocol.proofs.SignedLaws.{digits_inside}
use Rattle.text.proofs.ReadLaws.{told_plain}
use Rattle.text.proofs.read.plain.Goals as goal

pub overflow_add-result : goal.overflow_add-result
overflow_add-result c = omega (arith, c.read_digits-d.ensures.len, digits_inside c.args.bs.now)

pub returns : goal.returns
returns c =
    told_plain c.args.bs.now (sym c.if-not-is_numeral.ensures) c.read_digits-d.ensures c.args.signed c.highest.result c.highest.ensures
    c.at_most.ensures
