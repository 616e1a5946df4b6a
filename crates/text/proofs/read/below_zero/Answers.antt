-- `text::read::below_zero` meets its contract. Assumes nothing.
use native.Mathlib.Omega.{arith}
use mathlib.Core.Path.{sym, ap, ◌∙◌}
use Rattle.protocol.proofs.SignedLaws.{digits_inside, numeral_inside}
use Rattle.text.specs.Read.{negated}
use Rattle.text.proofs.ReadLaws.{told_none, minus_zero, told_minus}
use Rattle.text.proofs.read.below_zero.Goals as goal

pub bounds-bs-0 : goal.bounds-bs-0
bounds-bs-0 c = omega (arith, numeral_inside c.args.bs.now (sym c.if-not-is_numeral.ensures))

pub returns-then-bs-eq-ZERO : goal.returns-then-bs-eq-ZERO
returns-then-bs-eq-ZERO c = told_none (minus_zero c.args.bs.now c.if-bs-eq-ZERO.true)

pub overflow_add-result : goal.overflow_add-result
overflow_add-result c = omega (arith, c.read_digits-d.ensures.len, digits_inside c.args.bs.now)

pub returns : goal.returns
returns c =
    told_minus c.args.bs.now (sym c.if-not-is_numeral.ensures) c.read_digits-d.ensures c.if-bs-eq-ZERO.false
    (c.negated.ensures ∙ ap negated c.at_most.ensures)
