-- `tree::step::on_step` meets its contract. Assumes nothing.
use native.Mathlib.Omega.{arith}
use mathlib.Core.Path.{◌∙◌}
use Rattle.protocol.proofs.StepLaws.{step_some}
use Rattle.tree.specs.Lookup.{numbers_of}
use Rattle.tree.proofs.StepLaws.{on_first, on_other, on_by}
use Rattle.tree.proofs.step.on_step.Goals as goal
use Rattle.tree.proofs.step.on_step.Goals.{then-code-eq0-via-then-code-eq0, then-code-eq0-via-else-code-eq0+then-f-ne-STANDARD}

pub returns-then-code-eq0 : goal.returns-then-code-eq0
returns-then-code-eq0 c =
    elim c.then-code-eq0.branch [
      | then-code-eq0-via-then-code-eq0 w ↦ on_first (numbers_of c.args.f) c.args.value c.step_code-code.ensures w.if-code-eq0.true
      | then-code-eq0-via-else-code-eq0+then-f-ne-STANDARD w ↦ on_other (numbers_of c.args.f) c.args.value w.if-f-ne-STANDARD.true
    ]

pub nonzero_rem-result : goal.nonzero_rem-result
nonzero_rem-result c = omega (arith, c.step_of.ensures, step_some c.step_code-code.result)

pub returns : goal.returns
returns c =
    let args = c.args in
    on_by (numbers_of args.f) args.value c.if-f-ne-STANDARD.false c.step_code-code.ensures (c.from.ensures ∙ c.step_of.ensures)
    c.is_signed.ensures
    c.distance_of.ensures
