-- `reply::write::outcome_by` meets its contract. Assumes nothing.
use mathlib.Core.Path.{◌≡◌, refl, sym, ◌∙◌}
use mathlib.Core.Bool.{Bool, true, cond}
use Rattle.protocol.specs.Tree.{can_read, can_write}
use Rattle.protocol.specs.Step.{on_step}
use Rattle.protocol.specs.Answer.{saved, out_of_range, off_step, outcome}
use Rattle.tree.specs.Lookup.{numbers_of}
use Rattle.reply.proofs.WriteLaws.{outcome_by_lem}
use Rattle.reply.proofs.write.outcome_by.Goals as goal
use Rattle.reply.proofs.write.outcome_by.Goals.{After-in_range}

-- The range and the step decide.
judged : (c : After-in_range) {within on : Bool} → c.in_range.result ≡ within
    → on ≡ on_step (numbers_of c.args.f) c.args.value
    → cond within (cond on saved off_step) out_of_range ≡ outcome (numbers_of c.args.f) c.args.value
judged c e s =
    let writable : true ≡ can_write (numbers_of c.args.f) =
    sym c.if-not-can_write.false ∙ c.can_write.ensures in
    let readable : true ≡ can_read (numbers_of c.args.f) =
    sym c.if-not-can_read.false ∙ c.can_read.ensures in
    outcome_by_lem (numbers_of c.args.f) c.args.value writable readable (sym e ∙ c.in_range.ensures) s

pub returns-then-not-can_write : goal.returns-then-not-can_write
returns-then-not-can_write c =
    outcome_by_lem (numbers_of c.args.f) c.args.value
    (sym c.if-not-can_write.true ∙ c.can_write.ensures)
    refl
    refl
    refl

pub returns-then-not-can_read : goal.returns-then-not-can_read
returns-then-not-can_read c =
    let writable : true ≡ can_write (numbers_of c.args.f) =
    sym c.if-not-can_write.false ∙ c.can_write.ensures in
    outcome_by_lem (numbers_of c.args.f) c.args.value
    writable
    (sym c.if-not-can_read.true ∙ c.can_read.ensures)
    refl
    refl

pub returns-then-not-in_range : goal.returns-then-not-in_range
returns-then-not-in_range c = judged (goal.at.returns-then-not-in_range c).After-in_range c.if-not-in_range.true refl

pub returns-then-not-on_step : goal.returns-then-not-on_step
returns-then-not-on_step c =
    judged (goal.at.returns-then-not-on_step c).After-in_range c.if-not-in_range.false
    (sym c.if-not-on_step.true ∙ c.on_step.ensures)

pub returns : goal.returns
returns c =
    judged (goal.at.returns c).After-in_range c.if-not-in_range.false
    (sym c.if-not-on_step.false ∙ c.on_step.ensures)
