-- The lines of `show` lie in the text, and the step goes on.
use Rattle.std.proofs.Common.{arith, length-take-le, sym}
use Rattle.console.specs.Steps.{Progress}
use Rattle.console.proofs.StepLaws.{front_within}
use Rattle.console.proofs.ProgressLaws.{progress}
use Rattle.bench.proofs.show.Goals as goal

pub slice_bounds-text-end : goal.slice_bounds-text-end
slice_bounds-text-end g c = front_within _ _ c.step-shown.ensures.len c.step-shown.ensures.bytes

pub slice_bounds-write_all-end : goal.slice_bounds-write_all-end
slice_bounds-write_all-end g c = sym (length-take-le _ _ (front_within _ _ c.step-shown.ensures.len c.step-shown.ensures.bytes))

pub returns-in_err-write_all-clause-form : goal.returns-in_err-write_all-clause-form
returns-in_err-write_all-clause-form g c =
    (progress 1058 c.args.state.now c.args.cells.now c.args.bytes.now (omega arith) c.requires c.step-shown.ensures).form

pub returns : goal.returns
returns g c =
    let on : Progress c.args.bytes.now c.step-shown.result.taken c.step-shown.new.state =
    progress 1058 c.args.state.now c.args.cells.now c.args.bytes.now (omega arith) c.requires c.step-shown.ensures in
    record { form = on.form; progress = on }
