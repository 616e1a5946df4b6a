-- `answer::answer::Exchange::answer` meets its contract. Assumes nothing.
use Rattle.std.proofs.Common.{subst, ◌∙◌}
use Rattle.cells.proofs.CellLaws.{lent_form}
use Rattle.answer.specs.Steps.{Refuses}
use Rattle.answer.proofs.AnswerLaws.{refused, answers_as}
use Rattle.answer.proofs.answer.Exchange.answer.Goals as goal

pub returns-in-Err : goal.returns-in-Err
returns-in-Err c =
    let self = c.args.self.now in
    let attempt = c.in-Err.ensures in
    let failed = attempt.answers in
    let f = c.in-Err.failure in
    record {
      answers =
          answers_as failed.is
          (refused (failed.kept ∙ lent_form self.tree.now self.cells.now self.lent) f
          (subst (λ out. Refuses f out c.refuse.result c.refuse.new.out) failed.bytes c.refuse.ensures));
      same_cells = attempt.same_cells;
      same_out = attempt.same_out;
    }
