-- `answer::answer::Exchange::attempt` meets its contract. Assumes nothing.
use Rattle.std.proofs.Common.{refl, ap, ◌∙◌}
use Rattle.protocol.specs.declared.Refusal.TheVariants.{Disabled}
use Rattle.protocol.specs.Refusal.{refusal_number}
use Rattle.protocol.specs.Request.{declined}
use Rattle.protocol.proofs.RefusalLaws.{refusal_some}
use Rattle.tree.specs.Seen.{seen}
use Rattle.cells.specs.Cells.{cells_in}
use Rattle.request.specs.Asked.{request_in, found, asked_of}
use Rattle.answer.specs.declared.Failure.TheVariants.{Refused}
use Rattle.answer.specs.Steps.{answer_asked}
use Rattle.answer.proofs.AnswerLaws.{fails, attempts_as, is_disabled, not_asked, is_asked}
use Rattle.answer.proofs.answer.Exchange.attempt.Goals as goal

pub returns-then-not-host : goal.returns-then-not-host
returns-then-not-host c =
    let self = c.args.self.now in
    record {
      answers =
          fails (Refused Disabled) self.cells.now self.out.now refl
          (is_disabled (seen self.tree.now) (cells_in self.cells.now) (asked_of c.args.asked.now) c.if-not-host.true);
      same_cells = refl;
      same_out = refl;
    }

pub returns-in-Ok : goal.returns-in-Ok
returns-in-Ok c =
    let self = c.args.self.now in
    let t = seen self.tree.now in
    let cs = cells_in self.cells.now in
    record {
      answers =
          attempts_as self.cells.now self.out.now c.perform.result c.perform.new.self.cells.now c.perform.new.self.out.now
          (ap (λ x. answer_asked t cs c.args.host (asked_of x)) c.in-Ok.is
          ∙ is_asked t cs (found (request_in c.in-Ok.request)) c.if-not-host.false refl)
          c.perform.ensures.answers;
      same_cells = c.perform.ensures.same_cells;
      same_out = c.perform.ensures.same_out;
    }

pub returns-in-Err : goal.returns-in-Err
returns-in-Err c =
    let self = c.args.self.now in
    let t = seen self.tree.now in
    let cs = cells_in self.cells.now in
    let e = c.in-Err.refusal in
    record {
      answers =
          fails (Refused e) self.cells.now self.out.now refl
          (ap (λ x. answer_asked t cs c.args.host (asked_of x)) c.in-Err.is
          ∙ not_asked t cs (declined (refusal_number e)) c.if-not-host.false (refusal_some e));
      same_cells = refl;
      same_out = refl;
    }
