-- `answer::answer::Exchange::on_read` meets its contract. Assumes nothing.
use Rattle.std.proofs.Common.{refl, arith}
use Rattle.std.proofs.lemmas.Result.{err_from_is_err_and}
use Rattle.protocol.specs.declared.Refusal.TheVariants.{NoReading}
use Rattle.protocol.specs.Tree.{property_in, cell_in, reading}
use Rattle.protocol.proofs.AnswerLaws.{read_size}
use Rattle.protocol.proofs.RuleLaws.{reading_some, reading_none}
use Rattle.tree.specs.Seen.{seen}
use Rattle.cells.specs.Cells.{cells_in}
use Rattle.cells.proofs.CellLaws.{lent_form}
use Rattle.request.specs.Asked.{request_in}
use Rattle.answer.specs.declared.Failure.TheVariants.{Refused}
use Rattle.answer.proofs.CodeLaws.{missing, found}
use Rattle.answer.proofs.ReplyLaws.{path_short, put_read_reply}
use Rattle.answer.proofs.AnswerLaws.{answers_as, fails, replied, replies_as, read_refused, read_replied}
use Rattle.answer.proofs.answer.Exchange.on_read.Goals as goal

pub returns-in_err-word : goal.returns-in_err-word
returns-in_err-word c =
    let self = c.args.self.now in
    let p = property_in (seen self.tree.now) c.args.place in
    let cell = cell_in (cells_in self.cells.now) c.args.place in
    let none = missing NoReading (reading p cell) c.reading.ensures c.ok_or.ensures.value c.in_err-word.was in
    let failed = err_from_is_err_and c.from_residual.result c.from_residual.ensures.1 in
    record {
      answers =
          rw (failed.1, failed.2, none.1)
          (fails (Refused NoReading) self.cells.now self.out.now refl
          (read_refused (cells_in self.cells.now) p c.args.place (request_in c.args.request.now) (reading_none p cell none.0)));
      same_cells = refl;
      same_out = refl;
    }

pub returns : goal.returns
returns c =
    let self = c.args.self.now in
    let p = property_in (seen self.tree.now) c.args.place in
    let cell = cell_in (cells_in self.cells.now) c.args.place in
    let asked = request_in c.args.request.now in
    let is = reading_some p cell (found NoReading (reading p cell) c.reading.ensures c.ok_or.ensures.value c.in_ok-word.was) in
    record {
      answers =
          replies_as c.plain.ensures
          (answers_as
          (read_replied (cells_in self.cells.now) p c.args.place asked is.0)
          (replied (lent_form self.tree.now self.cells.now self.lent)
          (put_read_reply asked c.put_request-at.ensures cell
          (omega (arith, self.roomy, (read_size asked (path_short asked c.args.request.now.allowed) cell).most))
          c.requires
          is.1
          c.put_reading.ensures)));
      same_cells = refl;
      same_out = refl;
    }
