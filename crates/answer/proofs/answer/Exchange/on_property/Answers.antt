-- `answer::answer::Exchange::on_property` meets its contract. Assumes nothing.
use Rattle.std.proofs.Common.{refl, ap, arith}
use Rattle.protocol.specs.Refusal.{op_number}
use Rattle.protocol.specs.Tree.{property_in}
use Rattle.tree.specs.Seen.{seen}
use Rattle.cells.specs.Cells.{cells_in}
use Rattle.cells.proofs.CellLaws.{lent_form}
use Rattle.request.specs.Asked.{request_in}
use Rattle.answer.proofs.CodeLaws.{above_read}
use Rattle.answer.proofs.ReplyLaws.{put_record_reply}
use Rattle.answer.proofs.AnswerLaws.{place-fits, record-short, replied, replies_as, answers_as, attempts_as, is_record, is_reading, is_write}
use Rattle.answer.proofs.answer.Exchange.on_property.Goals as goal

pub on_write-requires : goal.on_write-requires
on_write-requires c =
    let self = c.args.self.now in
    record {
      op = above_read c.args.request.now.op c.requires.op c.in_default.not-Record c.in_default.not-Read;
      within = place-fits self.tree.now self.cells.now self.lent c.args.place c.requires.within;
    }

pub returns-in-Record : goal.returns-in-Record
returns-in-Record c =
    let self = c.args.self.now in
    let asked = request_in c.args.request.now in
    let op = ap op_number c.in-Record.is in
    record {
      answers =
          replies_as c.plain.ensures
          (answers_as (is_record (seen self.tree.now) (cells_in self.cells.now) asked c.args.place op)
          (replied (lent_form self.tree.now self.cells.now self.lent)
          (put_record_reply asked c.put_request-at.ensures (property_in (seen self.tree.now) c.args.place)
          (omega (arith, self.roomy, record-short self.tree.now self.cells.now self.lent asked c.args.request.now.allowed c.args.place))
          op
          c.put_record.ensures)));
      same_cells = refl;
      same_out = refl;
    }

pub returns-in-Read : goal.returns-in-Read
returns-in-Read c =
    let self = c.args.self.now in
    record {
      answers =
          attempts_as self.cells.now self.out.now c.on_read.result c.on_read.new.self.cells.now c.on_read.new.self.out.now
          (is_reading (seen self.tree.now) (cells_in self.cells.now) (request_in c.args.request.now) c.args.place (ap op_number c.in-Read.is))
          c.on_read.ensures.answers;
      same_cells = c.on_read.ensures.same_cells;
      same_out = c.on_read.ensures.same_out;
    }

pub returns-in_default : goal.returns-in_default
returns-in_default c =
    let self = c.args.self.now in
    record {
      answers =
          answers_as
          (is_write (seen self.tree.now) (cells_in self.cells.now) (request_in c.args.request.now) c.args.place
          (above_read c.args.request.now.op c.requires.op c.in_default.not-Record c.in_default.not-Read))
          c.on_write.ensures.answers;
      same_cells = c.on_write.ensures.same_cells;
      same_out = c.on_write.ensures.same_out;
    }
