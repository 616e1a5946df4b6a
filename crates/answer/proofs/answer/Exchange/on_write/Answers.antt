-- `answer::answer::Exchange::on_write` meets its contract. Assumes nothing.
use Rattle.std.proofs.Common.{◌≡◌, ℕ, List, refl, sym, ap, ◌∙◌, arith}
use Rattle.protocol.specs.Tree.{property_in}
use Rattle.protocol.specs.Answer.{Outcome, outcome, write_body, write_number, action_of, cells_after, on_write}
use Rattle.protocol.proofs.AnswerLaws.{write_size}
use Rattle.protocol.proofs.BufferLaws.{fit_as}
use Rattle.protocol.proofs.RequestLaws.{fitting, value-fits}
use Rattle.tree.specs.Seen.{seen}
use Rattle.cells.specs.Cells.{cells_form, cells_in}
use Rattle.cells.proofs.CellLaws.{lent_form}
use Rattle.reply.specs.Outcome.{meaning}
use Rattle.request.specs.Asked.{request_in}
use Rattle.answer.specs.Serve.{action_number}
use Rattle.answer.specs.Steps.{Answers}
use Rattle.answer.proofs.CodeLaws.{unsaved}
use Rattle.answer.proofs.ReplyLaws.{path_short, put_write_reply}
use Rattle.answer.proofs.AnswerLaws.{lent_stored, replies_as, saved_cells, writes}
use Rattle.answer.proofs.answer.Exchange.on_write.Goals as goal
use Rattle.answer.proofs.answer.Exchange.on_write.Goals.{After-put_written-len}

-- What is answered, by what the write did.
wrote : (c : After-put_written-len) {did : Outcome} {n action missing : ℕ} {cells : List ℕ}
    → let self = c.args.self.now in
    let cs = cells_in self.cells.now in
    meaning c.outcome_of-did.result ≡ did → n ≡ write_number did → action ≡ action_number (action_of did c.args.place) → missing ≡ 0
    → cells ≡ cells_form (cells_after did cs c.args.place c.args.request.now.value)
    → Answers
    (on_write cs c.args.place (request_in c.args.request.now) (outcome (property_in (seen self.tree.now) c.args.place) c.args.request.now.value))
    self.out.now n c.put_written-len.result action missing cells c.put_written-len.new.out
wrote c is number action missing cells =
    let self = c.args.self.now in
    let asked = request_in c.args.request.now in
    let o = meaning c.outcome_of-did.result in
    writes (cells_in self.cells.now) c.args.place asked c.outcome_of-did.ensures is
    (put_write_reply asked c.put_request-at.ensures o
    (omega (arith, self.roomy, (write_size asked (path_short asked c.args.request.now.allowed) o).most))
    c.requires.op
    (fit_as (ap (write_body o) c.from.ensures) c.put_written-len.ensures))
    number refl action missing cells

pub invariant_of-self-in-Saved-clause-lent : goal.invariant_of-self-in-Saved-clause-lent
invariant_of-self-in-Saved-clause-lent c =
    let self = c.args.self.now in
    let r = request_in c.args.request.now in
    rw c.store_word.ensures
    (lent_stored self.tree.now self.cells.now self.lent c.args.place c.args.request.now.value
    (value-fits r (fitting r c.args.request.now.allowed).rest c.requires.op))

pub returns-in-Saved : goal.returns-in-Saved
unfolding action_of cells_after write_number
returns-in-Saved c =
    let self = c.args.self.now in
    record {
      answers =
          replies_as c.plain.ensures
          (wrote (goal.at.returns-in-Saved c).After-put_written-len (ap meaning c.in-Saved.is) refl refl refl
          (saved_cells (cells_in self.cells.now) c.args.place c.args.request.now.value (lent_form self.tree.now self.cells.now self.lent) c.store_word.ensures));
      same_cells = refl;
      same_out = refl;
    }

pub returns : goal.returns
returns c =
    let self = c.args.self.now in
    let told = c.outcome_of.ensures in
    record {
      answers =
          wrote (goal.at.returns c).After-put_written-len refl told.number told.acts told.tells
          (lent_form self.tree.now self.cells.now self.lent
          ∙ ap cells_form (sym (unsaved c.outcome_of-did.result (cells_in self.cells.now) c.args.place c.args.request.now.value c.in_default.not-Saved)));
      same_cells = refl;
      same_out = refl;
    }
