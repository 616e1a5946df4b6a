-- `answer::answer::Exchange::on_node` meets its contract. Assumes nothing.
use Rattle.std.proofs.Common.{◌≡◌, refl, ap, arith}
use Rattle.std.proofs.lemmas.Result.{err_from_is_err_and}
use Rattle.std.proofs.Math.Option.{some}
use Rattle.protocol.specs.declared.Refusal.TheVariants.{NoSuchProperty}
use Rattle.protocol.specs.Refusal.{op_number}
use Rattle.protocol.specs.Tree.{property_of}
use Rattle.protocol.proofs.AnswerLaws.{property_below}
use Rattle.tree.specs.Seen.{seen}
use Rattle.cells.specs.Cells.{cells_in}
use Rattle.cells.proofs.CellLaws.{lent_form}
use Rattle.request.specs.Asked.{request_in}
use Rattle.answer.specs.declared.Failure.TheVariants.{Refused}
use Rattle.answer.proofs.CodeLaws.{above_node, not_node, missing, found}
use Rattle.answer.proofs.ReplyLaws.{put_node_reply}
use Rattle.answer.proofs.AnswerLaws.{node_short, fails, replied, replies_as, answers_as, attempts_as, is_node, no_property_case, at_property_lem}
use Rattle.answer.proofs.answer.Exchange.on_node.Goals as goal
use Rattle.answer.proofs.answer.Exchange.on_node.Goals.{In_ok-place}

-- The property that was found.
there : (c : In_ok-place) → property_of (seen c.args.self.now.tree.now) c.args.node c.args.request.now.index ≡ some c.in_ok-place.place
there c =
    found NoSuchProperty (property_of (seen c.args.self.now.tree.now) c.args.node c.args.request.now.index)
    c.property.ensures c.ok_or.ensures.value c.in_ok-place.was

pub returns-in-Node : goal.returns-in-Node
returns-in-Node c =
    let self = c.args.self.now in
    let asked = request_in c.args.request.now in
    let op = ap op_number c.in-Node.is in
    record {
      answers =
          replies_as c.plain.ensures
          (answers_as (is_node (seen self.tree.now) (cells_in self.cells.now) asked c.args.node op)
          (replied (lent_form self.tree.now self.cells.now self.lent)
          (put_node_reply asked c.put_request-at.ensures (seen self.tree.now) c.args.node
          (omega (arith, self.roomy, node_short self.tree.now self.cells.now self.lent asked c.args.request.now.allowed c.args.node))
          op
          c.put_node.ensures)));
      same_cells = refl;
      same_out = refl;
    }

pub returns-in_err-place : goal.returns-in_err-place
returns-in_err-place c =
    let self = c.args.self.now in
    let none = missing NoSuchProperty (property_of (seen self.tree.now) c.args.node c.args.request.now.index) c.property.ensures c.ok_or.ensures.value c.in_err-place.was in
    let failed = err_from_is_err_and c.from_residual.result c.from_residual.ensures.1 in
    rw (failed.1, failed.2, none.1)
    (record {
      answers =
          fails (Refused NoSuchProperty) self.cells.now self.out.now refl
          (no_property_case (seen self.tree.now) (cells_in self.cells.now) (request_in c.args.request.now) c.args.node
          (not_node c.args.request.now.op c.in_default.not-Node) none.0);
      same_cells = refl;
      same_out = refl;
    })

pub on_property-requires : goal.on_property-requires
on_property-requires c =
    let self = c.args.self.now in
    record {
      op = above_node c.args.request.now.op (λ e. omega (arith, ap op_number e, c.requires)) c.in_default.not-Node;
      within = property_below (seen self.tree.now) c.args.node c.args.request.now.index.0 c.in_ok-place.place (there (goal.at.on_property-requires c).In_ok-place);
    }

pub returns : goal.returns
returns c =
    let self = c.args.self.now in
    record {
      answers =
          attempts_as self.cells.now self.out.now c.on_property.result c.on_property.new.self.cells.now c.on_property.new.self.out.now
          (at_property_lem (seen self.tree.now) (cells_in self.cells.now) (request_in c.args.request.now) c.args.node
          (not_node c.args.request.now.op c.in_default.not-Node) (there (goal.at.returns c).In_ok-place))
          c.on_property.ensures.answers;
      same_cells = c.on_property.ensures.same_cells;
      same_out = c.on_property.ensures.same_out;
    }
