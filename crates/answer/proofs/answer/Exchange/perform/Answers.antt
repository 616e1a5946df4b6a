-- `answer::answer::Exchange::perform` meets its contract. Assumes nothing.
use Rattle.std.proofs.Common.{◌≡◌, refl, sym, ap, ◌∙◌, arith}
use Rattle.std.proofs.Math.Option.{none, some}
use Rattle.protocol.specs.Refusal.{op_number}
use Rattle.protocol.specs.KeptPath.{path_in}
use Rattle.protocol.specs.Tree.{node_at}
use Rattle.protocol.specs.Path.{missing_length}
use Rattle.protocol.proofs.PathLaws.{missing_within}
use Rattle.tree.specs.Seen.{seen}
use Rattle.cells.specs.Cells.{cells_in}
use Rattle.cells.proofs.CellLaws.{lent_form}
use Rattle.lookup.proofs.ReachLaws.{reached_at, reached_none}
use Rattle.request.specs.Asked.{request_in}
use Rattle.answer.specs.declared.Failure.TheVariants.{NoNode}
use Rattle.answer.proofs.CodeLaws.{above_detect, not_detect}
use Rattle.answer.proofs.ReplyLaws.{path_short}
use Rattle.answer.proofs.AnswerLaws.{fails, replied, replies_as, answers_as, attempts_as, is_detect, no_node_case, at_node_lem}
use Rattle.answer.proofs.answer.Exchange.perform.Goals as goal
use Rattle.answer.proofs.answer.Exchange.perform.Goals.{In-Err}

-- The part of the path that no node has.
lost : (c : In-Err) → let self = c.args.self.now in
    (node_at (seen self.tree.now) (path_in c.args.request.now.path) ≡ none) × (missing_length (seen self.tree.now) (path_in c.args.request.now.path) ≡ c.in-Err.field-0.0)
lost c =
    let self = c.args.self.now in
    let t = seen self.tree.now in
    let path = path_in c.args.request.now.path in
    reached_none (node_at t path) (missing_length t path) (rw c.as_slice.ensures at (sym c.in-Err.is ∙ c.node.ensures))

pub returns-in-Detect : goal.returns-in-Detect
returns-in-Detect c =
    let self = c.args.self.now in
    record {
      answers =
          replies_as c.plain.ensures
          (answers_as (is_detect (seen self.tree.now) (cells_in self.cells.now) (request_in c.args.request.now) (ap op_number c.in-Detect.is))
          (replied (lent_form self.tree.now self.cells.now self.lent) c.put_code.ensures));
      same_cells = refl;
      same_out = refl;
    }

pub on_node-requires : goal.on_node-requires
on_node-requires c = above_detect c.args.request.now.op c.in_default.not-Detect

pub overflow_cast-result : goal.overflow_cast-result
overflow_cast-result c =
    let self = c.args.self.now in
    let r = request_in c.args.request.now in
    omega (arith, (lost (goal.at.overflow_cast-result c).In-Err).1, missing_within (seen self.tree.now) r.path, path_short r c.args.request.now.allowed)

pub returns-in-Ok : goal.returns-in-Ok
returns-in-Ok c =
    let self = c.args.self.now in
    let t = seen self.tree.now in
    let path = path_in c.args.request.now.path in
    let there : node_at t path ≡ some c.in-Ok.node = reached_at (node_at t path) (missing_length t path) (rw c.as_slice.ensures at (sym c.in-Ok.is ∙ c.node.ensures)) in
    record {
      answers =
          attempts_as self.cells.now self.out.now c.on_node.result c.on_node.new.self.cells.now c.on_node.new.self.out.now
          (at_node_lem t (cells_in self.cells.now) (request_in c.args.request.now) (not_detect c.args.request.now.op c.in_default.not-Detect) there)
          c.on_node.ensures.answers;
      same_cells = c.on_node.ensures.same_cells;
      same_out = c.on_node.ensures.same_out;
    }

pub returns-in-Err : goal.returns-in-Err
returns-in-Err c =
    let self = c.args.self.now in
    let gone = lost (goal.at.returns-in-Err c).In-Err in
    record {
      answers =
          fails (NoNode c.in-Err.field-0.0) self.cells.now self.out.now refl
          (no_node_case (seen self.tree.now) (cells_in self.cells.now) (request_in c.args.request.now) (not_detect c.args.request.now.op c.in_default.not-Detect) gone.0 gone.1);
      same_cells = refl;
      same_out = refl;
    }
