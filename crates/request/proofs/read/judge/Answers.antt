-- `request::read::judge` meets its contract. Assumes nothing.
use mathlib.Core.Path.{refl, sym, ◌∙◌}
use Rattle.protocol.specs.Refusal.{op_number}
use Rattle.protocol.specs.Request.{request_of}
use Rattle.protocol.proofs.RequestLaws.{path_most}
use Rattle.request.proofs.ReadLaws.{fits_numbered, allowed_fit, asked_fit, asked_unfit}
use Rattle.request.proofs.read.judge.Goals as goal

pub returns-then-not-all_fit : goal.returns-then-not-all_fit
returns-then-not-all_fit c =
    asked_unfit c.args.op c.args.path.now c.args.index.0 c.args.value (fits_numbered c.args.path.now c.args.index.0 c.args.value c.all_fit.ensures c.from.ensures) c.if-not-all_fit.true

pub path_of-requires : goal.path_of-requires
path_of-requires c =
    path_most (request_of (op_number c.args.op) c.args.path.now c.args.index.0 c.args.value) (sym (fits_numbered c.args.path.now c.args.index.0 c.args.value c.all_fit.ensures c.from.ensures) ∙ c.if-not-all_fit.false)

pub invariant_of-result : goal.invariant_of-result
invariant_of-result c = record {
  allowed = allowed_fit c.args.op c.args.path.now c.args.index.0 c.args.value (fits_numbered c.args.path.now c.args.index.0 c.args.value c.all_fit.ensures c.from.ensures) c.if-not-all_fit.false c.path_of.ensures.path;
}

pub returns : goal.returns
returns c =
    asked_fit c.args.op c.args.path.now c.args.index.0 c.args.value (fits_numbered c.args.path.now c.args.index.0 c.args.value c.all_fit.ensures c.from.ensures) c.if-not-all_fit.false
    _ refl refl refl c.path_of.ensures.path c.path_of.ensures.zeros
