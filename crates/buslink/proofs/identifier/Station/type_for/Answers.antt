-- `buslink::identifier::Station::type_for` meets its contract. Assumes nothing.
use Prim.Native.Nat.{◌/◌, ◌^◌}
use mathlib.Core.Path.{◌≡◌, refl, sym, ◌∙◌}
use Rattle.std.proofs.lemmas.Result.{err_from_is_err_and}
use Rattle.protocol.proofs.PackLaws.{packing}
use Rattle.buslink.specs.Identifier.{type_in}
use Rattle.buslink.proofs.IdentifierLaws.{other_type, other_station, its_own}
use Rattle.buslink.proofs.identifier.Station.type_for.Goals as goal
use Rattle.buslink.proofs.identifier.Station.type_for.Goals.{In_ok-kind}

-- The four bits are the type.
typed : (c : In_ok-kind) → c.in_ok-kind.kind.number ≡ type_in c.args.id
typed c = c.in_ok-kind.ensures ∙ packing.lower (c.args.id / 2 ^ 8) 4

pub returns-in_err-kind : goal.returns-in_err-kind
returns-in_err-kind c =
    let told = c.in_err-kind.ensures in
    let p = err_from_is_err_and c.from_residual.result c.from_residual.ensures.1 in
    rw (p.1, p.2) (other_type c.args.self.base c.args.self.sub c.args.id (packing.lower (c.args.id / 2 ^ 8) 4) told.0, told.1)

pub returns-then-identifier-id : goal.returns-then-identifier-id
returns-then-identifier-id c = (
  other_station c.args.self.base c.args.self.sub c.args.id (typed (goal.at.returns-then-identifier-id c).In_ok-kind) c.in_ok-kind.kind.carries
      (λ e. c.if-identifier-id.true (c.identifier.ensures ∙ e)),
  refl,
)

pub returns : goal.returns
returns c =
    let is = typed (goal.at.returns c).In_ok-kind in
    (its_own c.args.self.base c.args.self.sub c.args.id is c.in_ok-kind.kind.carries (sym c.identifier.ensures ∙ c.if-identifier-id.false), is)
