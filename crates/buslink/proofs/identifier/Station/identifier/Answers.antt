-- `buslink::identifier::Station::identifier` meets its contract. Assumes nothing.
use native.Mathlib.Omega.{arith}
use Rattle.buslink.proofs.IdentifierLaws.{station_parts, fields}
use Rattle.buslink.proofs.identifier.Station.identifier.Goals as goal

pub overflow_sub-station : goal.overflow_sub-station
overflow_sub-station c = omega (arith, c.from.ensures, (station_parts _ _ c.args.self.addressed).base_from)

pub returns : goal.returns
returns c = rw (c.from.ensures, c.from-2.ensures, c.from-3.ensures) (fields _ _ _ c.args.self.addressed c.args.kind.carries)
