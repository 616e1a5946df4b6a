-- `buslink::indicator::Indicator::from_bytes` meets its contract. Assumes nothing.
use native.Mathlib.Omega.{arith}
use Rattle.buslink.proofs.IndicatorLaws.{taken_apart}
use Rattle.buslink.proofs.indicator.Indicator.from_bytes.Goals as goal

pub returns : goal.returns
returns c = taken_apart c.args.bs.now (omega (arith, c.type_inv.bs 3)) (omega (arith, c.from_le_bytes.ensures)) c.extended.ensures
