-- `buslink::indicator::Indicator::to_bytes` meets its contract. Assumes nothing.
use mathlib.Core.Path.{ap}
use lib.ListN.{get_or}
use Rattle.buslink.proofs.IndicatorLaws.{put_together}
use Rattle.buslink.proofs.indicator.Indicator.to_bytes.Goals as goal

pub returns : goal.returns
returns c =
    let bytes = c.to_le_bytes.ensures in
    put_together c.args.self (ap (λ l. get_or l 0 0) bytes) (ap (λ l. get_or l 1 0) bytes) (ap (λ l. get_or l 2 0) bytes)
    c.requires.status c.requires.format
