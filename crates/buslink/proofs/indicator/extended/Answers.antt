-- `buslink::indicator::extended` meets its contract. Assumes nothing.
use Rattle.buslink.proofs.IndicatorLaws.{no_sign, sign}
use Rattle.buslink.proofs.indicator.extended.Goals as goal

pub returns-then-v-eq0 : goal.returns-then-v-eq0
returns-then-v-eq0 c = no_sign _ c.if-v-eq0.true

pub returns : goal.returns
returns c = sign _ c.requires c.if-v-eq0.false
