-- `compose::put_data` meets its contract. Assumes nothing.
use mathlib.Core.Path.{ap}
use mathlib.Core.List.{[], ◌∷◌}
use lib.ListN.{take}
use Rattle.protocol.specs.Numbers.{PDI}
use Rattle.protocol.specs.Bytes.{word}
use Rattle.protocol.specs.Buffer.{fitting, Put}
use Rattle.protocol.proofs.BufferLaws.{fit_as, fits_join}
use Rattle.compose.proofs.WriteLaws.{data-path, data-index, data-value}
use Rattle.compose.proofs.put_data.Goals as goal
use Rattle.compose.proofs.put_data.Goals.{After-put_all-addressed}

with-path : (c : After-put_all-addressed) → Put 0 (fitting 0 (PDI ∷ c.args.op ∷ c.args.path.now) c.args.out.now) c.args.out.now c.put_all-addressed.result c.put_all-addressed.new.out
with-path c =
    fits_join (PDI ∷ c.args.op ∷ []) c.args.path.now c.put_all-named.ensures c.put_all-addressed.ensures

pub returns-then-op-le-OP_NODE : goal.returns-then-op-le-OP_NODE
returns-then-op-le-OP_NODE c =
    fit_as (data-path c.args.op c.args.path.now c.args.index.0 c.args.value c.if-op-le-OP_NODE.true) (with-path (goal.at.returns-then-op-le-OP_NODE c).After-put_all-addressed)

pub returns-then-op-le-OP_READ : goal.returns-then-op-le-OP_READ
returns-then-op-le-OP_READ c =
    fit_as
    (data-index c.args.op c.args.path.now c.args.index.0 c.args.value c.if-op-le-OP_NODE.false c.if-op-le-OP_READ.true)
    (fits_join (PDI ∷ c.args.op ∷ c.args.path.now) (c.args.index.0 ∷ []) (with-path (goal.at.returns-then-op-le-OP_READ c).After-put_all-addressed)
    (fit_as (ap (take 1) c.tail_of-tail.ensures) c.put_all.ensures))

pub returns : goal.returns
returns c =
    fit_as (data-value c.args.op c.args.path.now c.args.index.0 c.args.value c.if-op-le-OP_READ.false)
    (fits_join (PDI ∷ c.args.op ∷ c.args.path.now) (c.args.index.0 ∷ 0 ∷ word c.args.value) (with-path (goal.at.returns c).After-put_all-addressed)
    (fit_as c.tail_of-tail.ensures c.put_all-2.ensures))
