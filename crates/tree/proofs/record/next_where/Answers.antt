-- `tree::record::next_where` meets its contract. Assumes nothing.
use Prim.Native.Nat.{◌<◌}
use native.Mathlib.Omega.{arith}
use mathlib.Core.Path.{sym, ◌∙◌}
use lib.ListN.{length}
use Rattle.tree.specs.Seen.{seen}
use Rattle.tree.proofs.NextLaws.{pass_on}
use Rattle.tree.proofs.record.next_where.Goals as goal

pub loop-k-preserved : goal.loop-k-preserved
loop-k-preserved g c =
    λ test tells.
    let listed : c.loop-k.k < length (seen c.args.tree.now).properties =
    omega (arith, c.loop-k-test.true, c.property_count-count.ensures) in
    pass_on test (seen c.args.tree.now) (c.loop-k.invariant test tells) listed
    (sym (tells _ _ _ c.read_fields.ensures c.test.ensures) ∙ c.if-test.false)
