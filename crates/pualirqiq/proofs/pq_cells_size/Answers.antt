-- `pualirqiq::pq_cells_size` meets its contract. Assumes nothing.
use Prim.Native.Nat.{◌*◌}
use native.Mathlib.Omega.{arith}
use mathlib.Core.Path.{◌≡◌, sym, ap, ◌∙◌}
use mathlib.Core.Bool.{true}
use Rattle.soundness.specs.Sound.{is_tree}
use Rattle.pualirqiq.proofs.CallLaws.{few_properties, size_sound, size_none}
use Rattle.pualirqiq.proofs.pq_cells_size.Goals as goal
use Rattle.pualirqiq.proofs.pq_cells_size.Goals.{Else-not-is_tree}

-- Behind the test the tree is sound.
is : (c : Else-not-is_tree) → is_tree c.args.tree.now ≡ true
is c =
    sym c.is_tree.ensures ∙ c.if-not-is_tree.false

pub returns-then-not-is_tree : goal.returns-then-not-is_tree
returns-then-not-is_tree c = size_none c.args.tree.now (sym c.is_tree.ensures ∙ c.if-not-is_tree.true)

pub overflow_mul-result : goal.overflow_mul-result
overflow_mul-result c =
    omega (arith, c.property_count.ensures, few_properties c.args.tree.now (is (goal.at.overflow_mul-result c).Else-not-is_tree))

pub returns : goal.returns
returns c =
    ap (λ n. n * 5) c.property_count.ensures ∙ size_sound c.args.tree.now (is (goal.at.returns c).Else-not-is_tree)
