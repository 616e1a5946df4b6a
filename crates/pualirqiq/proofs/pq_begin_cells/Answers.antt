-- `pualirqiq::pq_begin_cells` meets its contract. Assumes nothing.
use Prim.Native.Nat.{◌*◌}
use native.Mathlib.Omega.{arith}
use mathlib.Core.Path.{◌≡◌, sym, ap, subst, ◌∙◌}
use mathlib.Core.Bool.{true, ◌&&◌}
use lib.ListN.{length}
use lib.Dec.{eqb}
use Rattle.soundness.specs.Sound.{is_tree}
use Rattle.pualirqiq.specs.Calls.{cells_size, is_cells_sized, Zeroes}
use Rattle.pualirqiq.proofs.CallLaws.{few_properties, size_sound, cells_unsound, zeroes_wrong}
use Rattle.pualirqiq.proofs.pq_begin_cells.Goals as goal
use Rattle.pualirqiq.proofs.pq_begin_cells.Goals.{Else-not-is_tree}

is : (c : Else-not-is_tree) → is_tree c.args.tree.now ≡ true
is c =
    sym c.is_tree.ensures ∙ c.if-not-is_tree.false

pub returns-then-not-is_tree : goal.returns-then-not-is_tree
returns-then-not-is_tree c =
    let tree = c.args.tree.now in
    let cells = c.args.cells.now in
    rw c.into.ensures
    (zeroes_wrong (is_cells_sized tree cells) (cells_size tree) cells
    (cells_unsound tree cells (sym c.is_tree.ensures ∙ c.if-not-is_tree.true)))

pub overflow_mul-property_count : goal.overflow_mul-property_count
overflow_mul-property_count c =
    omega (arith, c.property_count.ensures, few_properties c.args.tree.now (is (goal.at.overflow_mul-property_count c).Else-not-is_tree))

pub returns : goal.returns
returns c =
    let tree = c.args.tree.now in
    let cells = c.args.cells.now in
    let sound : is_tree tree ≡ true = is (goal.at.returns c).Else-not-is_tree in
    let size : c.property_count.result * 5 ≡ cells_size tree = ap (λ n. n * 5) c.property_count.ensures ∙ size_sound tree sound in
    subst (λ t. Zeroes t (cells_size tree) cells c.clear.result c.clear.new.buffer)
    (sym (ap (λ t. t && eqb (length cells) (cells_size tree)) sound))
    (subst (λ n. Zeroes (eqb (length cells) n) n cells c.clear.result c.clear.new.buffer) size c.clear.ensures)
