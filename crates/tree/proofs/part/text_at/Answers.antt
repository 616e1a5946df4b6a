-- `tree::part::text_at` meets its contract. Assumes nothing.
use native.Mathlib.Omega.{arith}
use Rattle.tree.proofs.FieldLaws.{part_at}
use Rattle.tree.proofs.part.text_at.Goals as goal

pub overflow_add-result : goal.overflow_add-result
overflow_add-result c = omega (arith, (part_at c.args.tree.now c.in-Some.from c.if-from-tree.true c.before_zero.ensures).within)

pub returns-in-Some : goal.returns-in-Some
returns-in-Some c = rw c.in-Some.is (part_at c.args.tree.now c.in-Some.from c.if-from-tree.true c.before_zero.ensures)
