-- `pualirqiq::pq_check_tree` meets its contract. Assumes nothing.
use mathlib.Core.Path.{sym, ◌∙◌}
use mathlib.Core.Bool.{true, false}
use Rattle.pualirqiq.proofs.BackLaws.{tree_number_lem}
use Rattle.pualirqiq.proofs.pq_check_tree.Goals as goal

pub returns-then-is_tree : goal.returns-then-is_tree
returns-then-is_tree c = tree_number_lem c.args.tree.now true (sym c.is_tree.ensures ∙ c.if-is_tree.true)

pub returns : goal.returns
returns c = c.into.ensures ∙ tree_number_lem c.args.tree.now false (sym c.is_tree.ensures ∙ c.if-is_tree.false)
