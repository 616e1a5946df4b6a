-- The bench tree, as it is lent, stands for that of document 01.
-- Assumes nothing.
use mathlib.Core.Path.{◌≡◌}
use mathlib.Core.Option.{some}
use Rattle.protocol.specs.Bench.{bench_tree}
use Rattle.protocol.proofs.RuleLaws.{bench_sound}
use Rattle.tree.specs.Form.{tree_form}
use Rattle.soundness.specs.Sound.{tree_of}
use Rattle.soundness.proofs.FormLaws.{form_tree}

pub bench_tree_lem : tree_of (tree_form bench_tree) ≡ some bench_tree
bench_tree_lem = form_tree bench_tree bench_sound
