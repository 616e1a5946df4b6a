-- `tree::record::cut_record` meets its contract. Assumes nothing.
use native.Mathlib.Omega.{arith}
use Rattle.tree.proofs.FieldLaws.{cut_rest, cut_behind}
use Rattle.tree.proofs.record.cut_record.Goals as goal

pub returns-in-Some : goal.returns-in-Some
returns-in-Some c = cut_rest c.args.tree.now c.args.at c.requires.1 c.in-Some.ensures.lookup.0.2 c.copy_from_slice.ensures.after

pub returns-in_default : goal.returns-in_default
returns-in_default c = cut_behind c.args.tree.now c.args.at (omega (arith, c.in_default.ensures.lookup.0))
