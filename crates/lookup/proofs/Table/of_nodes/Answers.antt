-- `lookup::Table::of_nodes` meets its contract. Assumes nothing.
use mathlib.Core.Path.{refl}
use Rattle.lookup.proofs.FindLaws.{children_in}
use Rattle.lookup.proofs.Table.of_nodes.Goals as goal

pub returns : goal.returns
returns c = λ node. children_in c.args.tree.now node _ refl refl refl c.byte_at.ensures
