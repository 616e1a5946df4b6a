-- `lookup::Table::of_properties` meets its contract. Assumes nothing.
use mathlib.Core.Path.{refl}
use Rattle.lookup.proofs.FindLaws.{properties_in}
use Rattle.lookup.proofs.Table.of_properties.Goals as goal

pub returns : goal.returns
returns c = λ node. properties_in c.args.tree.now node _ c.properties_start.ensures refl refl c.byte_at.ensures
