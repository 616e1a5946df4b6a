-- `tree::record::at_most` meets its contract. Assumes nothing.
use mathlib.Core.Path.{ap₂}
use lib.Dec.{leb}
use Rattle.protocol.specs.Bytes.{at_most}
use Rattle.tree.proofs.record.at_most.Goals as goal

pub returns : goal.returns
unfolding at_most
returns c = ap₂ leb c.ordered_word.ensures c.ordered_word-2.ensures
