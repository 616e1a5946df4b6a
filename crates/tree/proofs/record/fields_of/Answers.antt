-- `tree::record::fields_of` meets its contract. Assumes nothing.
use mathlib.Core.Path.{refl}
use Rattle.tree.specs.Seen.{property_seen, half_at, word_at}
use Rattle.tree.proofs.record.fields_of.Goals as goal

pub returns : goal.returns
unfolding property_seen half_at word_at
returns c =
    record {
      node = refl;
      kind = refl;
      min = c.word_of.ensures;
      max = c.word_of-2.ensures;
      attribute = c.half_of.ensures;
      format = c.half_of-2.ensures;
    }
