-- `tree::bytes::word_at` meets its contract. Assumes nothing.
use native.Mathlib.Omega.{arith}
use Rattle.protocol.specs.Bytes.{number_after}
use Rattle.tree.specs.Seen.{word_at}
use Rattle.tree.proofs.bytes.word_at.Goals as goal

pub returns : goal.returns
unfolding word_at number_after
returns c = omega arith
