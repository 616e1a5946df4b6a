-- What putting a text leaves of an output.
use Rattle.std.specs.Prelude.{◌≡◌, List, ℕ}
use Rattle.protocol.specs.Buffer.{Laid}
use Rattle.text.specs.declared.output.Output.{Output}

-- The text is laid from the output's place on, and the place is behind it. The buffer is the one that was lent.
pub record Lays (text : List ℕ) (old new : Output) : Type 0 where
  pub laid : Laid old.at text old.bytes.now new.at new.bytes.now
  pub same : new.bytes.ghost_name ≡ old.bytes.ghost_name
