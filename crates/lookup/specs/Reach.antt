-- 02, section 7: what looking for a node hands back.
use Rattle.std.specs.Prelude.{ℕ, Result, Ok, Err}
use Rattle.std.proofs.Math.Option.{Option, none, some}
use Rattle.lookup.specs.declared.Missing.{Missing}

-- The place of a node; where there is none, the length of the shortest front part that no node has.
abbrev pub reached_of : Option ℕ → ℕ → Result ℕ Missing
reached_of none len = Err (record { 0 = len })
reached_of (some place) len = Ok place
