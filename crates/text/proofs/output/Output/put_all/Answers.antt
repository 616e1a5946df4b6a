-- `text::output::Output::put_all` meets its contract. Assumes nothing.
use native.Mathlib.Omega.{arith}
use mathlib.Core.Path.{refl}
use Rattle.protocol.proofs.LayLaws.{put_laid}
use Rattle.text.proofs.output.Output.put_all.Goals as goal

pub returns : goal.returns
returns c = record { laid = put_laid c.put_all-self.ensures (omega arith); same = refl }
