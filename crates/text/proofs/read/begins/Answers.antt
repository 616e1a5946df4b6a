-- `text::read::begins` meets its contract. Assumes nothing.
use mathlib.Core.Path.{◌∙◌}
use Rattle.text.proofs.ReadLaws.{starts_begins}
use Rattle.text.proofs.read.begins.Goals as goal

pub returns : goal.returns
returns c = c.starts_with.ensures.value ∙ starts_begins c.args.front.now c.args.bs.now
