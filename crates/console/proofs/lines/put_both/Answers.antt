-- `console::lines::put_both` meets its contract. Assumes nothing.
use Rattle.std.proofs.Common.{ap}
use Rattle.protocol.specs.Text.{decimal, line, answer_key}
use Rattle.text.proofs.LaysLaws.{lays_as, lays_join}
use Rattle.console.specs.Lines.{lines}
use Rattle.console.proofs.lines.put_both.Goals as goal

pub returns : goal.returns
unfolding lines
returns c = lays_join (lays_as (ap (λ n. line answer_key (decimal n)) c.from.ensures) c.put_line.ensures) c.put_line-2.ensures
