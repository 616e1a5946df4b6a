-- `text::output::Output::put_line` meets its contract. Assumes nothing.
use Rattle.text.proofs.TextLaws.{line_put}
use Rattle.text.proofs.output.Output.put_line.Goals as goal

pub returns : goal.returns
returns g c =
    line_put c.args.key.now (g.V.Value.shown c.args.value) c.put_all.ensures c.put_all-2.ensures c.put.ensures c.put_all-3.ensures
