-- `sheet::write::word_of` meets its contract. Assumes nothing.
use mathlib.Core.Path.{ap}
use Rattle.std.specs.Option.{is_some}
use Rattle.sheet.proofs.WriteLaws.{setting_word}
use Rattle.sheet.proofs.write.word_of.Goals as goal

pub unwrap-requires : goal.unwrap-requires
unwrap-requires c =
    let lent = c.args.lent in
    ap is_some (setting_word lent.tree.now lent.cells.now lent.lent c.args.k c.requires c.reading.ensures)

pub returns : goal.returns
returns c =
    let lent = c.args.lent in
    let w = setting_word lent.tree.now lent.cells.now lent.lent c.args.k c.requires c.reading.ensures in
    cc (w, c.unwrap.ensures)
