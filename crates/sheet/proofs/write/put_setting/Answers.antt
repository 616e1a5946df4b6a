-- `sheet::write::put_setting` meets its contract. Assumes nothing.
use Rattle.protocol.specs.Tree.{property_in}
use Rattle.tree.specs.Seen.{seen}
use Rattle.sheet.proofs.WriteLaws.{line_put}
use Rattle.sheet.proofs.write.put_setting.Goals as goal

pub returns : goal.returns
returns c =
    line_put (property_in (seen c.args.lent.tree.now) c.args.k) c.read_fields.ensures c.takes_sign.ensures c.word_of.ensures
    c.label.ensures.is c.put_line.ensures
