-- `reply::put_record` meets its contract. Assumes nothing.
use Rattle.protocol.specs.Tree.{property_in}
use Rattle.tree.specs.Seen.{seen}
use Rattle.reply.proofs.ReplyLaws.{put_record_body}
use Rattle.reply.proofs.put_record.Goals as goal

pub returns : goal.returns
returns c =
    put_record_body (property_in (seen c.args.tree.now) c.args.place)
    c.read_fields.ensures
    c.numbers.ensures
    c.put_all-described.ensures
    c.put_record_texts.ensures
