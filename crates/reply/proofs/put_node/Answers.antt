-- `reply::put_node` meets its contract. Assumes nothing.
use Rattle.tree.specs.Seen.{seen}
use Rattle.reply.proofs.ReplyLaws.{put_node_body}
use Rattle.reply.proofs.put_node.Goals as goal

pub returns : goal.returns
returns c =
    put_node_body (seen c.args.tree.now) c.args.node
    c.children.ensures
    c.properties.ensures
    c.put_all-named.ensures
    c.put_name.ensures
