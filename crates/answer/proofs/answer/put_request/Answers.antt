-- `answer::answer::put_request` meets its contract. Assumes nothing.
use Rattle.request.specs.Asked.{request_in}
use Rattle.answer.proofs.ReplyLaws.{put_allowed}
use Rattle.answer.proofs.answer.put_request.Goals as goal

pub returns : goal.returns
returns c = put_allowed (request_in c.args.request.now) c.requires c.args.request.now.allowed (rw (c.from-op.ensures, c.as_slice.ensures) at c.put_data.ensures)
