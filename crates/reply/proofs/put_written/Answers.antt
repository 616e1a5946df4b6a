-- `reply::put_written` meets its contract. Assumes nothing.
use mathlib.Core.Path.{sym, ◌∙◌}
use Rattle.protocol.proofs.BufferLaws.{fit_as}
use Rattle.reply.specs.Outcome.{meaning}
use Rattle.reply.proofs.ReplyLaws.{put_reasoned_body}
use Rattle.reply.proofs.put_written.Goals as goal

pub returns : goal.returns
returns c =
    put_reasoned_body (meaning c.args.o) (λ e. c.if-op-from.false (e ∙ sym c.from.ensures))
    c.save_byte.ensures
    c.put_all-saved.ensures
    (fit_as c.reason.ensures c.put_all.ensures)
