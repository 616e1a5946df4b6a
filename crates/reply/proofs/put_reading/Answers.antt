-- `reply::put_reading` meets its contract. Assumes nothing.
use Rattle.protocol.proofs.BufferLaws.{fit_as}
use Rattle.reply.proofs.put_reading.Goals as goal

pub returns : goal.returns
returns c = fit_as c.reading.ensures c.put_all.ensures
