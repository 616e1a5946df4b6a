-- `request::read::read_indexed` meets its contract. Assumes nothing.
use Rattle.protocol.specs.Request.{read_indexed}
use Rattle.protocol.specs.Refusal.{op_number}
use Rattle.request.proofs.ReadLaws.{indexed_none}
use Rattle.request.proofs.read.read_indexed.Goals as goal

pub returns-in_default : goal.returns-in_default
returns-in_default c = indexed_none (op_number c.args.op) c.args.value c.args.bs.now c.requires c.in_default.len_below

pub returns : goal.returns
unfolding read_indexed
returns c = c.judge.ensures
