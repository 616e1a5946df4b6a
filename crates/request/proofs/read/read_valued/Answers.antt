-- `request::read::read_valued` meets its contract. Assumes nothing.
use native.Mathlib.Omega.{arith}
use Rattle.protocol.proofs.RequestLaws.{zero_within}
use Rattle.protocol.specs.Refusal.{op_number}
use Rattle.request.proofs.ReadLaws.{valued_other, valued_whole}
use Rattle.request.proofs.read.read_valued.Goals as goal

pub slice_bounds-rest-count : goal.slice_bounds-rest-count
slice_bounds-rest-count c = omega (arith, c.before_zero-end.ensures, zero_within c.args.bs.now)

pub slice_bounds-rest-start : goal.slice_bounds-rest-start
slice_bounds-rest-start c = omega (arith, c.before_zero-end.ensures, zero_within c.args.bs.now)

pub returns-in_default : goal.returns-in_default
returns-in_default c =
    valued_other (op_number c.args.op) c.args.bs.now c.before_zero-end.ensures (λ h. omega (arith, h, c.in_default.len_below))

pub returns-in_default-2 : goal.returns-in_default-2
returns-in_default-2 c =
    valued_other (op_number c.args.op) c.args.bs.now c.before_zero-end.ensures (λ h. omega (arith, h, c.in_default.len_at_least))

pub returns : goal.returns
returns c =
    valued_whole (op_number c.args.op) c.args.bs.now c.before_zero-end.ensures
    (omega (arith, c.in-len5.len_at_least, c.in-len5.len_below)) c.word_of-value.ensures c.read_indexed.ensures
