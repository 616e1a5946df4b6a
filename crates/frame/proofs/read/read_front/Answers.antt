-- `frame::read::read_front` meets its contract. Assumes nothing.
use Rattle.std.proofs.lemmas.Result.{err_from_is_err_and}
use Rattle.frame.proofs.CheckLaws.{front_refused, front_data}
use Rattle.frame.proofs.read.read_front.Goals as goal

pub returns-in_err-len : goal.returns-in_err-len
returns-in_err-len c =
    let p = err_from_is_err_and c.from_residual.result c.from_residual.ensures.1 in
    rw (p.1, p.2) (front_refused c.args.address c.args.s.now c.args.out.now _ c.in_err-len.ensures)

pub returns : goal.returns
returns c = front_data c.args.address c.args.s.now _ c.in_ok-len.ensures c.width.ensures c.copy_fitting.ensures
