-- `request::read::read_serial` meets its contract. Assumes nothing.
use native.Mathlib.Omega.{arith}
use Rattle.std.proofs.lemmas.Result.{err_from_is_err_and}
use Rattle.protocol.proofs.ListLaws.{part_size}
use Rattle.request.proofs.ReadLaws.{serial_within, serial_refused, serial_read}
use Rattle.request.proofs.read.read_serial.Goals as goal

pub returns-in_err-len : goal.returns-in_err-len
returns-in_err-len c =
    let p = err_from_is_err_and c.from_residual.result c.from_residual.ensures.1 in
    rw (p.1, p.2) (serial_refused c.args.address c.args.s.now c.in_err-len.field-0.0 c.in_err-len.ensures)

pub slice_bounds-front-end : goal.slice_bounds-front-end
slice_bounds-front-end c = serial_within c.args.address c.args.s.now c.in_ok-len.ensures

pub slice_bounds-read_data-end : goal.slice_bounds-read_data-end
slice_bounds-read_data-end c =
    part_size _ c.read_front.new.out (serial_within c.args.address c.args.s.now c.in_ok-len.ensures)

pub returns : goal.returns
returns c =
    serial_read c.args.address c.args.s.now c.in_ok-len.ensures (omega arith) c.read_data.ensures
