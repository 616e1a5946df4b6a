-- `buslink::table::receive` meets its contract. Assumes nothing.
use Prim.Native.Nat.{ℕ, ◌*◌}
use mathlib.Core.Path.{◌≡◌, ap}
use mathlib.Core.Bool.{true}
use mathlib.Core.List.{List}
use Rattle.std.proofs.lemmas.Result.{err_from_is_err_and}
use Rattle.buslink.specs.Indicator.{indicator_size}
use Rattle.buslink.specs.Receive.{receive_table, stored_in, is_table}
use Rattle.buslink.proofs.ReceiveLaws.{received_refused, received_done, taken_formed, table_put}
use Rattle.buslink.proofs.table.receive.Goals as goal

pub returns-in_err-frame : goal.returns-in_err-frame
unfolding receive_table is_table
returns-in_err-frame c =
    let args = c.args in
    let p = err_from_is_err_and c.from_residual.result c.from_residual.ensures.1 in
    rw (p.1, p.2)
    (received_refused (is_table args.table.now) args.base args.sub args.id args.payload.now (λ k ys. stored_in k ys args.table.now) args.table.now _ c.in_err-frame.ensures)

pub returns : goal.returns
unfolding receive_table is_table
returns c =
    let args = c.args in
    let frame = c.in_ok-frame.frame in
    let stores : ℕ → List ℕ → List ℕ = λ k ys. stored_in k ys args.table.now in
    let whole : is_table args.table.now ≡ true =
    taken_formed (is_table args.table.now) args.base args.sub args.id args.payload.now stores args.table.now c.in_ok-frame.ensures in
    received_done (is_table args.table.now) args.base args.sub args.id args.payload.now stores args.table.now c.in_ok-frame.ensures
    c.usable.ensures
    (table_put frame.kind.number frame.payload.now args.table.now frame.kind.carries frame.whole whole
    c.carried.ensures (ap (λ n. n * indicator_size) c.place.ensures) c.put_all.ensures)
