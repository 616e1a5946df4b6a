-- `frame::read::read_content` meets its contract. Assumes nothing.
use Rattle.std.proofs.Common.{◌+◌, ◌-◌, ◌≤◌, length, take, drop, arith, length-take}
use Rattle.std.proofs.lemmas.Result.{err_from_is_err_and}
use Rattle.protocol.specs.Numbers.{room_data}
use Rattle.protocol.proofs.BufferLaws.{put_fits, emits_no_room, emits_in_room}
use Rattle.frame.proofs.ContentLaws.{Data, content_refused, content_data, content_emits}
use Rattle.frame.proofs.read.read_content.Goals as goal
use Rattle.frame.proofs.read.read_content.Goals.{In_ok-len}

-- A content that passes is a good one.
good : (c : In_ok-len) → Data c.args.address c.args.content.now c.in_ok-len.len
good c =
    content_data c.args.address c.args.content.now c.tally_of.ensures (λ i. omega (arith, c.type_inv.content i)) c.in_ok-len.ensures

pub returns-then-out-lt-ROOM_DATA : goal.returns-then-out-lt-ROOM_DATA
returns-then-out-lt-ROOM_DATA c = emits_no_room room_data _ _ _ c.if-out-lt-ROOM_DATA.true

pub returns-in_err-len : goal.returns-in_err-len
returns-in_err-len c =
    let p = err_from_is_err_and c.from_residual.result c.from_residual.ensures.1 in
    rw (p.1, p.2)
    (emits_in_room c.if-out-lt-ROOM_DATA.false
    (content_refused c.args.address c.args.content.now c.tally_of.ensures
    (λ i. omega (arith, c.type_inv.content i)) c.args.out.now c.in_err-len.ensures))

pub overflow_add-end : goal.overflow_add-end
overflow_add-end c = omega (arith, (good c).len, (good c).most)

pub slice_bounds-put_all-end : goal.slice_bounds-put_all-end
slice_bounds-put_all-end c =
    let d = good (goal.at.slice_bounds-put_all-end c).In_ok-len in
    omega (arith, d.len, d.long)

pub returns : goal.returns
returns c =
    let d = good (goal.at.returns c).In_ok-len in
    let room : 0 + length (take (c.in_ok-len.len + 1 - 1) (drop 1 c.args.content.now)) ≤ length c.args.out.now =
    omega (
      arith,
      length-take (c.in_ok-len.len + 1 - 1) (drop 1 c.args.content.now),
      d.len,
      d.most,
      c.if-out-lt-ROOM_DATA.false,
    ) in
    emits_in_room c.if-out-lt-ROOM_DATA.false
    (content_emits c.args.address c.args.content.now d (put_fits room c.put_all.ensures))
