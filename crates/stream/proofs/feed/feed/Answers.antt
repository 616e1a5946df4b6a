-- `stream::feed::feed` meets its contract. Assumes nothing.
use Rattle.stream.proofs.CallLaws.{feeds_formless, feeds_no_room, feeds_run, state_written, behind, emits_end}
use Rattle.stream.proofs.feed.feed.Goals as goal

pub returns-in_default : goal.returns-in_default
returns-in_default c = feeds_formless c.args.address c.args.state.now c.args.bytes.now c.args.out.now c.in_default.ensures

pub returns-then-out-lt-ROOM_DATA : goal.returns-then-out-lt-ROOM_DATA
returns-then-out-lt-ROOM_DATA c =
    let at = c.in-Some.ensures in
    feeds_no_room c.args.address c.args.state.now c.args.bytes.now c.args.out.now at.form c.if-out-lt-ROOM_DATA.true

pub read_end-requires : goal.read_end-requires
read_end-requires c = behind c.run_bytes-run.ensures c.put_place.ensures

pub returns : goal.returns
returns c =
    let at = c.in-Some.ensures in
    feeds_run c.args.address c.args.state.now c.args.bytes.now c.args.out.now at.form c.if-out-lt-ROOM_DATA.false
    (emits_end c.run_bytes-run.ensures c.put_place.ensures c.args.address _ c.if-out-lt-ROOM_DATA.false c.read_end.ensures)
    c.run_bytes-run.ensures.taken
    (state_written c.run_bytes-run.ensures c.put_place.ensures)
