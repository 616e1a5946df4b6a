-- `console::bench::step` meets its contract. Assumes nothing.
use Rattle.std.proofs.Common.{[], arith, Ok, ap, ◌∙◌}
use Rattle.protocol.specs.Numbers.{room_data}
use Rattle.protocol.proofs.ListLaws.{part_size}
use Rattle.stream.specs.Feed.{fed}
use Rattle.console.specs.Bench.{bench_address}
use Rattle.console.proofs.LinesLaws.{lines_put}
use Rattle.console.proofs.StepLaws.{steps_none, steps_open, data_within, no_frame_lem, good_frame, bad_frame}
use Rattle.console.proofs.bench.step.Goals as goal

pub returns-then-out-lt-TEXT_ROOM : goal.returns-then-out-lt-TEXT_ROOM
returns-then-out-lt-TEXT_ROOM c =
    steps_none _ c.args.state.now c.args.cells.now c.args.bytes.now c.args.out.now c.if-out-lt-TEXT_ROOM.true

pub slice_bounds-payload-end : goal.slice_bounds-payload-end
slice_bounds-payload-end c =
    data_within (fed bench_address c.args.state.now c.args.bytes.now room_data) c.feed-fed.ensures c.args.cells.now c.args.out.now
    (c.in-Ok-Some.is ∙ ap Ok (rw c.in-Ok-Some.is at c.in-Ok-Some.field-0-is))

pub slice_bounds-serve_lines-end : goal.slice_bounds-serve_lines-end
slice_bounds-serve_lines-end c = part_size c.in-Ok-Some.size c.feed-fed.new.out
    (data_within (fed bench_address c.args.state.now c.args.bytes.now room_data) c.feed-fed.ensures c.args.cells.now c.args.out.now
    (c.in-Ok-Some.is ∙ ap Ok (rw c.in-Ok-Some.is at c.in-Ok-Some.field-0-is)))

pub returns-in-Ok-None : goal.returns-in-Ok-None
returns-in-Ok-None c =
    steps_open _ c.args.state.now c.args.cells.now c.args.bytes.now c.if-out-lt-TEXT_ROOM.false
    (no_frame_lem (fed bench_address c.args.state.now c.args.bytes.now room_data) c.feed-fed.ensures c.args.cells.now c.args.out.now
    (c.in-Ok-None.is ∙ ap Ok (rw c.in-Ok-None.is at c.in-Ok-None.field-0-is)))

pub returns-in-Ok-Some : goal.returns-in-Ok-Some
returns-in-Ok-Some c =
    steps_open _ c.args.state.now c.args.cells.now c.args.bytes.now c.if-out-lt-TEXT_ROOM.false
    (good_frame (fed bench_address c.args.state.now c.args.bytes.now room_data) c.feed-fed.ensures c.args.cells.now c.args.out.now
    (c.in-Ok-Some.is ∙ ap Ok (rw c.in-Ok-Some.is at c.in-Ok-Some.field-0-is)) c.serve_lines-len.ensures)

pub returns-in-Err : goal.returns-in-Err
returns-in-Err c =
    steps_open _ c.args.state.now c.args.cells.now c.args.bytes.now c.if-out-lt-TEXT_ROOM.false
    (bad_frame (fed bench_address c.args.state.now c.args.bytes.now room_data) c.feed-fed.ensures c.args.cells.now c.args.out.now
    c.in-Err.is c.from.ensures (lines_put [] (omega arith) (omega arith) (omega arith) c.put_lines-len.ensures))
