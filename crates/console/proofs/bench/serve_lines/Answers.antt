-- `console::bench::serve_lines` meets its contract. Assumes nothing.
use Rattle.std.proofs.Common.{length-take, [], ◌≡◌, ◌≤◌, true, length, take, subst, arith}
use Rattle.protocol.specs.Numbers.{room_data}
use Rattle.protocol.specs.Refusal.{length_told}
use Rattle.protocol.proofs.ListLaws.{part_size}
use Rattle.answer.specs.Serve.{serve_data}
use Rattle.console.specs.Bench.{served}
use Rattle.console.specs.Steps.{ServesLines}
use Rattle.console.proofs.LinesLaws.{lines_put}
use Rattle.console.proofs.StepLaws.{front_within, told_or_0, lined, lined_refused}
use Rattle.console.proofs.bench.serve_lines.Goals as goal
use Rattle.console.proofs.bench.serve_lines.Goals.{In-Ok, After-number_of}

-- The reply lies in its array, and its frame in its own.
reply_within : (c : In-Ok) → c.in-Ok.told.len ≤ length c.serve_data.new.out
reply_within c =
    let served = c.in-Ok.ensures in
    front_within _ _ served.len served.bytes

wire_within : (c : After-number_of) → c.unwrap_or-size.result ≤ length c.write_frame-framed.new.out
wire_within c =
    let size : c.unwrap_or-size.result ≡ length_told c.write_frame-framed.result = told_or_0 c.write_frame-framed.result c.unwrap_or-size.ensures in
    omega (arith, size, front_within _ _ c.write_frame-framed.ensures.len c.write_frame-framed.ensures.bytes)

pub slice_bounds-reply-end : goal.slice_bounds-reply-end
slice_bounds-reply-end c = reply_within c

pub slice_bounds-write_frame-end : goal.slice_bounds-write_frame-end
slice_bounds-write_frame-end c = part_size c.in-Ok.told.len c.serve_data.new.out (reply_within (goal.at.slice_bounds-write_frame-end c).In-Ok)

pub slice_bounds-wire-end : goal.slice_bounds-wire-end
slice_bounds-wire-end c = wire_within c

pub slice_bounds-put_lines-end : goal.slice_bounds-put_lines-end
slice_bounds-put_lines-end c =
    part_size c.unwrap_or-size.result c.write_frame-framed.new.out (wire_within (goal.at.slice_bounds-put_lines-end c).After-number_of)

pub returns-in-Ok : goal.returns-in-Ok
unfolding served
returns-in-Ok c =
    subst (λ t. ServesLines (serve_data room_data c.args.request.now true t c.args.cells.now) c.args.out.now
    c.put_lines.result c.serve_data.new.cells c.put_lines.new.out)
    c.tree-tree.ensures
    (lined (serve_data room_data c.args.request.now true c.tree-tree.result c.args.cells.now) c.in-Ok.ensures (omega arith)
    c.write_frame-framed.ensures c.number_of.ensures (told_or_0 c.write_frame-framed.result c.unwrap_or-size.ensures)
    (lines_put (take c.unwrap_or-size.result c.write_frame-framed.new.out) (omega arith)
    (omega (arith, c.requires, length-take c.unwrap_or-size.result c.write_frame-framed.new.out)) (omega arith) c.put_lines.ensures))

pub returns-in-Err : goal.returns-in-Err
unfolding served
returns-in-Err c =
    subst (λ t. ServesLines (serve_data room_data c.args.request.now true t c.args.cells.now) c.args.out.now
    c.put_lines-in-Err.result c.serve_data.new.cells c.put_lines-in-Err.new.out)
    c.tree-tree.ensures
    (lined_refused (serve_data room_data c.args.request.now true c.tree-tree.result c.args.cells.now) c.in-Err.ensures
    c.from.ensures (lines_put [] (omega arith) (omega arith) (omega arith) c.put_lines-in-Err.ensures))
