-- `frame::write::put_frame` meets its contract. Assumes nothing.
use Rattle.std.proofs.Common.{◌+◌, ◌≤◌, ◌++◌, length-append, ℕ, ◌-◌, ◌*◌, ◌∷◌, length, ap, arith}
use Rattle.protocol.specs.Numbers.{DLE, STX}
use Rattle.protocol.specs.Frame.{doubled}
use Rattle.protocol.specs.Buffer.{Put}
use Rattle.protocol.proofs.FrameLaws.{length-doubled}
use Rattle.protocol.proofs.BufferLaws.{put_as, puts, put_room}
use Rattle.frame.proofs.WriteLaws.{front, front_short, pieces_frame}
use Rattle.frame.proofs.write.put_frame.Goals as goal
use Rattle.frame.proofs.write.put_frame.Goals.{After-put_doubled-addressed, After-put_body-body, After-put_doubled-summed}

-- What has been put behind each step, and the room that is left behind the last of them.
addressed : (c : After-put_doubled-addressed) → Put 0 (DLE ∷ STX ∷ doubled c.args.address) c.args.out.now c.put_doubled-addressed.result c.put_doubled-addressed.new.out
addressed c = puts (omega arith) (puts (omega arith) c.put-opened.ensures c.put-started.ensures) c.put_doubled-addressed.ensures

filled : (c : After-put_body-body) → Put 0 (front c.args.address c.args.payload.now) c.args.out.now c.put_body-body.result.at c.put_body-body.new.out
filled c =
    puts (omega arith)
    (puts (omega arith) (puts (omega arith) c.put-opened.ensures c.put-started.ensures) c.put_doubled-addressed.ensures)
    c.put_body-body.ensures.put

room : (c : After-put_doubled-summed) → c.put_doubled-summed.result + 2 ≤ length c.put_doubled-summed.new.out
room c =
    let a = c.args.address in
    let d = c.args.payload.now in
    let k : ℕ = 255 - c.put_body-body.result.sum in
    let summed : Put 0 (front a d ++ doubled k) c.args.out.now c.put_doubled-summed.result c.put_doubled-summed.new.out =
    puts (omega arith)
    (puts (omega arith)
    (puts (omega arith) (puts (omega arith) c.put-opened.ensures c.put-started.ensures) c.put_doubled-addressed.ensures)
    c.put_body-body.ensures.put)
    c.put_doubled-summed.ensures in
    put_room summed 2
    (omega (arith, c.requires.0, c.requires.1, front_short a d, length-doubled k, length-append (front a d) (doubled k)))

pub put_body-body-requires : goal.put_body-body-requires
put_body-body-requires c =
    put_room (addressed (goal.at.put_body-body-requires c).After-put_doubled-addressed) (2 * length c.args.payload.now)
    (omega (arith, c.requires.0, c.requires.1, length-doubled c.args.address))

pub put_doubled-summed-requires : goal.put_doubled-summed-requires
put_doubled-summed-requires c =
    put_room (filled (goal.at.put_doubled-summed-requires c).After-put_body-body) 2
    (omega (arith, c.requires.0, c.requires.1, front_short c.args.address c.args.payload.now))

pub put-closing-requires : goal.put-closing-requires
put-closing-requires c = omega (arith, room (goal.at.put-closing-requires c).After-put_doubled-summed)

pub put-requires : goal.put-requires
put-requires c =
    let left : c.put-closing.result + 1 ≤ length c.put-closing.new.out =
    put_room c.put-closing.ensures 1 (omega (arith, room (goal.at.put-requires c).After-put_doubled-summed)) in
    omega (arith, left)

pub returns : goal.returns
returns c =
    let a = c.args.address in
    let d = c.args.payload.now in
    let k : ℕ = 255 - c.put_body-body.result.sum in
    put_as (pieces_frame a d k (ap (λ n. 255 - n) c.put_body-body.ensures.summed))
    (puts (omega arith)
    (puts (omega arith) (filled (goal.at.returns c).After-put_body-body) c.put_doubled-summed.ensures)
    (puts (omega (arith, room (goal.at.returns c).After-put_doubled-summed)) c.put-closing.ensures c.put.ensures))
