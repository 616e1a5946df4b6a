-- `frame::read::read_frame` meets its contract. Assumes nothing.
use Rattle.protocol.specs.Numbers.{room_data}
use Rattle.protocol.proofs.BufferLaws.{emits_no_room, emits_in_room}
use Rattle.frame.proofs.CheckLaws.{front_whole}
use Rattle.frame.proofs.read.read_frame.Goals as goal

pub returns-then-out-lt-ROOM_DATA : goal.returns-then-out-lt-ROOM_DATA
returns-then-out-lt-ROOM_DATA c = emits_no_room room_data _ _ _ c.if-out-lt-ROOM_DATA.true

pub returns : goal.returns
returns c =
    emits_in_room c.if-out-lt-ROOM_DATA.false
    (front_whole c.args.address c.args.s.now c.if-out-lt-ROOM_DATA.false c.read_front.ensures)
