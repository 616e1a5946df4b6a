-- `frame::read::piece_at` meets its contract. Assumes nothing.
use Rattle.std.proofs.Common.{◌+◌, ◌<◌, length, arith}
use Rattle.frame.proofs.ReadLaws.{lone_at, alone_at, doubled_at, other_at, end_at, early_at}
use Rattle.frame.proofs.read.piece_at.Goals as goal
use Rattle.frame.proofs.read.piece_at.Goals.{Else-left-lt2, else-p-eq-ETX-via-then-p-eq-ETX+else-left-eq2, else-p-eq-ETX-via-else-p-eq-ETX}

-- Behind the second test two bytes are left.
two : (c : Else-left-lt2) → c.args.i + 1 < length c.args.s.now
two c =
    omega (arith, c.if-left-lt2.false)

pub returns-then-b-ne-DLE : goal.returns-then-b-ne-DLE
returns-then-b-ne-DLE c = lone_at c.args.s.now c.args.i c.requires c.if-b-ne-DLE.true

pub returns-then-left-lt2 : goal.returns-then-left-lt2
returns-then-left-lt2 c = alone_at c.args.s.now c.args.i c.requires (omega (arith, c.if-left-lt2.true)) c.if-b-ne-DLE.false

pub returns-then-p-eq-DLE : goal.returns-then-p-eq-DLE
returns-then-p-eq-DLE c =
    doubled_at c.args.s.now c.args.i (two (goal.at.returns-then-p-eq-DLE c).Else-left-lt2) c.if-b-ne-DLE.false c.if-p-eq-DLE.true

pub returns-then-left-eq2 : goal.returns-then-left-eq2
returns-then-left-eq2 c =
    end_at c.args.s.now c.args.i (two (goal.at.returns-then-left-eq2 c).Else-left-lt2) c.if-b-ne-DLE.false
    c.if-p-eq-DLE.false c.if-p-eq-ETX.true c.if-left-eq2.true

pub returns : goal.returns
returns c =
    let at = two (goal.at.returns c).Else-left-lt2 in
    elim c.else-p-eq-ETX.branch [
      | else-p-eq-ETX-via-then-p-eq-ETX+else-left-eq2 w ↦ early_at c.args.s.now c.args.i at c.if-b-ne-DLE.false c.if-p-eq-DLE.false w.if-p-eq-ETX.true w.if-left-eq2.false
      | else-p-eq-ETX-via-else-p-eq-ETX w ↦ other_at c.args.s.now c.args.i at c.if-b-ne-DLE.false c.if-p-eq-DLE.false w.if-p-eq-ETX.false
    ]
