-- `frame::read::check_frame` meets its contract. Assumes nothing.
use Rattle.std.proofs.Common.{arith}
use Rattle.frame.proofs.CheckLaws.{checks_one, checks_first, checks_second, both_open, checks_broken, checks_whole}
use Rattle.frame.proofs.read.check_frame.Goals as goal
use Rattle.frame.proofs.read.check_frame.Goals.{then-s-lt2-via-then-s-lt2, then-s-lt2-via-else-s-lt2+then-s-ne-DLE, then-s-lt2-via-else-s-lt2+else-s-ne-DLE+then-s-ne-STX}

pub returns-then-s-lt2 : goal.returns-then-s-lt2
returns-then-s-lt2 c =
    elim c.then-s-lt2.branch [
      | then-s-lt2-via-then-s-lt2 w ↦ checks_one c.args.address c.args.s.now w.if-s-lt2.true
      | then-s-lt2-via-else-s-lt2+then-s-ne-DLE w ↦ checks_first c.args.address c.args.s.now w.if-s-ne-DLE.true
      | then-s-lt2-via-else-s-lt2+else-s-ne-DLE+then-s-ne-STX w ↦ checks_second c.args.address c.args.s.now w.if-s-ne-STX.true
    ]

pub returns-in_default : goal.returns-in_default
returns-in_default c =
    checks_broken c.args.address c.args.s.now (both_open c.args.s.now c.if-s-ne-DLE.false c.if-s-ne-STX.false)
    c.in_default.ensures

pub returns : goal.returns
returns c =
    checks_whole c.args.address c.args.s.now c.in-Some.t (both_open c.args.s.now c.if-s-ne-DLE.false c.if-s-ne-STX.false)
    (λ i. omega (arith, c.type_inv.s i)) c.in-Some.ensures c.judge.ensures
