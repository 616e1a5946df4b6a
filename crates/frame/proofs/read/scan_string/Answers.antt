-- `frame::read::scan_string` meets its contract. Assumes nothing.
use Rattle.std.proofs.Common.{◌+◌, ◌^◌, ◌<◌, sym, ◌∙◌, arith}
use Rattle.frame.proofs.ReadLaws.{Scanning, tallies_none, begins, lone_on, doubled-on, whole, broken, unended}
use Rattle.frame.proofs.read.scan_string.Goals as goal
use Rattle.frame.proofs.read.scan_string.Goals.{After-add_byte-t-in-Doubled, In-loop-i}

-- A turn's tally is small enough for one byte more.
few : (c : In-loop-i) → c.loop-i.t.count < 2 ^ 63
few c =
    let w = c.loop-i.invariant in
    omega (arith, w.tally.count, w.short, w.within, c.well_formed.0.1)

-- A doubled 10h is passed.
doubled : (c : After-add_byte-t-in-Doubled) → Scanning c.args.s.now c.add_byte-t-in-Doubled.result (c.loop-i.i + 2)
doubled c =
    doubled-on c.args.s.now c.loop-i.i c.loop-i.invariant
    (sym c.in-Doubled.is ∙ c.piece_at.ensures) c.add_byte-t-in-Doubled.ensures

pub loop-i-init : goal.loop-i-init
loop-i-init c = begins c.args.s.now c.requires (tallies_none c.default-t.result c.default-t.ensures)

pub add_byte-t-requires : goal.add_byte-t-requires
add_byte-t-requires c = few (goal.at.add_byte-t-requires c).In-loop-i

pub loop-i-preserved-in-Lone : goal.loop-i-preserved-in-Lone
loop-i-preserved-in-Lone c =
    lone_on c.args.s.now c.loop-i.i c.loop-i.invariant
    (sym c.in-Lone.is ∙ c.piece_at.ensures) c.add_byte-t.ensures

pub add_byte-t-requires-in-Doubled : goal.add_byte-t-requires-in-Doubled
add_byte-t-requires-in-Doubled c = few (goal.at.add_byte-t-requires-in-Doubled c).In-loop-i

pub overflow_add-i-in-Doubled : goal.overflow_add-i-in-Doubled
overflow_add-i-in-Doubled c = omega (arith, (doubled (goal.at.overflow_add-i-in-Doubled c).After-add_byte-t-in-Doubled).within)

pub loop-i-smaller : goal.loop-i-smaller
loop-i-smaller c = omega (arith, c.loop-i-test.true)

pub loop-i-preserved : goal.loop-i-preserved
loop-i-preserved c = doubled (goal.at.loop-i-preserved c).After-add_byte-t-in-Doubled

pub returns-in-End : goal.returns-in-End
returns-in-End c =
    whole c.args.s.now c.loop-i.i c.loop-i.invariant
    (sym c.in-End.is ∙ c.piece_at.ensures)

pub returns-in-Bad : goal.returns-in-Bad
returns-in-Bad c =
    broken c.args.s.now c.loop-i.i c.loop-i.invariant
    (sym c.in-Bad.is ∙ c.piece_at.ensures)

pub returns : goal.returns
returns c = unended c.args.s.now c.loop-i.i c.loop-i.invariant c.loop-i-test.false
