-- `listing::print::print` meets its contract. Assumes nothing.
use native.Mathlib.Omega.{arith}
use mathlib.Core.Path.{refl}
use Rattle.text.proofs.UnwrittenLaws.{unwritten_some}
use Rattle.listing.proofs.PrintLaws.{prints_none, prints_listing, prints_refusal}
use Rattle.listing.proofs.print.print.Goals as goal

pub returns-then-out-lt-LISTING_ROOM : goal.returns-then-out-lt-LISTING_ROOM
returns-then-out-lt-LISTING_ROOM c = prints_none c.args.input.now c.args.out.now c.if-out-lt-LISTING_ROOM.true

pub returns-in-Ok : goal.returns-in-Ok
returns-in-Ok c = prints_listing c.args.input.now c.args.out.now c.if-out-lt-LISTING_ROOM.false c.in-Ok.ensures refl

pub returns-in-Err : goal.returns-in-Err
returns-in-Err c =
    prints_refusal c.args.input.now c.args.out.now c.if-out-lt-LISTING_ROOM.false c.in-Err.ensures (unwritten_some c.in-Err.unwritten)
    (omega (arith, c.well_formed)) (rw c.from.ensures at c.put_answer.ensures)
