-- `text::fill::fill` meets its contract. Assumes nothing.
use native.Mathlib.Omega.{arith}
use mathlib.Core.Path.{refl, ap}
use mathlib.Core.List.{List, ◌++◌}
use lib.ListN.{length}
use Rattle.std.proofs.Common.{ℕ, ◌<◌}
use Rattle.protocol.specs.Buffer.{farthest}
use Rattle.protocol.proofs.FillLaws.{fills_whole, fills_short, fits_counted, fills_counted}
use Rattle.text.specs.Unwritten.{whole}
use Rattle.text.proofs.fill.fill.Goals as goal
use Rattle.text.proofs.fill.fill.Goals.{then-out-most+else-out-size, else-out-most}

pub returns-then-out-size : goal.returns-then-out-size
returns-then-out-size g c asked =
    fills_short (whole (g.V.Value.shown c.args.value)) c.args.out.now refl (omega (arith, c.well_formed)) (omega (arith, asked.0, asked.1))
    c.put_front-size.ensures c.if-out-size.true

pub returns : goal.returns
returns g c asked =
    let text : List ℕ = g.V.Value.shown c.args.value in
    let short : length c.args.out.now < farthest = omega (arith, c.well_formed) in
    elim c.if-out-most.branch [
      | then-out-most+else-out-size w ↦
          fills_counted (whole text) c.args.out.now refl short (omega (arith, asked.0, asked.1)) w.put_front-size.ensures
          (fills_whole (whole text) (w.put_front-size.new.out ++ c.args.out.now) refl (omega (arith, ap length w.out-is, c.if-out-most.auto.out, short)) (fits_counted (whole text) c.args.out.now refl short (omega (arith, asked.0, asked.1)) w.put_front-size.ensures w.if-out-size.false) (rw w.out-is at c.put_front.ensures))
      | else-out-most w ↦
          fills_whole (whole text) c.args.out.now refl short (omega (arith, w.if-out-most.false, asked.0)) (rw w.out-is at c.put_front.ensures)
    ]
