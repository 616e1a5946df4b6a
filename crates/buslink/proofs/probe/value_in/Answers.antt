-- `buslink::probe::value_in` meets its contract. Assumes nothing.
use mathlib.Core.Path.{◌∙◌}
use Rattle.std.proofs.Common.{rules, w32}
use Rattle.std.proofs.lemmas.Int.{to_z-of_z}
use Rattle.protocol.specs.Signed.{number_of}
use Rattle.buslink.proofs.ValueLaws.{value_large, raw_under, raw_over, raw_value, tenfold_under, tenfold_over, tenfold_value}
use Rattle.buslink.proofs.probe.value_in.Goals as goal

pub returns-in_err-number : goal.returns-in_err-number
returns-in_err-number c =
    rw c.from_residual.ensures (value_large c.args.code (number_of c.args.signed c.args.w) c.in_err-number.ensures)

pub returns-in-minus8388608-to-8388607 : goal.returns-in-minus8388608-to-8388607
returns-in-minus8388608-to-8388607 c =
    raw_value c.args.code (number_of c.args.signed c.args.w)
    (to_z-of_z w32 c.in_ok-number.number (search rules) ∙ c.in_ok-number.ensures) c.if-code-eq-RAW.true (cc) (cc)

pub returns-in_default : goal.returns-in_default
returns-in_default c =
    raw_under c.args.code (number_of c.args.signed c.args.w)
    (to_z-of_z w32 c.in_ok-number.number (search rules) ∙ c.in_ok-number.ensures) c.if-code-eq-RAW.true (cc)

pub returns-in_default-2 : goal.returns-in_default-2
returns-in_default-2 c =
    raw_over c.args.code (number_of c.args.signed c.args.w)
    (to_z-of_z w32 c.in_ok-number.number (search rules) ∙ c.in_ok-number.ensures) c.if-code-eq-RAW.true (cc)

pub returns-in-minus838860-to-838860 : goal.returns-in-minus838860-to-838860
returns-in-minus838860-to-838860 c =
    tenfold_value c.args.code (number_of c.args.signed c.args.w)
    (to_z-of_z w32 c.in_ok-number.number (search rules) ∙ c.in_ok-number.ensures) c.if-code-eq-RAW.false (cc) (cc)

pub returns-in_default-number : goal.returns-in_default-number
returns-in_default-number c =
    tenfold_under c.args.code (number_of c.args.signed c.args.w)
    (to_z-of_z w32 c.in_ok-number.number (search rules) ∙ c.in_ok-number.ensures) c.if-code-eq-RAW.false (cc)

pub returns-in_default-number-2 : goal.returns-in_default-number-2
returns-in_default-number-2 c =
    tenfold_over c.args.code (number_of c.args.signed c.args.w)
    (to_z-of_z w32 c.in_ok-number.number (search rules) ∙ c.in_ok-number.ensures) c.if-code-eq-RAW.false (cc)
