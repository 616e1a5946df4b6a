-- `buslink::probe::number_in` meets its contract. Assumes nothing.
use native.Mathlib.Omega.{arith}
use mathlib.Core.Path.{◌∙◌}
use Rattle.std.proofs.Common.{w32}
use Rattle.std.proofs.lemmas.Int.{to_z-of_z}
use Rattle.buslink.proofs.ValueLaws.{number_none, number_some}
use Rattle.buslink.proofs.probe.number_in.Goals as goal
use Rattle.buslink.proofs.probe.number_in.Goals.{else-not-signed-via-then-not-signed+else-w-ge2147483648, else-not-signed-via-else-not-signed}

pub returns-then-w-ge2147483648 : goal.returns-then-w-ge2147483648
returns-then-w-ge2147483648 c = number_none c.args.signed c.args.w c.if-not-signed.true c.if-w-ge2147483648.true

pub returns : goal.returns
returns c =
    let is = to_z-of_z w32 c.signed.result (record { sfits = c.signed.type_inv }) ∙ c.signed.ensures in
    elim c.else-not-signed.branch [
      | else-not-signed-via-then-not-signed+else-w-ge2147483648 w ↦ number_some c.args.signed c.args.w (λ e. omega arith) is
      | else-not-signed-via-else-not-signed w ↦ number_some c.args.signed c.args.w (λ e. absurd (cc)) is
    ]
