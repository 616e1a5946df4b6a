-- `soundness::property_end` meets its contract. Assumes nothing.
use Prim.Native.Nat.{◌+◌, ◌*◌}
use native.Mathlib.Omega.{arith}
use mathlib.Core.Path.{◌≡◌, refl, sym, ap, ◌∙◌}
use Rattle.protocol.specs.Numbers.{max_texts}
use Rattle.tree.specs.Form.{property_size, properties_start}
use Rattle.tree.specs.Seen.{half_at, node_count}
use Rattle.protocol.specs.Refusal.{option_of}
use Rattle.tree.proofs.SameLaws.{differ}
use Rattle.soundness.specs.Check.{texts_end_in}
use Rattle.soundness.proofs.StepLaws.{property_unfit, property_elsewhere, property_unnamed, property_ends}
use Rattle.soundness.proofs.property_end.Goals as goal
use Rattle.soundness.proofs.property_end.Goals.{After-from-2}

-- Where the record says that its texts begin.
half_is : (c : After-from-2) → c.from-2.result ≡ half_at (properties_start (node_count c.args.tree.now) + c.from-k.result * property_size + 14) c.args.tree.now
half_is c = c.from-2.ensures ∙ c.half_at.ensures ∙ ap (λ n. half_at (n + c.from-k.result * property_size + 14) c.args.tree.now) c.properties_start.ensures

pub returns-then-not-fields_fit : goal.returns-then-not-fields_fit
returns-then-not-fields_fit c =
    λ h.
    rw (← c.from-k.ensures)
    (property_unfit c.args.tree.now c.from-k.result c.args.at
    (c.from.ensures ∙ c.byte_at.ensures) (omega (arith, h, c.from-k.ensures)) c.read_fields-f.ensures
    (sym c.fields_fit.ensures ∙ c.if-not-fields_fit.true))

pub returns-then-from-at : goal.returns-then-from-at
returns-then-from-at c =
    λ h.
    rw (← c.from-k.ensures)
    (property_elsewhere c.args.tree.now c.from-k.result c.args.at
    (c.from.ensures ∙ c.byte_at.ensures) (omega (arith, h, c.from-k.ensures)) c.read_fields-f.ensures
    (differ (half_is (goal.at.returns-then-from-at c).After-from-2) refl c.if-from-at.true))

pub returns-in_err-mid : goal.returns-in_err-mid
returns-in_err-mid c =
    λ h.
    rw (← c.from-k.ensures)
    (c.from_residual.ensures
    ∙ property_unnamed c.args.tree.now c.from-k.result c.args.at
    (c.from.ensures ∙ c.byte_at.ensures) (omega (arith, h, c.from-k.ensures)) c.read_fields-f.ensures
    (sym c.fields_fit.ensures ∙ c.if-not-fields_fit.false)
    (sym (half_is (goal.at.returns-in_err-mid c).After-from-2) ∙ c.if-from-at.false)
    (sym c.in_err-mid.was ∙ c.texts_end.ensures))

pub returns : goal.returns
returns c =
    λ h.
    let ended : c.texts_end-2.result
    ≡ option_of (texts_end_in c.args.tree.now max_texts c.option_count.result c.in_ok-mid.mid) =
    c.texts_end-2.ensures in
    rw (← c.from-k.ensures)
    (property_ends c.args.tree.now c.from-k.result c.args.at
    (c.from.ensures ∙ c.byte_at.ensures) (omega (arith, h, c.from-k.ensures)) c.read_fields-f.ensures
    (sym c.fields_fit.ensures ∙ c.if-not-fields_fit.false)
    (sym (half_is (goal.at.returns c).After-from-2) ∙ c.if-from-at.false)
    (sym c.in_ok-mid.was ∙ c.texts_end.ensures)
    (ended ∙ ap (λ n. option_of (texts_end_in c.args.tree.now max_texts n c.in_ok-mid.mid)) c.option_count.ensures))
