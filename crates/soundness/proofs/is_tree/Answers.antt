-- `soundness::is_tree` meets its contract. Assumes nothing.
use native.Mathlib.Omega.{arith}
use mathlib.Core.Path.{◌≡◌, refl, sym, ap, ◌∙◌}
use mathlib.Core.Bool.{true≢false, ◌&&◌}
use lib.ListN.{length}
use lib.Dec.{eqb}
use Rattle.std.specs.Option.{option_eq}
use Rattle.std.proofs.Common.{Some}
use Rattle.soundness.specs.Check.{texts_fit, ends_at}
use Rattle.soundness.proofs.StepLaws.{ends_told, uncounted, checked_by}
use Rattle.soundness.proofs.CheckLaws.{checked_exact}
use Rattle.soundness.proofs.is_tree.Goals as goal
use Rattle.soundness.proofs.is_tree.Goals.{then-counts_fit, else-counts_fit}

pub returns-then-parents_sound : goal.returns-then-parents_sound
returns-then-parents_sound c =
    let bs = c.args.tree.now in
    let texts : c.eq.result ≡ ends_at (texts_fit bs) (length bs) =
    c.eq.ensures ∙ ap (λ o. option_eq eqb o (Some (length bs))) c.texts_fit.ensures ∙ ends_told (texts_fit bs) (length bs) in
    elim c.if-counts_fit.branch [
      | then-counts_fit w ↦
          ap (λ t. t && c.eq.result) (sym c.if-parents_sound.true ∙ w.value-is)
          ∙ sym (checked_by bs (sym c.counts_fit.ensures ∙ w.if-counts_fit.true) w.parents_sound.ensures texts)
          ∙ checked_exact bs (λ i. omega (arith, c.type_inv.tree i))
      | else-counts_fit w ↦ absurd (true≢false (sym c.if-parents_sound.true ∙ w.value-is ∙ w.if-counts_fit.false))
    ]

pub returns-else-parents_sound : goal.returns-else-parents_sound
returns-else-parents_sound c =
    let bs = c.args.tree.now in
    elim c.if-counts_fit.branch [
      | then-counts_fit w ↦
          c.if-parents_sound.false
          ∙ ap (λ t. t && ends_at (texts_fit bs) (length bs)) (sym c.if-parents_sound.false ∙ w.value-is)
          ∙ sym (checked_by bs (sym c.counts_fit.ensures ∙ w.if-counts_fit.true) w.parents_sound.ensures refl)
          ∙ checked_exact bs (λ i. omega (arith, c.type_inv.tree i))
      | else-counts_fit w ↦
          c.if-parents_sound.false
          ∙ sym (uncounted bs (sym c.counts_fit.ensures ∙ w.if-counts_fit.false))
          ∙ checked_exact bs (λ i. omega (arith, c.type_inv.tree i))
    ]
