-- A value on its step, by what the code tests, and that it turns on a property's numbers alone.
-- Assumes nothing.
use Prim.Native.Nat.{ℕ, ◌%◌}
use mathlib.Core.Path.{◌≡◌, sym, ap, ap₂, ◌∙◌}
use mathlib.Core.Bool.{Bool, true}
use lib.Dec.{eqb}
use Rattle.protocol.specs.Numbers.{standard}
use Rattle.protocol.specs.Tree.{Property, is_signed, step_code}
use Rattle.protocol.specs.Step.{step_of, distance, step_start, on_step}
use Rattle.protocol.proofs.StepLaws.{step-standard, step_other, step-one}
use Rattle.tree.specs.declared.record.Fields.{Fields}
use Rattle.tree.specs.Lookup.{FieldsAre, numbers_of}

module _ (p : Property) (v : ℕ) where
  pub on_first : {code : ℕ} → code ≡ step_code p → code ≡ 0 → true ≡ on_step p v
  on_first c e = sym (step-one p v (λ _. sym c ∙ e))

  pub on_other : (p.kind ≡ standard → ⊥) → true ≡ on_step p v
  on_other k = sym (step_other p v k)

  pub on_by : {code step d : ℕ} {signed : Bool} → p.kind ≡ standard → code ≡ step_code p → step ≡ step_of code → signed ≡ is_signed p
      → d ≡ distance signed p.min v → eqb (d % step) 0 ≡ on_step p v
  on_by k c s b d =
      ap₂ (λ m n. eqb (m % n) 0) (d ∙ ap (λ b. distance b p.min v) b) (s ∙ ap step_of c)
      ∙ sym (step-standard p v k)

pub on_same : (v : ℕ) {p : Property} {f : Fields} → FieldsAre p f → on_step (numbers_of f) v ≡ on_step p v
unfolding on_step step_start
on_same v h = rw (h.kind, h.min, h.max, h.format)
