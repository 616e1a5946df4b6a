-- What a write does, by its tests in their order.
-- Assumes nothing.
use Prim.Native.Nat.{ℕ}
use mathlib.Core.Path.{◌≡◌}
use mathlib.Core.Bool.{Bool, cond}
use Rattle.protocol.specs.Tree.{Property, can_read, can_write}
use Rattle.protocol.specs.Step.{on_step, step_start}
use Rattle.protocol.specs.Answer.{in_range, saved, taken, read_only, out_of_range, off_step, outcome}
use Rattle.tree.specs.declared.record.Fields.{Fields}
use Rattle.tree.specs.Lookup.{FieldsAre, numbers_of}

module _ (p : Property) (v : ℕ) where
  -- The tests of a write.
  pub outcome_by_lem : {writes reads within on : Bool} → writes ≡ can_write p → reads ≡ can_read p → within ≡ in_range p v → on ≡ on_step p v
      → cond writes (cond reads (cond within (cond on saved off_step) out_of_range) taken) read_only ≡ outcome p v
  unfolding outcome
  outcome_by_lem w r i s = simp (w, r, i, s)

-- What a write does turns on the property's numbers alone.
pub outcome-same : (v : ℕ) {p : Property} {f : Fields} → FieldsAre p f → outcome (numbers_of f) v ≡ outcome p v
unfolding outcome in_range on_step step_start
outcome-same v h = rw (h.kind, h.min, h.max, h.attribute, h.format)
