-- The range rule, by its tests in their order, and that it turns on a property's numbers alone.
-- Assumes nothing.
use Prim.Native.Nat.{ℕ}
use mathlib.Core.Path.{◌≡◌, sym}
use mathlib.Core.Bool.{Bool, true, cond, ◌&&◌}
use borrow.Author.Tests.{eq-eqb, ne_eqb}
use lib.Dec.{eqb, leb}
use Rattle.protocol.specs.Numbers.{standard}
use Rattle.protocol.specs.Bytes.{at_most}
use Rattle.protocol.specs.Tree.{Property, is_signed}
use Rattle.protocol.specs.Answer.{in_range, takes_sign}
use Rattle.tree.specs.declared.record.Fields.{Fields}
use Rattle.tree.specs.Lookup.{FieldsAre, numbers_of}

module _ (p : Property) (v : ℕ) where
  -- The range of type 2, and that of type 1.
  pub range_other : (p.kind ≡ standard → ⊥) → leb v p.max ≡ in_range p v
  unfolding in_range
  range_other h = sym (rw (ne_eqb p.kind standard h))

  pub range_by : {any signed low high : Bool} → p.kind ≡ standard → any ≡ (eqb p.min 0 && eqb p.max 0) → signed ≡ is_signed p
      → low ≡ at_most signed p.min v → high ≡ at_most signed v p.max → cond any true (low && high) ≡ in_range p v
  unfolding in_range
  range_by h a s l r = simp (a, l, r, s, eq-eqb p.kind standard h)

pub range_same : (v : ℕ) {p : Property} {f : Fields} → FieldsAre p f → in_range (numbers_of f) v ≡ in_range p v
unfolding in_range
range_same v h = rw (h.kind, h.min, h.max, h.format)

pub sign_same : {p : Property} {f : Fields} → FieldsAre p f → takes_sign (numbers_of f) ≡ takes_sign p
unfolding takes_sign
sign_same h = rw (h.kind, h.format)
