-- Reply codes of refusals, operations by their numbers, values that may be missing, and the cells behind a write that saves nothing.
-- Assumes nothing.
use Prim.Native.Nat.{ℕ, ◌<◌}
use native.Mathlib.Omega.{arith}
use mathlib.Core.Path.{◌≡◌, refl, sym, ap, ◌∙◌}
use mathlib.Core.List.{List}
use mathlib.Core.Option as math
use Rattle.std.specs.Prelude.{Option, Result, Ok, Err, ok_or}
use Rattle.protocol.specs.declared.Op.{Op}
use Rattle.protocol.specs.declared.Op.TheVariants as op
use Rattle.protocol.specs.declared.Refusal.{Refusal}
use Rattle.protocol.specs.declared.Refusal.TheVariants.{Unsound, NoPreamble, BadPair, TooShort, TooLong, BadChecksum, OtherAddress, NoRoom, Disabled, UnknownCommand, BadParameter, NoReading, NotSaved, NotLive, NoSuchNode, NoSuchProperty, BadSheet, NotInRange, BadIdentifier, BadLength}
use Rattle.protocol.specs.Numbers.{ERROR, op_detect, op_node, op_read}
use Rattle.protocol.specs.Refusal.{refusal_number, op_number, option_of}
use Rattle.protocol.specs.Tree.{Cell}
use Rattle.protocol.specs.Answer.{refusal_code, cells_after}
use Rattle.reply.specs.declared.write.Outcome.{Outcome}
use Rattle.reply.specs.declared.write.Outcome.TheVariants.{Saved, Taken, ReadOnly, OutOfRange, OffStep}
use Rattle.reply.specs.Outcome.{meaning}

-- Any other refusal has the code of a bad parameter.
pub code-else : (e : Refusal) → (e ≡ Disabled → ⊥) → (e ≡ UnknownCommand → ⊥) → (e ≡ NoReading → ⊥) → ERROR ≡ refusal_code (refusal_number e)
unfolding refusal_code
code-else Unsound h j k = refl
code-else NoPreamble h j k = refl
code-else BadPair h j k = refl
code-else TooShort h j k = refl
code-else TooLong h j k = refl
code-else BadChecksum h j k = refl
code-else OtherAddress h j k = refl
code-else NoRoom h j k = refl
code-else Disabled h j k = absurd (h refl)
code-else UnknownCommand h j k = absurd (j refl)
code-else BadParameter h j k = refl
code-else NoReading h j k = absurd (k refl)
code-else NotSaved h j k = refl
code-else NotLive h j k = refl
code-else NoSuchNode h j k = refl
code-else NoSuchProperty h j k = refl
code-else BadSheet h j k = refl
code-else NotInRange h j k = refl
code-else BadIdentifier h j k = refl
code-else BadLength h j k = refl

-- An operation above 1 that is neither 2 nor 3.
pub above_read : (o : Op) → op_node < op_number o → (o ≡ op.Record → ⊥) → (o ≡ op.Read → ⊥) → op_read < op_number o
above_read op.Detect h r d = absurd (omega (arith, h))
above_read op.Node h r d = absurd (omega (arith, h))
above_read op.Record h r d = absurd (r refl)
above_read op.Read h r d = absurd (d refl)
above_read op.Write h r d = omega arith
above_read op.WriteExtended h r d = omega arith

pub above_node : (o : Op) → (o ≡ op.Detect → ⊥) → (o ≡ op.Node → ⊥) → op_node < op_number o
above_node op.Detect d n = absurd (d refl)
above_node op.Node d n = absurd (n refl)
above_node op.Record d n = omega arith
above_node op.Read d n = omega arith
above_node op.Write d n = omega arith
above_node op.WriteExtended d n = omega arith

pub not_node : (o : Op) → (o ≡ op.Node → ⊥) → op_number o ≡ op_node → ⊥
not_node op.Detect h e = omega (arith, e)
not_node op.Node h e = h refl
not_node op.Record h e = omega (arith, e)
not_node op.Read h e = omega (arith, e)
not_node op.Write h e = omega (arith, e)
not_node op.WriteExtended h e = omega (arith, e)

pub above_detect : (o : Op) → (o ≡ op.Detect → ⊥) → op_detect < op_number o
above_detect op.Detect h = absurd (h refl)
above_detect op.Node h = omega arith
above_detect op.Record h = omega arith
above_detect op.Read h = omega arith
above_detect op.Write h = omega arith
above_detect op.WriteExtended h = omega arith

pub not_detect : (o : Op) → (o ≡ op.Detect → ⊥) → op_number o ≡ op_detect → ⊥
not_detect o h e = omega (arith, e, above_detect o h)

-- A value that may be missing, or an error in its place.
module _ {A E : Type 0} (e : E) where
  missing_by : (o : math.Option A) {f : E} → ok_or (option_of o) e ≡ Err f → (o ≡ math.none) × (f ≡ e)
  missing_by math.none h = (refl, cc)
  missing_by (math.some a) h = (cc, cc)

  found_by : (o : math.Option A) {a : A} → ok_or (option_of o) e ≡ Ok a → o ≡ math.some a
  found_by math.none h = cc
  found_by (math.some b) h = cc

  pub missing : (o : math.Option A) {x : Option A} {r : Result A E} {f : E} → x ≡ option_of o → r ≡ ok_or x e → r ≡ Err f → (o ≡ math.none) × (f ≡ e)
  missing o is or d = missing_by o (sym (or ∙ ap (λ y. ok_or y e) is) ∙ d)

  pub found : (o : math.Option A) {x : Option A} {r : Result A E} {a : A} → x ≡ option_of o → r ≡ ok_or x e → r ≡ Ok a → o ≡ math.some a
  found o is or d = found_by o (sym (or ∙ ap (λ y. ok_or y e) is) ∙ d)

-- A write that saves nothing leaves the cells.
pub unsaved : (did : Outcome) (cs : List Cell) (place v : ℕ) → (did ≡ Saved → ⊥) → cells_after (meaning did) cs place v ≡ cs
unfolding cells_after
unsaved Saved cs place v h = absurd (h refl)
unsaved Taken cs place v h = refl
unsaved ReadOnly cs place v h = refl
unsaved OutOfRange cs place v h = refl
unsaved OffStep cs place v h = refl
