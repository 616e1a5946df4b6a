-- 01, Requests and replies, and 02, section 6: when a write has each of its five outcomes.
-- Assumes nothing.
use Prim.Native.Nat.{ℕ}
use mathlib.Core.Path.{◌≡◌}
use mathlib.Core.Bool.{Bool, true, false, cond, not, ◌&&◌}
use mathlib.Core.Logic.{◌↔◌}
use Rattle.protocol.specs.Tree.{Property, can_read, can_write, is_action}
use Rattle.protocol.specs.Step.{on_step}
use Rattle.protocol.specs.Answer.{in_range, Outcome, saved, taken, read_only, out_of_range, off_step, outcome}

-- The outcome by its tests, and the tests of an outcome: write, read, in range, on its step.
abbrev outcome_by : Bool → Bool → Bool → Bool → Outcome
outcome_by w r i s = cond w (cond r (cond i (cond s saved off_step) out_of_range) taken) read_only

abbrev tests : Outcome → Bool → Bool → Bool → Bool → Bool
tests saved w r i s = w && (r && (i && s))
tests taken w r i s = w && not r
tests read_only w r i s = not w
tests out_of_range w r i s = w && (r && not i)
tests off_step w r i s = w && (r && (i && not s))

exactly : (o : Outcome) (w r i s : Bool) → (outcome_by w r i s ≡ o) ↔ (tests o w r i s ≡ true)
exactly saved true true true true = (λ e. cc, λ e. cc)
exactly saved true true true false = (λ e. cc, λ e. cc)
exactly saved true true false s = (λ e. cc, λ e. cc)
exactly saved true false i s = (λ e. cc, λ e. cc)
exactly saved false r i s = (λ e. cc, λ e. cc)
exactly taken true true true true = (λ e. cc, λ e. cc)
exactly taken true true true false = (λ e. cc, λ e. cc)
exactly taken true true false s = (λ e. cc, λ e. cc)
exactly taken true false i s = (λ e. cc, λ e. cc)
exactly taken false r i s = (λ e. cc, λ e. cc)
exactly read_only true true true true = (λ e. cc, λ e. cc)
exactly read_only true true true false = (λ e. cc, λ e. cc)
exactly read_only true true false s = (λ e. cc, λ e. cc)
exactly read_only true false i s = (λ e. cc, λ e. cc)
exactly read_only false r i s = (λ e. cc, λ e. cc)
exactly out_of_range true true true true = (λ e. cc, λ e. cc)
exactly out_of_range true true true false = (λ e. cc, λ e. cc)
exactly out_of_range true true false s = (λ e. cc, λ e. cc)
exactly out_of_range true false i s = (λ e. cc, λ e. cc)
exactly out_of_range false r i s = (λ e. cc, λ e. cc)
exactly off_step true true true true = (λ e. cc, λ e. cc)
exactly off_step true true true false = (λ e. cc, λ e. cc)
exactly off_step true true false s = (λ e. cc, λ e. cc)
exactly off_step true false i s = (λ e. cc, λ e. cc)
exactly off_step false r i s = (λ e. cc, λ e. cc)

module _ (p : Property) (v : ℕ) where
  by_tests : (o : Outcome) → (outcome p v ≡ o) ↔ (tests o (can_write p) (can_read p) (in_range p v) (on_step p v) ≡ true)
  unfolding outcome
  by_tests o = exactly o (can_write p) (can_read p) (in_range p v) (on_step p v)

  -- Saved: write and read, in range and on its step. Not in range: the same, out of range. Not on its step: in range, and off it.
  pub saved_exact : (outcome p v ≡ saved) ↔ ((can_write p && (can_read p && (in_range p v && on_step p v))) ≡ true)
  saved_exact = by_tests saved

  pub out_of_range_exact : (outcome p v ≡ out_of_range) ↔ ((can_write p && (can_read p && not (in_range p v))) ≡ true)
  out_of_range_exact = by_tests out_of_range

  pub off_step_exact : (outcome p v ≡ off_step) ↔ ((can_write p && (can_read p && (in_range p v && not (on_step p v)))) ≡ true)
  off_step_exact = by_tests off_step

  -- Taken: an action, whatever the value. Read only: no write.
  pub taken_exact : (outcome p v ≡ taken) ↔ (is_action p ≡ true)
  taken_exact = by_tests taken

  pub read_only_exact : (outcome p v ≡ read_only) ↔ (not (can_write p) ≡ true)
  read_only_exact = by_tests read_only
