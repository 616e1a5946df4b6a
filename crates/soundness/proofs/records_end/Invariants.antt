use Prim.Native.Nat.{ℕ}
use mathlib.Core.List.{List}
use mathlib.Core.Option.{Option}
use Rattle.soundness.specs.Check.{Tells}
use Rattle.soundness.proofs.StepLaws.{Going}
use Rattle.soundness.proofs.records_end.Given as goal

abbrev pub invariant-loop-k : goal.invariant-loop-k
invariant-loop-k g l =
    (size from : ℕ) (f : List ℕ → ℕ → Option ℕ) → Tells (λ t k at o. goal.F-post g l.record_end t k at o) l.tree l.count size from f
    → Going size f l.tree from l.start l.count l.at l.k
