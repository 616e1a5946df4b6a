-- `tree::step::distance_of` meets its contract. Assumes nothing.
use Prim.Native.Nat.{◌+◌, ◌-◌}
use native.Mathlib.Omega.{arith}
use mathlib.Core.Path.{sym, ap₂, ◌∙◌}
use Rattle.protocol.proofs.StepLaws.{distance-ordered}
use Rattle.tree.proofs.step.distance_of.Goals as goal

pub returns : goal.returns
returns c =
    let args = c.args in
    omega (
      arith,
      distance-ordered args.signed args.m args.n (omega arith) (omega arith)
          ∙ sym (ap₂ (λ m n. (n - m) + (m - n)) c.ordered_word.ensures c.ordered_word-2.ensures),
    )
