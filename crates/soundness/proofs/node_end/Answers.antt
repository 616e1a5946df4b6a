-- `soundness::node_end` meets its contract. Assumes nothing.
use Prim.Native.Nat.{◌+◌, ◌*◌}
use mathlib.Core.Path.{◌≡◌, refl, sym, ap, ◌∙◌}
use Rattle.tree.specs.Form.{node_size}
use Rattle.tree.specs.Seen.{half_at}
use Rattle.tree.proofs.SameLaws.{differ}
use Rattle.soundness.proofs.StepLaws.{node_elsewhere, node_ends}
use Rattle.soundness.proofs.node_end.Goals as goal
use Rattle.soundness.proofs.node_end.Goals.{After-from-2}

-- Where the record says that its name lies.
half_is : (c : After-from-2) → c.from-2.result ≡ half_at (3 + c.args.k * node_size) c.args.tree.now
half_is c = c.from-2.ensures ∙ c.half_at.ensures ∙ ap (λ k. half_at (3 + k * node_size) c.args.tree.now) c.from.ensures

pub returns-then-from-at : goal.returns-then-from-at
returns-then-from-at c =
    node_elsewhere c.args.tree.now c.args.k c.args.at
    (differ {n = c.args.at} (half_is (goal.at.returns-then-from-at c).After-from-2) refl c.if-from-at.true)

pub returns : goal.returns
returns c =
    node_ends c.args.tree.now c.args.k c.args.at
    (sym (half_is (goal.at.returns c).After-from-2) ∙ c.if-from-at.false) c.texts_end.ensures
