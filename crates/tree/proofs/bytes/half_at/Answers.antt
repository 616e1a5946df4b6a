-- `tree::bytes::half_at` meets its contract. Assumes nothing.
use mathlib.Core.Path.{◌∙◌, ap₂}
use mathlib.Core.List.{[], ◌∷◌}
use Rattle.protocol.specs.Bytes.{number}
use Rattle.tree.specs.Seen.{half_at}
use Rattle.tree.proofs.NumberLaws.{half_past}
use Rattle.tree.proofs.bytes.half_at.Goals as goal

pub returns-then-bs-at : goal.returns-then-bs-at
returns-then-bs-at c =
    let args = c.args in
    half_past args.at args.bs.now c.if-bs-at.true

pub returns : goal.returns
unfolding half_at
returns c = c.half_of.ensures ∙ ap₂ (λ a b. number (a ∷ b ∷ [])) c.byte_at.ensures c.byte_at-2.ensures
