-- `soundness::texts_fit` meets its contract. Assumes nothing.
use native.Mathlib.Omega.{arith}
use Prim.Native.Nat.{◌+◌, ◌*◌}
use mathlib.Core.Path.{◌≡◌, ap, ap₂, ◌∙◌}
use lib.ListN.{drop}
use Rattle.protocol.specs.Refusal.{option_of}
use Rattle.tree.specs.Form.{node_size, property_size, properties_start, texts_start}
use Rattle.tree.specs.Seen.{node_count, property_count}
use Rattle.soundness.specs.Check.{node_end, property_end, records_end}
use Rattle.soundness.proofs.StepLaws.{nameless, labels_follow}
use Rattle.soundness.proofs.texts_fit.Goals as goal
use Rattle.soundness.proofs.texts_fit.Goals.{After-from}

start_is : (c : After-from) → let bs = c.args.tree.now in
    c.properties_start.result + c.from.result * property_size ≡ texts_start (node_count bs) (property_count bs)
start_is c = ap₂ (λ m n. m + n * property_size) c.properties_start.ensures (c.from.ensures ∙ c.byte_at-properties.ensures)

pub returns-in_err-mid : goal.returns-in_err-mid
returns-in_err-mid c =
    let bs = c.args.tree.now in
    c.from_residual.ensures
    ∙ nameless bs (start_is (goal.at.returns-in_err-mid c).After-from)
    (c.in_err-mid.ensures node_size 2 (node_end bs) (λ t k at o same below told. rw same at told)
    ∙ ap (λ n. option_of (records_end node_size (node_end bs) n (drop 2 bs) (c.properties_start.result + c.from.result * property_size))) c.byte_at.ensures)

pub returns : goal.returns
returns c =
    let bs = c.args.tree.now in
    labels_follow bs (start_is (goal.at.returns c).After-from)
    (c.in_ok-mid.ensures node_size 2 (node_end bs) (λ t k at o same below told. rw same at told)
    ∙ ap (λ n. option_of (records_end node_size (node_end bs) n (drop 2 bs) (c.properties_start.result + c.from.result * property_size))) c.byte_at.ensures)
    (c.records_end-2.ensures property_size (properties_start (node_count bs)) (property_end bs) (λ t k at o same below told. (rw same at told) (omega (arith, below, c.byte_at-properties.ensures)))
    ∙ ap (λ n. option_of (records_end property_size (property_end bs) n (drop (properties_start (node_count bs)) bs) c.in_ok-mid.mid)) c.byte_at-properties.ensures)
