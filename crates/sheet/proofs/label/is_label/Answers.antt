-- `sheet::label::is_label` meets its contract. Assumes nothing.
use native.Mathlib.Omega.{arith}
use mathlib.Core.Path.{◌≡◌, sym, ap, ◌∙◌}
use lib.ListN.{drop}
use Rattle.protocol.specs.Text.{begins}
use Rattle.tree.specs.Lookup.{label_start}
use Rattle.tree.specs.Seen.{seen}
use Rattle.tree.proofs.FieldLaws.{label_front}
use Rattle.sheet.specs.Steps.{label_at}
use Rattle.sheet.proofs.LabelLaws.{other_front, same_front}
use Rattle.sheet.proofs.ReadLaws.{rest_lent}
use Rattle.sheet.proofs.label.is_label.Goals as goal
use Rattle.sheet.proofs.label.is_label.Goals.{After-begins}

looked : (c : After-begins) → let args = c.args in c.begins.result ≡ begins args.s.now (drop (label_start args.tree.now args.k) args.tree.now)
looked c =
    let args = c.args in
    c.begins.ensures ∙ ap (begins args.s.now) (rest_lent args.tree.now (sym c.label_start-start.ensures.0))

pub returns-then-not-begins : goal.returns-then-not-begins
returns-then-not-begins c =
    let args = c.args in
    other_front args.s.now (label_at (seen args.tree.now) args.k) (drop (label_start args.tree.now args.k) args.tree.now)
    (label_front args.tree.now args.k) (looked (goal.at.returns-then-not-begins c).After-begins) c.if-not-begins.true

pub returns : goal.returns
returns c =
    let args = c.args in
    same_front args.s.now (label_at (seen args.tree.now) args.k) (drop (label_start args.tree.now args.k) args.tree.now)
    (label_front args.tree.now args.k) (looked (goal.at.returns c).After-begins) c.if-not-begins.false
    (omega (arith, c.label-label.ensures.starts, c.label-label.ensures.ends))
