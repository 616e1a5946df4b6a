-- `cells::update::post` meets its contract. Assumes nothing.
use mathlib.Core.Path.{◌≡◌, sym, ◌∙◌}
use mathlib.Core.Bool.{true}
use Rattle.std.proofs.lemmas.Result.{err_from_is_err_and}
use Rattle.protocol.specs.Tree.{is_live, property_in}
use Rattle.tree.specs.Seen.{seen}
use Rattle.tree.proofs.NextLaws.{live_same}
use Rattle.cells.specs.Lent.{is_lent}
use Rattle.cells.proofs.CellLaws.{posts_refused, posts_other, posts_live, lent_passed, worded, word_first, no_word}
use Rattle.cells.proofs.update.post.Goals as goal
use Rattle.cells.proofs.update.post.Goals.{After-is_live, then-ready, else-ready}

-- The check passed, and whether the property is live.
lent : (c : After-is_live) → is_lent c.args.tree.now c.args.cells.now ≡ true
lent c = lent_passed c.args.tree.now c.args.cells.now c.check.ensures c.in_ok-check.was

live : (c : After-is_live) → is_live (property_in (seen c.args.tree.now) c.args.place) ≡ c.is_live.result
live c = sym (c.is_live.ensures ∙ live_same c.read_fields.ensures)

pub returns-in_err-check : goal.returns-in_err-check
returns-in_err-check c =
    let p = err_from_is_err_and c.from_residual.result c.from_residual.ensures.1 in
    rw (p.1, p.2)
    (posts_refused c.args.tree.now c.args.cells.now c.args.place c.args.n c.args.ready c.in_err-check.field-0.0 c.in_err-check.ensures)

pub returns-then-not-is_live : goal.returns-then-not-is_live
returns-then-not-is_live c =
    let asked = (goal.at.returns-then-not-is_live c).After-is_live in
    posts_other c.args.tree.now c.args.cells.now c.args.place c.args.n c.args.ready (lent asked) (live asked ∙ c.if-not-is_live.true)

pub returns : goal.returns
returns c =
    let asked = (goal.at.returns c).After-is_live in
    let joined : c.if-ready.cells ≡ worded c.args.cells.now c.args.place c.args.n c.args.ready =
    elim c.if-ready.branch [
      | then-ready w ↦ word_first c.args.cells.now c.args.place c.args.n c.args.ready w.if-ready.true (w.cells-is ∙ w.store_word.ensures)
      | else-ready w ↦ no_word c.args.cells.now c.args.place c.args.n c.args.ready w.if-ready.false w.cells-is
    ] in
    posts_live c.args.tree.now c.args.cells.now c.args.place c.args.n c.args.ready (lent asked) (live asked ∙ c.if-not-is_live.false) joined
    c.store_mark.ensures
