-- `cells::update::restore` meets its contract. Assumes nothing.
use Prim.Native.Nat.{◌<◌, ◌≤◌}
use mathlib.Core.Path.{◌≡◌, sym, subst, ◌∙◌}
use Rattle.std.proofs.lemmas.Result.{err_from_is_err_and}
use Rattle.protocol.specs.Tree.{is_live, property_in}
use Rattle.tree.specs.Seen.{seen}
use Rattle.tree.proofs.NextLaws.{live_same}
use Rattle.cells.proofs.CellLaws.{lent_passed}
use Rattle.cells.proofs.RestoreLaws.{restore_begins, restore_live, restore_other, restore_ends, restore_refused}
use Rattle.cells.proofs.update.restore.Goals as goal
use Rattle.cells.proofs.update.restore.Goals.{then-is_live, else-is_live}

pub returns-in_err-check : goal.returns-in_err-check
returns-in_err-check c =
    let p = err_from_is_err_and c.from_residual.result c.from_residual.ensures.1 in
    rw (p.1, p.2) (restore_refused c.args.tree.now c.args.cells.now c.in_err-check.field-0.0 c.in_err-check.ensures)

pub loop-k-init : goal.loop-k-init
loop-k-init c =
    restore_begins c.args.tree.now c.args.cells.now (lent_passed c.args.tree.now c.args.cells.now c.check.ensures c.in_ok-check.was)

pub loop-k-preserved : goal.loop-k-preserved
loop-k-preserved c =
    let live : is_live (property_in (seen c.args.tree.now) c.loop-k.k) ≡ c.is_live.result =
    sym (c.is_live.ensures ∙ live_same c.read_fields.ensures) in
    let tree = c.args.tree.now in
    let old = c.args.cells.now in
    let within = subst (λ n. c.loop-k.k < n) c.property_count-k-end.ensures c.loop-k-test.true in
    elim c.if-is_live.branch [
      | then-is_live w ↦ restore_live tree old c.loop-k.invariant within (live ∙ w.if-is_live.true) (w.cells-is ∙ w.store_mark.ensures)
      | else-is_live w ↦ restore_other tree old c.loop-k.invariant within (live ∙ w.if-is_live.false) w.cells-is
    ]

pub returns : goal.returns
returns c =
    restore_ends c.args.tree.now c.args.cells.now (lent_passed c.args.tree.now c.args.cells.now c.check.ensures c.in_ok-check.was) c.loop-k.invariant
    (subst (λ n. n ≤ c.loop-k.k) c.property_count-k-end.ensures c.loop-k-test.false)
