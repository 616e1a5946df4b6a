-- `lookup::node` meets its contract. Assumes nothing.
use Prim.Native.Nat.{◌+◌}
use native.Mathlib.Omega.{arith}
use mathlib.Core.Path.{◌≡◌, sym, ap, ◌∙◌}
use borrow.Author.Tests.{eqb-true, eqb-false}
use lib.ListN.{length, get_or}
use Rattle.std.specs.Option.{ok_or}
use Rattle.std.proofs.lemmas.Result.{err_from_is_err_and}
use Rattle.protocol.specs.Tree.{child_of}
use Rattle.tree.specs.Seen.{seen}
use Rattle.tree.proofs.FoundLaws.{found_at, found_none}
use Rattle.lookup.proofs.ReachLaws.{walk_empty, walk_other, walk_begins, walk_lost, walk_more, walk_ends}
use Rattle.lookup.proofs.node.Goals as goal

pub returns-then-is_empty : goal.returns-then-is_empty
returns-then-is_empty c =
    let none : length c.args.path.now ≡ 0 = eqb-true (length c.args.path.now) 0 (sym c.is_empty.ensures ∙ c.if-is_empty.true) in
    walk_empty (seen c.args.tree.now) c.args.path.now (omega arith)

pub returns-then-path-ne1 : goal.returns-then-path-ne1
returns-then-path-ne1 c =
    let some : (length c.args.path.now ≡ 0 → ⊥) = eqb-false (length c.args.path.now) 0 (sym c.is_empty.ensures ∙ c.if-is_empty.false) in
    walk_other (seen c.args.tree.now) c.args.path.now (omega arith) c.if-path-ne1.true

pub loop-i-init : goal.loop-i-init
loop-i-init c =
    let args = c.args in
    walk_begins (seen args.tree.now) args.path.now c.if-path-ne1.false

pub returns-in_err-place : goal.returns-in_err-place
returns-in_err-place c =
    let args = c.args in
    let child = child_of (seen args.tree.now) c.loop-i.place (record { 0 = get_or args.path.now c.loop-i.i 0 }) in
    let p = err_from_is_err_and c.from_residual.result c.from_residual.ensures.1 in
    rw (p.1, p.2)
    (c.in_err-place.ensures.value
    ∙ ap (λ o. ok_or o (record { 0 = c.loop-i.i + 1 })) c.in_err-place.ensures.ok_part
    ∙ walk_lost (seen args.tree.now) args.path.now c.loop-i.invariant c.loop-i-test.true
    (found_none child (sym c.in_err-place.ensures.ok_part ∙ c.child.ensures)))

pub loop-i-preserved : goal.loop-i-preserved
loop-i-preserved c =
    let args = c.args in
    let child = child_of (seen args.tree.now) c.loop-i.place (record { 0 = get_or args.path.now c.loop-i.i 0 }) in
    walk_more (seen args.tree.now) args.path.now c.loop-i.invariant c.loop-i-test.true
    (found_at child (sym c.in_ok-place.ensures.ok_part ∙ c.child.ensures))

pub returns : goal.returns
returns c =
    let args = c.args in
    walk_ends (seen args.tree.now) args.path.now c.loop-i.invariant c.loop-i-test.false
