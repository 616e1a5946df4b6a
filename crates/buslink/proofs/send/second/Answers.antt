-- `buslink::send::second` meets its contract. Assumes nothing.
use Prim.Native.Nat.{◌+◌, ◌<◌, ◌≤◌}
use native.Mathlib.Omega.{arith}
use mathlib.Core.Path.{◌≡◌, sym, subst, ◌∙◌}
use borrow.Author.Tests.{eqb-true, eqb-false}
use lib.ListN.{length}
use Rattle.tree.specs.Seen.{seen}
use Rattle.cells.specs.Cells.{cells_in}
use Rattle.buslink.specs.Identifier.{last_type}
use Rattle.buslink.specs.Indicator.{indicators}
use Rattle.buslink.specs.Send.{first_of}
use Rattle.buslink.specs.Receive.{place_of}
use Rattle.buslink.specs.Steps.{ProbeAt}
use Rattle.buslink.proofs.SendLaws.{probe_shown, probe_next, probe_past, none_behind, shown_past}
use Rattle.buslink.proofs.IdentifierLaws.{type_parts}
use Rattle.buslink.proofs.send.second.Goals as goal
use Rattle.buslink.proofs.send.second.Goals.{Else-is_last}

-- The second indicator of a type before the last is one of the fifteen.
in_frame : (c : Else-is_last) → first_of c.args.kind.number < indicators
in_frame c =
    let types = type_parts _ c.args.kind.carries in
    let below : c.args.kind.number ≡ last_type → ⊥ = eqb-false _ _ (sym c.if-is_last.ensures) in
    omega (arith, types.0, types.1, below)

pub returns-then-is_last : goal.returns-then-is_last
returns-then-is_last c =
    let args = c.args in
    none_behind (seen args.lent.tree.now) (cells_in args.lent.cells.now) (first_of args.kind.number) (omega (arith, eqb-true _ _ (sym c.if-is_last.ensures)))

pub returns-then-property_count-first : goal.returns-then-property_count-first
returns-then-property_count-first c =
    let args = c.args in
    let past : length (seen args.lent.tree.now).properties ≤ args.first = omega (arith, c.if-property_count-first.true, c.property_count.ensures) in
    sym (shown_past (seen args.lent.tree.now) (cells_in args.lent.cells.now) args.first past)
    ∙ probe_shown (seen args.lent.tree.now) (cells_in args.lent.cells.now) (first_of args.kind.number) (in_frame (goal.at.returns-then-property_count-first c).Else-is_last)
    (probe_past (seen args.lent.tree.now) _ _ (omega arith) c.requires past)

pub returns : goal.returns
returns c =
    let follows : let kind = c.args.kind.number in place_of kind + 1 ≡ first_of kind =
    omega (arith, (type_parts _ c.args.kind.carries).0) in
    let args = c.args in
    let within : args.first < length (seen args.lent.tree.now).properties = omega (arith, c.if-property_count-first.false, c.property_count.ensures) in
    c.indicator_at.ensures
    ∙ probe_shown (seen args.lent.tree.now) (cells_in args.lent.cells.now) (first_of args.kind.number) (in_frame (goal.at.returns c).Else-is_last)
    (subst (λ n. ProbeAt (seen args.lent.tree.now) n c.next.result) follows
    (probe_next (seen args.lent.tree.now) (place_of args.kind.number) c.requires within c.next.ensures))
