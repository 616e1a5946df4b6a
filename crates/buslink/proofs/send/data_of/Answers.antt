-- `buslink::send::data_of` meets its contract. Assumes nothing.
use native.Mathlib.Omega.{arith}
use mathlib.Core.Path.{sym, ap, subst, ◌∙◌}
use Rattle.tree.specs.Seen.{seen}
use Rattle.cells.specs.Cells.{cells_in}
use Rattle.buslink.specs.Receive.{place_of}
use Rattle.buslink.specs.Send.{indicator_of}
use Rattle.buslink.specs.Steps.{ProbeAt}
use Rattle.buslink.proofs.IdentifierLaws.{type_parts}
use Rattle.buslink.proofs.SendLaws.{Marked, probe_marked, indicator_marked, probe_shown, data-joined}
use Rattle.buslink.proofs.send.data_of.Goals as goal
use Rattle.buslink.proofs.send.data_of.Goals.{After-place_after-place}

at : (c : After-place_after-place) → ProbeAt (seen c.args.lent.tree.now) (place_of c.args.kind.number) c.place_after-place.result
at c = subst (λ n. ProbeAt (seen c.args.lent.tree.now) n c.place_after-place.result) c.place.ensures c.place_after-place.ensures

pub to_bytes-requires : goal.to_bytes-requires
to_bytes-requires c =
    let marked = subst Marked (sym c.indicator_at.ensures) (probe_marked _ _ _) in record { status = marked.status; format = marked.format }

pub second-requires : goal.second-requires
second-requires c = at (goal.at.second-requires c).After-place_after-place

pub to_bytes-requires-2 : goal.to_bytes-requires-2
to_bytes-requires-2 c =
    let marked = subst Marked (sym c.second.ensures) (indicator_marked _ _ _) in record { status = marked.status; format = marked.format }

pub returns : goal.returns
returns c =
    let args = c.args in
    let t = seen args.lent.tree.now in
    let cs = cells_in args.lent.cells.now in
    let types = type_parts _ args.kind.carries in
    data-joined t cs args.kind.number
    (c.indicator_at.ensures
    ∙ probe_shown t cs (place_of args.kind.number) (omega (arith, types.1)) (at (goal.at.returns c).After-place_after-place)
    ∙ ap (indicator_of t cs) (omega (arith, types.0)))
    c.second.ensures c.to_bytes.ensures c.to_bytes-2.ensures
