-- `buslink::records::receive` meets its contract. Assumes nothing.
use mathlib.Core.Path.{◌≡◌, sym, ◌∙◌}
use borrow.Author.Tests.{eqb-true, eqb-false}
use lib.ListN.{length, length-set}
use lib.Dec.{eqb}
use Rattle.std.proofs.lemmas.Result.{err_from_is_err_and}
use Rattle.buslink.specs.Indicator.{indicators}
use Rattle.buslink.specs.Identifier.{last_type}
use Rattle.buslink.specs.Receive.{receive_list, stored}
use Rattle.buslink.proofs.ReceiveLaws.{received_refused, received_done, taken_formed, place_within, next_within, stored_last, stored_two}
use Rattle.buslink.proofs.records.receive.Goals as goal
use Rattle.buslink.proofs.records.receive.Goals.{In_ok-frame, then-not-is_last, else-not-is_last}

pub returns-in_err-frame : goal.returns-in_err-frame
unfolding receive_list
returns-in_err-frame c =
    let args = c.args in
    let p = err_from_is_err_and c.from_residual.result c.from_residual.ensures.1 in
    rw (p.1, p.2)
    (received_refused (eqb (length args.records.now) indicators) args.base args.sub args.id args.payload.now (λ k ys. stored k ys args.records.now) args.records.now _ c.in_err-frame.ensures)

-- What is taken is for fifteen records.
count : (c : In_ok-frame) → length c.args.records.now ≡ indicators
count c =
    let args = c.args in
    eqb-true (length args.records.now) indicators
    (taken_formed (eqb (length args.records.now) indicators) args.base args.sub args.id args.payload.now (λ k ys. stored k ys args.records.now) args.records.now c.in_ok-frame.ensures)

pub bounds-records-place : goal.bounds-records-place
bounds-records-place c =
    let kind = c.in_ok-frame.frame.kind in
    rw c.place-place.ensures (place_within kind.number c.args.records.now kind.carries (count (goal.at.bounds-records-place c).In_ok-frame))

pub bounds-records-place-then-not-is_last : goal.bounds-records-place-then-not-is_last
bounds-records-place-then-not-is_last c =
    let kind = c.in_ok-frame.frame.kind in
    rw c.place-place.ensures
    (simp length-set
    (next_within kind.number c.args.records.now kind.carries (count (goal.at.bounds-records-place-then-not-is_last c).In_ok-frame)
    (eqb-false kind.number last_type (sym c.if-not-is_last.ensures))))

pub returns : goal.returns
unfolding receive_list
returns c =
    let args = c.args in
    let frame = c.in_ok-frame.frame in
    received_done (eqb (length args.records.now) indicators) args.base args.sub args.id args.payload.now (λ k ys. stored k ys args.records.now) args.records.now c.in_ok-frame.ensures
    c.usable.ensures
    (elim c.if-not-is_last.branch [
      | then-not-is_last w ↦ w.records-is ∙ rw (c.place-place.ensures, c.first.ensures, w.second.ensures) (stored_two _ _ _ w.if-not-is_last.ensures)
      | else-not-is_last w ↦ w.records-is ∙ rw (c.place-place.ensures, c.first.ensures) (stored_last _ _ _ w.if-not-is_last.ensures)
    ])
