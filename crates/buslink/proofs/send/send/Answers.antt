-- `buslink::send::send` meets its contract. Assumes nothing.
use mathlib.Core.Path.{◌≡◌, refl, sym, ap, ap₂, ◌∙◌}
use mathlib.Core.Bool.{true, ◌&&◌}
use Rattle.std.proofs.lemmas.Result.{err_from_is_err_and}
use Rattle.tree.specs.Seen.{seen}
use Rattle.cells.specs.Cells.{cells_in}
use Rattle.cells.specs.Lent.{is_lent}
use Rattle.cells.proofs.CellLaws.{lent_done}
use Rattle.buslink.specs.Identifier.{is_station, is_indicator_type, identifier}
use Rattle.buslink.specs.Send.{data_of}
use Rattle.buslink.proofs.SendLaws.{unsent_broken, unsent_short, unsent_other, sent_frame}
use Rattle.buslink.proofs.send.send.Goals as goal
use Rattle.buslink.proofs.send.send.Goals.{In_ok-lent, In_ok-station, In_ok-kind}

lent : (c : In_ok-lent) → is_lent c.args.tree.now c.args.cells.now ≡ true
lent c = lent_done c.args.tree.now c.args.cells.now c.in_ok-lent.ensures.number refl

its : (c : In_ok-station) → is_station c.args.base c.args.sub ≡ true
its c = let s = c.in_ok-station.station in sym (ap₂ is_station c.in_ok-station.ensures.0 c.in_ok-station.ensures.1) ∙ s.addressed

carries : (c : In_ok-kind) → is_indicator_type c.args.kind ≡ true
carries c = sym (ap is_indicator_type c.in_ok-kind.ensures) ∙ c.in_ok-kind.kind.carries

pub returns-in_err-lent : goal.returns-in_err-lent
returns-in_err-lent c =
    let args = c.args in
    let p = err_from_is_err_and c.from_residual.result c.from_residual.ensures.1 in
    rw (p.1, p.2) (unsent_broken args.tree.now args.cells.now args.base args.sub args.kind args.out.now _ c.in_err-lent.ensures.number)

pub returns-then-out-lt-DATA_SIZE : goal.returns-then-out-lt-DATA_SIZE
returns-then-out-lt-DATA_SIZE c =
    let args = c.args in
    unsent_short args.tree.now args.cells.now args.base args.sub args.kind args.out.now (lent (goal.at.returns-then-out-lt-DATA_SIZE c).In_ok-lent)
    c.if-out-lt-DATA_SIZE.true

pub returns-in_err-station : goal.returns-in_err-station
returns-in_err-station c =
    let args = c.args in
    let told = c.in_err-station.ensures in
    let p = err_from_is_err_and c.from_residual-in_err-station.result c.from_residual-in_err-station.ensures.1 in
    rw (p.1, p.2, told.1)
    (unsent_other args.tree.now args.cells.now args.base args.sub args.kind args.out.now (lent (goal.at.returns-in_err-station c).In_ok-lent)
    c.if-out-lt-DATA_SIZE.false (ap (λ t. t && is_indicator_type args.kind) told.0))

pub returns-in_err-kind : goal.returns-in_err-kind
returns-in_err-kind c =
    let args = c.args in
    let told = c.in_err-kind.ensures in
    let p = err_from_is_err_and c.from_residual-in_err-kind.result c.from_residual-in_err-kind.ensures.1 in
    rw (p.1, p.2, told.1)
    (unsent_other args.tree.now args.cells.now args.base args.sub args.kind args.out.now (lent (goal.at.returns-in_err-kind c).In_ok-lent)
    c.if-out-lt-DATA_SIZE.false (ap₂ ◌&&◌ (its (goal.at.returns-in_err-kind c).In_ok-station) told.0))

pub returns : goal.returns
returns c =
    let args = c.args in
    let station = c.in_ok-station.ensures in
    let kind = c.in_ok-kind.ensures in
    let same = c.in_ok-lent.ensures.same in
    sent_frame args.tree.now args.cells.now args.base args.sub args.kind args.out.now (lent (goal.at.returns c).In_ok-lent)
    c.if-out-lt-DATA_SIZE.false (its (goal.at.returns c).In_ok-station) (carries (goal.at.returns c).In_ok-kind)
    (c.identifier.ensures ∙ ap₂ (λ b s. identifier b s c.in_ok-kind.kind.number) station.0 station.1 ∙ ap (identifier args.base args.sub) kind)
    (c.copy_from_slice.ensures.after
    ∙ c.data_of.ensures
    ∙ ap₂ (λ t cs. data_of (seen t) (cells_in cs) c.in_ok-kind.kind.number) same.0 same.1
    ∙ ap (data_of (seen args.tree.now) (cells_in args.cells.now)) kind)
