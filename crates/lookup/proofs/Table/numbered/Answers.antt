-- `lookup::Table::numbered` meets its contract. Assumes nothing.
use Prim.Native.Nat.{◌-◌}
use mathlib.Core.Path.{◌≡◌, ap, sym, ◌∙◌}
use mir.Val.{bool_byte}
use Rattle.std.proofs.Common.{Some}
use Rattle.protocol.specs.Refusal.{option_of}
use Rattle.lookup.proofs.FindLaws.{names, seek_none, seek_begins, seek_found, seek_more, seek_ends}
use Rattle.lookup.proofs.Table.numbered.Goals as goal
use Rattle.lookup.proofs.Table.numbered.Goals.{After-from-left}

-- What the record at a place counts.
hit : (c : After-from-left) → let args = c.args in
    c.from-left.result ≡ bool_byte (names args.tree.now args.self args.node c.loop-k.k)
hit c = c.from-left.ensures ∙ ap bool_byte c.names.ensures

pub returns-then-n-eq0 : goal.returns-then-n-eq0
returns-then-n-eq0 c = sym (ap option_of (seek_none c.args.tree.now c.args.self c.args.node c.args.n c.if-n-eq0.true))

pub loop-k-init : goal.loop-k-init
loop-k-init c = seek_begins c.args.tree.now c.args.self c.args.node c.args.n c.if-n-eq0.false

pub returns-then-left-eq0 : goal.returns-then-left-eq0
returns-then-left-eq0 c =
    let args = c.args in
    ap Some c.from.ensures
    ∙ sym (ap option_of
    (seek_found args.tree.now args.self args.node args.n c.loop-k.invariant c.loop-k-test.true
    (ap (λ n. c.loop-k.left - n) (sym (hit (goal.at.returns-then-left-eq0 c).After-from-left)) ∙ c.if-left-eq0.true)))

pub loop-k-preserved : goal.loop-k-preserved
loop-k-preserved c =
    let args = c.args in
    let h = hit (goal.at.loop-k-preserved c).After-from-left in
    rw h
    (seek_more args.tree.now args.self args.node args.n c.loop-k.invariant c.loop-k-test.true
    (λ e. c.if-left-eq0.false (ap (λ n. c.loop-k.left - n) h ∙ e)))

pub returns : goal.returns
returns c =
    sym (ap option_of
    (seek_ends c.args.tree.now c.args.self c.args.node c.args.n c.loop-k.invariant c.loop-k-test.false))
