-- `listing::list` meets its contract. Assumes nothing.
use native.Mathlib.Omega.{arith}
use Rattle.std.proofs.lemmas.Result.{err_from_is_err_and}
use Rattle.protocol.proofs.RefusalLaws.{refusal_some}
use Rattle.listing.proofs.ListsLaws.{lists_refused, lists_sound, lists_text, longest}
use Rattle.listing.proofs.list.Goals as goal

pub returns-in_err-tree : goal.returns-in_err-tree
returns-in_err-tree c =
    let p = err_from_is_err_and c.from_residual.result c.from_residual.ensures.1 in
    rw (p.1, p.2)
    (lists_refused c.args.tree.now c.args.out.now c.in_err-tree.ensures.number (refusal_some c.in_err-tree.field-0.0))

pub returns : goal.returns
returns c =
    lists_text c.args.tree.now c.args.out.now (lists_sound c.args.tree.now c.args.out.now c.in_ok-tree.ensures.number)
    c.in_ok-tree.ensures.same (c.fill.ensures (longest c.in_ok-tree.tree.bytes.now c.in_ok-tree.tree.sound, omega arith))
