-- `buslink::receive::Taken::usable` meets its contract. Assumes nothing.
use native.Mathlib.Omega.{arith}
use mathlib.Core.Path.{sym}
use borrow.Author.Tests.{eqb-true, eqb-false}
use lib.ListN.{get_or}
use Rattle.buslink.proofs.ReceiveLaws.{bit_is, last_usable, both_usable}
use Rattle.buslink.proofs.IdentifierLaws.{type_parts}
use Rattle.buslink.proofs.receive.Taken.usable.Goals as goal

pub returns-then-is_last : goal.returns-then-is_last
returns-then-is_last c =
    last_usable _ _ c.place-place.ensures (eqb-true _ _ (sym c.if-is_last.ensures)) (bit_is (get_or c.args.self.payload.now 3 0) c.from-first.ensures c.is_usable.ensures)

pub overflow_shl-result-3 : goal.overflow_shl-result-3
overflow_shl-result-3 c = omega (arith, c.place-place.ensures, (type_parts _ c.args.self.kind.carries).1)

pub returns : goal.returns
returns c =
    both_usable _ _ c.place-place.ensures (type_parts _ c.args.self.kind.carries).1 (eqb-false _ _ (sym c.if-is_last.ensures))
    (bit_is (get_or c.args.self.payload.now 3 0) c.from-first.ensures c.is_usable.ensures) (bit_is (get_or c.args.self.payload.now 7 0) c.from-second.ensures c.is_usable-2.ensures)
