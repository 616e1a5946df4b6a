-- `buslink::table::indicator_of` meets its contract. Assumes nothing.
use native.Mathlib.Omega.{arith}
use mathlib.Core.Logic.{inl, inr}
use mathlib.Core.Path.{ap, ◌∙◌}
use Rattle.buslink.specs.Receive.{told_in}
use Rattle.buslink.proofs.ReceiveLaws.{told_unsound, told_other, told_record}
use Rattle.buslink.proofs.table.indicator_of.Goals as goal

pub returns-then-table-ne-TABLE_SIZE : goal.returns-then-table-ne-TABLE_SIZE
returns-then-table-ne-TABLE_SIZE c = told_unsound _ _ c.if-table-ne-TABLE_SIZE.true

pub returns-in_default : goal.returns-in_default
returns-in_default c =
    told_other c.args.table.now c.from.result c.if-table-ne-TABLE_SIZE.false (inl (omega arith)) ∙ ap (told_in c.args.table.now) c.from.ensures

pub returns-in_default-2 : goal.returns-in_default-2
returns-in_default-2 c =
    told_other c.args.table.now c.from.result c.if-table-ne-TABLE_SIZE.false (inr (omega arith, omega arith)) ∙ ap (told_in c.args.table.now) c.from.ensures

pub returns-in-1-to-15 : goal.returns-in-1-to-15
returns-in-1-to-15 c =
    told_record c.args.table.now c.from.result c.if-table-ne-TABLE_SIZE.false (omega arith) (omega arith) c.from_bytes.ensures
    ∙ ap (told_in c.args.table.now) c.from.ensures
