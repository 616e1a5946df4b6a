-- `tree::part::label_start` meets its contract. Assumes nothing.
use native.Mathlib.Omega.{arith}
use mathlib.Core.Path.{sym, ◌∙◌}
use Rattle.std.proofs.Common.{Some, None}
use Rattle.tree.proofs.FieldLaws.{label_begins, start_within, start_past}
use Rattle.tree.proofs.part.label_start.Goals as goal

pub returns-in-Some : goal.returns-in-Some
returns-in-Some c =
    let args = c.args in (
      sym (start_within args.tree.now args.place c.in-Some.from c.if-from-tree.true)
          ∙ label_begins args.tree.now args.place (Some c.in-Some.from) c.in-Some.ensures,
      c.if-from-tree.true,
    )

pub returns-in_default : goal.returns-in_default
returns-in_default c =
    let args = c.args in (
      sym (start_past args.tree.now args.place c.in-Some.from c.if-from-tree.false)
          ∙ label_begins args.tree.now args.place (Some c.in-Some.from) c.in-Some.ensures,
      omega arith,
    )

pub returns-in_default-2 : goal.returns-in_default-2
returns-in_default-2 c = (label_begins c.args.tree.now c.args.place None c.in_default.ensures, omega arith)
