-- `sheet::read::read_line` meets its contract. Assumes nothing.
use native.Mathlib.Omega.{arith}
use mathlib.Core.Path.{refl, ◌∙◌}
use Rattle.protocol.specs.Tree.{property_in}
use Rattle.tree.specs.Seen.{seen}
use Rattle.tree.proofs.RangeLaws.{sign_same}
use Rattle.sheet.proofs.ReadLaws.{no_label, no_equals, no_number, line-found, line-fits}
use Rattle.sheet.proofs.read.read_line.Goals as goal

pub returns-in_err-strip_prefix : goal.returns-in_err-strip_prefix
returns-in_err-strip_prefix c =
    rw c.from_residual.ensures
    (no_label (property_in (seen c.args.tree.now) c.args.k) c.args.bs.now c.label.ensures.is c.in_err-strip_prefix.ensures.cases)

pub returns-in_err-behind : goal.returns-in_err-behind
returns-in_err-behind c =
    rw c.from_residual-in_err-behind.ensures
    (no_equals (property_in (seen c.args.tree.now) c.args.k) c.args.bs.now c.label.ensures.is c.in_ok-strip_prefix.ensures.cases.1
    c.in_err-behind.ensures.cases)

pub returns-in_err-numeral : goal.returns-in_err-numeral
returns-in_err-numeral c =
    rw c.from_residual-in_err-numeral.ensures
    (no_number (property_in (seen c.args.tree.now) c.args.k) c.args.bs.now c.label.ensures.is c.in_ok-strip_prefix.ensures.cases.1
    c.in_ok-behind.ensures.cases.1 c.in_ok-strip_prefix.ensures.cases.0 c.in_ok-behind.ensures.cases.0
    (c.takes_sign.ensures ∙ sign_same c.read_fields.ensures) c.in_err-numeral.ensures)

pub overflow_add-result-2 : goal.overflow_add-result-2
overflow_add-result-2 c =
    let p = property_in (seen c.args.tree.now) c.args.k in
    let line = line-found p c.args.bs.now c.label.ensures.is c.in_ok-strip_prefix.ensures.cases.1
    c.in_ok-behind.ensures.cases.1 c.in_ok-strip_prefix.ensures.cases.0 c.in_ok-behind.ensures.cases.0
    (c.takes_sign.ensures ∙ sign_same c.read_fields.ensures) c.in_ok-numeral.ensures refl in
    omega (arith, line-fits line)

pub returns : goal.returns
returns c =
    line-found (property_in (seen c.args.tree.now) c.args.k) c.args.bs.now c.label.ensures.is c.in_ok-strip_prefix.ensures.cases.1
    c.in_ok-behind.ensures.cases.1 c.in_ok-strip_prefix.ensures.cases.0 c.in_ok-behind.ensures.cases.0
    (c.takes_sign.ensures ∙ sign_same c.read_fields.ensures) c.in_ok-numeral.ensures refl
