-- `sheet::read::check_lines` meets its contract. Assumes nothing.
use mathlib.Core.Path.{refl, sym, ap, ◌∙◌}
use Rattle.tree.specs.Seen.{seen}
use Rattle.sheet.proofs.SettingLaws.{starts, next_of}
use Rattle.sheet.proofs.LinesLaws.{so_far, check_begins, check_fails, line-ends, check_on, check_surplus, check_ends}
use Rattle.sheet.proofs.read.check_lines.Goals as goal

pub loop-k-init : goal.loop-k-init
loop-k-init c =
    check_begins (seen c.args.tree.now) c.args.sheet.now (starts c.args.tree c.into_iter-k-iterator.ensures.into_iter_gives)

pub returns-in_default : goal.returns-in_default
returns-in_default c =
    check_fails (seen c.args.tree.now) c.args.sheet.now c.loop-k.invariant (next_of c.loop-k.invariant.tree c.in-Some.ensures.steps)
    c.in_default.ensures

pub split_at-requires : goal.split_at-requires
split_at-requires c =
    line-ends (seen c.args.tree.now) c.args.sheet.now c.loop-k.invariant (next_of c.loop-k.invariant.tree c.in-Some.ensures.steps)
    c.in-Some-read_line.ensures

pub loop-k-preserved : goal.loop-k-preserved
loop-k-preserved c =
    check_on (seen c.args.tree.now) c.args.sheet.now c.loop-k.invariant (next_of c.loop-k.invariant.tree c.in-Some.ensures.steps)
    c.in-Some-read_line.ensures c.is_in_range-in_range.ensures refl c.split_at.ensures.back

pub returns-then-left-ne0 : goal.returns-then-left-ne0
returns-then-left-ne0 c =
    check_surplus (seen c.args.tree.now) c.args.sheet.now c.loop-k.invariant c.in-None.ensures.steps.first.0 c.if-left-ne0.true

pub returns-then-not-in_range : goal.returns-then-not-in_range
returns-then-not-in_range c =
    ap so_far (sym c.if-not-in_range.true)
    ∙ check_ends (seen c.args.tree.now) c.args.sheet.now c.loop-k.invariant c.in-None.ensures.steps.first.0 c.if-left-ne0.false

pub returns : goal.returns
returns c =
    ap so_far (sym c.if-not-in_range.false)
    ∙ check_ends (seen c.args.tree.now) c.args.sheet.now c.loop-k.invariant c.in-None.ensures.steps.first.0 c.if-left-ne0.false
