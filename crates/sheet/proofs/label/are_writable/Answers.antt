-- `sheet::label::are_writable` meets its contract. Assumes nothing.
use native.Mathlib.Omega.{arith}
use Rattle.tree.specs.Seen.{seen}
use Rattle.tree.proofs.FieldLaws.{property_count_lem}
use Rattle.sheet.proofs.SettingLaws.{starts, next_of}
use Rattle.sheet.proofs.LabelLaws.{writing_begins, equals_in, repeated, writing_on, writing_ends}
use Rattle.sheet.proofs.label.are_writable.Goals as goal

pub loop-k-init : goal.loop-k-init
loop-k-init c = writing_begins (seen c.args.tree.now) (starts c.args.tree c.into_iter-k-iterator.ensures.into_iter_gives)

pub returns-then-not-is_plain : goal.returns-then-not-is_plain
returns-then-not-is_plain c =
    equals_in (seen c.args.tree.now) c.loop-k.invariant (next_of c.loop-k.invariant.tree c.in-Some.ensures.steps) c.label.ensures.is
    c.is_plain.ensures c.if-not-is_plain.true

pub differs_behind-requires : goal.differs_behind-requires
differs_behind-requires c =
    let next = next_of c.loop-k.invariant.tree c.in-Some.ensures.steps in
    omega (arith, next.listed, property_count_lem c.args.tree.now, c.type_inv.tree 1)

pub returns-then-not-differs_behind : goal.returns-then-not-differs_behind
returns-then-not-differs_behind c =
    repeated (seen c.args.tree.now) c.loop-k.invariant (next_of c.loop-k.invariant.tree c.in-Some.ensures.steps) c.label.ensures.is
    c.is_plain.ensures c.if-not-is_plain.false c.differs_behind.ensures c.if-not-differs_behind.true

pub loop-k-preserved : goal.loop-k-preserved
loop-k-preserved c =
    writing_on (seen c.args.tree.now) c.loop-k.invariant (next_of c.loop-k.invariant.tree c.in-Some.ensures.steps) c.label.ensures.is
    c.is_plain.ensures c.if-not-is_plain.false c.differs_behind.ensures c.if-not-differs_behind.false

pub returns : goal.returns
returns c = writing_ends (seen c.args.tree.now) c.loop-k.invariant c.in-None.ensures.steps.first.0
