-- `sheet::read::store_lines` meets its contract. Assumes nothing.
use Rattle.tree.specs.Seen.{seen}
use Rattle.sheet.proofs.SettingLaws.{starts, next_of}
use Rattle.sheet.proofs.LinesLaws.{store_begins, line_there, word-there, stored-ends, store_on, store_ends}
use Rattle.sheet.proofs.read.store_lines.Goals as goal

pub loop-k-init : goal.loop-k-init
loop-k-init c =
    store_begins (seen c.args.tree.now) c.args.sheet.now c.args.cells.now c.requires.0 c.requires.1
    (starts c.args.tree c.into_iter-k-iterator.ensures.into_iter_gives)

pub unwrap-line-requires : goal.unwrap-line-requires
unwrap-line-requires c =
    line_there (seen c.args.tree.now) c.args.sheet.now c.args.cells.now c.loop-k.invariant
    (next_of c.loop-k.invariant.tree c.in-Some.ensures.steps) c.read_line.ensures

pub unwrap-requires : goal.unwrap-requires
unwrap-requires c =
    word-there (seen c.args.tree.now) c.args.sheet.now c.args.cells.now c.loop-k.invariant
    (next_of c.loop-k.invariant.tree c.in-Some.ensures.steps) c.read_line.ensures c.unwrap-line.ensures

pub split_at-requires : goal.split_at-requires
split_at-requires c =
    stored-ends (seen c.args.tree.now) c.args.sheet.now c.args.cells.now c.loop-k.invariant
    (next_of c.loop-k.invariant.tree c.in-Some.ensures.steps) c.read_line.ensures c.unwrap-line.ensures

pub loop-k-preserved : goal.loop-k-preserved
loop-k-preserved c =
    store_on (seen c.args.tree.now) c.args.sheet.now c.args.cells.now c.loop-k.invariant
    (next_of c.loop-k.invariant.tree c.in-Some.ensures.steps) c.read_line.ensures c.unwrap-line.ensures
    c.unwrap.ensures c.store_word.ensures c.split_at.ensures.back

pub returns : goal.returns
returns c =
    store_ends (seen c.args.tree.now) c.args.sheet.now c.args.cells.now c.loop-k.invariant c.in-None.ensures.steps.first.0
