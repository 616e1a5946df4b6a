-- `sheet::write::Sheet` is put as its contract says. Assumes nothing.
use Rattle.tree.specs.Seen.{seen}
use Rattle.cells.specs.Cells.{cells_in}
use Rattle.sheet.proofs.SettingLaws.{starts, next_of}
use Rattle.sheet.proofs.WriteLaws.{put_begins, put_on, put_ends}
use Rattle.sheet.proofs.write.SheetValue.put.Goals as goal

pub loop-k-init : goal.loop-k-init
loop-k-init c =
    let lent = c.args.self.lent in
    put_begins (seen lent.tree.now) (cells_in lent.cells.now) c.args.output.now
    (starts lent.tree c.into_iter-k-iterator.ensures.into_iter_gives)

pub loop-k-preserved : goal.loop-k-preserved
loop-k-preserved c =
    let lent = c.args.self.lent in
    put_on (seen lent.tree.now) (cells_in lent.cells.now) c.loop-k.invariant (next_of c.loop-k.invariant.tree c.in-Some.ensures.steps)
    c.put_setting.ensures

pub returns : goal.returns
returns c =
    let lent = c.args.self.lent in
    put_ends (seen lent.tree.now) (cells_in lent.cells.now) c.loop-k.invariant c.in-None.ensures.steps.first.0
