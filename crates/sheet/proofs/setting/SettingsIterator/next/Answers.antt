-- `sheet::setting::Settings` gives the settings one after the other. Assumes nothing.
use native.Mathlib.Omega.{arith}
use mathlib.Core.Path.{◌∙◌, ap}
use lib.ListN.{length}
use Rattle.protocol.specs.Sheet.{is_setting}
use Rattle.tree.specs.Lookup.{NextIs}
use Rattle.tree.specs.Seen.{seen}
use Rattle.sheet.proofs.SettingLaws.{setting_same, gives_none, gives_some}
use Rattle.sheet.proofs.setting.SettingsIterator.next.Goals as goal
use Rattle.sheet.proofs.setting.SettingsIterator.next.Goals.{After-next_where-k}

next : (c : After-next_where-k) → NextIs is_setting (seen c.args.self.now.tree.now) c.args.self.now.from c.next_where-k.result
next c = c.next_where-k.ensures is_setting (λ p f b same told. told.1 ∙ setting_same same)

pub returns-then-property_count-k-clause-steps : goal.returns-then-property_count-k-clause-steps
returns-then-property_count-k-clause-steps c =
    gives_none (next (goal.at.returns-then-property_count-k-clause-steps c).After-next_where-k)
    (omega (arith, c.if-property_count-k.true, c.property_count.ensures))

pub returns-clause-steps : goal.returns-clause-steps
returns-clause-steps c =
    gives_some (next (goal.at.returns-clause-steps c).After-next_where-k) (omega (arith, c.if-property_count-k.false, c.property_count.ensures))

pub returns-clause-goes : goal.returns-clause-goes
returns-clause-goes c =
    let g = gives_some {s = c.args.self.now} (next (goal.at.returns-clause-goes c).After-next_where-k) (omega (arith, c.if-property_count-k.false, c.property_count.ensures)) in
    let fewer = ap length g.first in
    record { on = λ _. (tt, tt, omega (arith, fewer)); keeps = tt; rests = λ _. tt }
