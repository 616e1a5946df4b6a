-- `sheet::setting::may_hold` meets its contract. Assumes nothing.
use mathlib.Core.Path.{refl, ◌∙◌}
use Rattle.sheet.proofs.SettingLaws.{hold_by}
use Rattle.sheet.proofs.setting.may_hold.Goals as goal

pub returns-then-in_range : goal.returns-then-in_range
returns-then-in_range c = hold_by c.args.word c.read_fields-f.ensures c.if-in_range.ensures c.on_step.ensures

pub returns-else-in_range : goal.returns-else-in_range
returns-else-in_range c = c.if-in_range.false ∙ hold_by c.args.word c.read_fields-f.ensures c.if-in_range.ensures refl
