-- `tree::record::put_record_texts` meets its contract. Assumes nothing.
use Prim.Native.Nat.{◌-◌}
use native.Mathlib.Omega.{arith}
use mathlib.Core.Path.{ap₂, ◌∙◌}
use lib.ListN.{length}
use Rattle.tree.specs.Seen.{option_count}
use Rattle.tree.proofs.FieldLaws.{options_few, record-texts-at, record-texts-none, put_texts_as}
use Rattle.tree.proofs.record.put_record_texts.Goals as goal

pub returns-in_default : goal.returns-in_default
returns-in_default c =
    let args = c.args in
    put_texts_as (length args.out.now - args.at) (record-texts-none args.tree.now args.place c.in_default.ensures.place) c.put_texts.ensures

pub overflow_add-count : goal.overflow_add-count
overflow_add-count c = omega (arith, c.option_count-count.ensures, options_few c.byte_at.result c.word_at.result)

pub returns : goal.returns
returns c =
    let args = c.args in
    put_texts_as (length args.out.now - args.at)
    (record-texts-at args.tree.now args.place c.in-Some.ensures.place
    (c.option_count-count.ensures ∙ ap₂ option_count c.byte_at.ensures c.word_at.ensures)
    (c.from-from.ensures ∙ c.half_at.ensures))
    c.put_texts-2.ensures
