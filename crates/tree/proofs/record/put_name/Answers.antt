-- `tree::record::put_name` meets its contract. Assumes nothing.
use Prim.Native.Nat.{◌-◌}
use mathlib.Core.Path.{ap, ◌∙◌}
use lib.ListN.{length, drop}
use Rattle.protocol.specs.Bytes.{texts}
use Rattle.tree.specs.Seen.{texts_from}
use Rattle.tree.proofs.FieldLaws.{name_texts, put_texts_as}
use Rattle.tree.proofs.record.put_name.Goals as goal

pub returns : goal.returns
returns c =
    let args = c.args in
    put_texts_as (length args.out.now - args.at)
    (ap (λ i. texts (texts_from 1 (drop i args.tree.now))) c.unwrap_or-from.ensures
    ∙ name_texts args.tree.now args.node c.name_place.result c.name_place.ensures)
    c.put_texts.ensures
