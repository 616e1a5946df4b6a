-- `text::number::put_word` meets its contract. Assumes nothing.
use native.Mathlib.Omega.{arith}
use Rattle.text.proofs.TextLaws.{plain_put, high_put}
use Rattle.text.proofs.number.put_word.Goals as goal

pub returns-then-not-signed : goal.returns-then-not-signed
returns-then-not-signed c = plain_put c.args.signed c.args.w c.then-not-signed.either c.put_decimal.ensures

pub returns : goal.returns
returns c =
    high_put c.args.signed c.args.w c.if-not-signed.false (omega arith) (omega arith) c.put_all.ensures c.put_decimal-2.ensures
