-- `text::number::hex_digit` meets its contract. Assumes nothing.
use Rattle.text.proofs.TextLaws.{digit_low, digit_high}
use Rattle.text.proofs.number.hex_digit.Goals as goal

pub returns-then-n-lt10 : goal.returns-then-n-lt10
returns-then-n-lt10 c = digit_low c.args.n c.if-n-lt10.true

pub returns : goal.returns
returns c = digit_high c.args.n c.if-n-lt10.false
