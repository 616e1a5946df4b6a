-- `text::number::put_decimal` calls itself: it falls with the number.
use Rattle.text.proofs.number.+put_decimal.Given as goal

abbrev pub decreases-put_decimal : goal.decreases-put_decimal
decreases-put_decimal l = l.n
