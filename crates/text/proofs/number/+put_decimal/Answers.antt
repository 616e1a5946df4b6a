-- `text::number::put_decimal`, which calls itself, meets its contract. Assumes nothing.
use Rattle.text.proofs.TextLaws.{small_put, more_put}
use Rattle.text.proofs.number.+put_decimal.Goals as goal
use Rattle.text.proofs.number.+put_decimal.Goals.{then-n-ge10, else-n-ge10}

pub returns : goal.returns
returns t c =
    elim c.if-n-ge10.branch [
      | then-n-ge10 w ↦ more_put w.if-n-ge10.true w.put_decimal.ensures (rw w.output-is at c.put_all.ensures)
      | else-n-ge10 w ↦ small_put w.if-n-ge10.false (rw w.output-is at c.put_all.ensures)
    ]
