use lib.ListN.{drop}
use Rattle.protocol.specs.Bytes.{texts}
use Rattle.tree.specs.Seen.{texts_from}
use Rattle.tree.proofs.TextLaws.{Copying}
use Rattle.tree.proofs.texts.put_texts.Given as goal

abbrev pub invariant-loop-next : goal.invariant-loop-next
invariant-loop-next l = Copying l.tree (texts (texts_from l.count (drop l.from l.tree))) l.initial.out l.at l.out l.left l.next l.i
