use Rattle.listing.proofs.EntryLaws.{Owning}
use Rattle.listing.proofs.entry.put_properties.Given as goal

abbrev pub invariant-loop-p : goal.invariant-loop-p
invariant-loop-p l = Owning l.bytes l.k l.path l.initial.output l.output l.index l.p
