-- 01, Requests and replies: what a write did, as the code has it.
use Rattle.protocol.specs.Answer as rule
use Rattle.reply.specs.declared.write.Outcome.{Outcome}
use Rattle.reply.specs.declared.write.Outcome.TheVariants.{Saved, Taken, ReadOnly, OutOfRange, OffStep}

abbrev pub meaning : Outcome → rule.Outcome
meaning Saved = rule.saved
meaning Taken = rule.taken
meaning ReadOnly = rule.read_only
meaning OutOfRange = rule.out_of_range
meaning OffStep = rule.off_step
