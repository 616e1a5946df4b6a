use Rattle.stream.proofs.FeedLaws.{Running}
use Rattle.stream.proofs.feed.run_bytes.Given as goal

abbrev pub invariant-loop-i : goal.invariant-loop-i
invariant-loop-i l = Running l.initial.state l.bytes l.place l.state l.i
