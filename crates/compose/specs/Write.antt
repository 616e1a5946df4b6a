-- 01, Requests and replies: a request written out.
use Rattle.std.specs.Prelude.{List, ℕ}
use Rattle.protocol.specs.Frame.{Received, received, if_done, if_room}
use Rattle.protocol.specs.Request.{Request, allowance}

-- Where an output has room for any, a request that the table allows is written in its form; any other is 10 or 11. Room is
-- looked at first.
unfoldable pub write_request : ℕ → ℕ → (Request → List ℕ) → Request → Received
write_request least room form r = if_room least room (if_done (allowance r) (received (form r)))
