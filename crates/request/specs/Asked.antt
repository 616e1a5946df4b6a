-- 01, Requests and replies: what reading a request hands back.
use Rattle.std.specs.Prelude.{ℕ, ◌≡◌, List, replicate, Result, Ok, Err, IfOk}
use Rattle.protocol.specs.declared.Refusal.{Refusal}
use Rattle.protocol.specs.Numbers.{done, max_depth}
use Rattle.protocol.specs.Buffer.{over}
use Rattle.protocol.specs.Refusal.{refusal_number, op_number}
use Rattle.protocol.specs.KeptPath.{path_in}
use Rattle.protocol.specs.Request as rule
use Rattle.protocol.specs.Request.{request_of, Asked, declined}
use Rattle.request.specs.declared.Request.{Request}

-- The reading that finds a request.
abbrev pub found : rule.Request → Asked
found r = record { number = done; request = r }

-- A path in 16 bytes: the path, and zeros behind it.
unfoldable pub padded : List ℕ → List ℕ
padded path = over path (replicate max_depth 0)

-- The request that code has, and what reading it came to.
abbrev pub request_in : Request → rule.Request
request_in r = request_of (op_number r.op) (path_in r.path) r.index.0 r.value

abbrev pub asked_of : Result Request Refusal → Asked
asked_of (Ok r) = found (request_in r)
asked_of (Err e) = declined (refusal_number e)

-- What is handed back for a reading, with every byte of the path.
pub record AskedIs (a : Asked) (r : Result Request Refusal) : Type 0 where
  pub is : asked_of r ≡ a
  pub path : IfOk r (λ q. q.path.numbers ≡ padded a.request.path)
