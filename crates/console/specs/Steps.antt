-- No public promise is stated by these definitions: they follow the code step by step.
use Rattle.std.specs.Prelude.{ℕ, ◌<◌, ◌≤◌, ◌≡◌, true, List, length}
use Rattle.protocol.specs.Buffer.{over}
use Rattle.stream.specs.State.{has_form}
use Rattle.answer.specs.Serve.{Service}
use Rattle.console.specs.Bench.{served_lines}

-- What `serve_lines` returns and leaves.
pub record ServesLines (what : Service) (old : List ℕ) (size : ℕ) (cells' new : List ℕ) : Type 0 where
  pub len : size ≡ length (served_lines what)
  pub cells : cells' ≡ what.cells
  pub bytes : new ≡ over (served_lines what) old

-- A call over a part of the input goes on: it leaves a state that has a form, takes no more than there is, and something where
-- there is something.
pub record Progress (bytes : List ℕ) (count : ℕ) (state' : List ℕ) : Type 0 where
  pub form : has_form state' ≡ true
  pub fits : count ≤ length bytes
  pub some : 0 < length bytes → 0 < count
