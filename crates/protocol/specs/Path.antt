-- 02, section 7: which part of a path no node has, and where a lookup fails.
use Rattle.std.specs.Prelude.{ℕ, zero, suc, ◌<◌, ◌≤◌, ◌≡◌, cond, List, length, take, eqb}
use Rattle.std.proofs.Math.Option.{none, some}
use Rattle.protocol.specs.Numbers.{bad_parameter, no_such_node, no_such_property}
use Rattle.protocol.specs.Tree.{Tree, node_at}

-- The length of the shortest front part of a path that no node has. The front parts are tried from the shortest on: those up to a
-- length have a node, and some more are left. 0 where each has one.
unfoldable pub missing_from : Tree → List ℕ → ℕ → ℕ → ℕ
missing_from t path len zero = 0
missing_from t path len (suc left) =
    elim (node_at t (take (suc len) path)) [ none ↦ suc len | some place ↦ missing_from t path (suc len) left ]

abbrev pub missing_length : Tree → List ℕ → ℕ
missing_length t path = missing_from t path 0 (length path)

-- What that length is: every shorter front part, of one number or more, has a node; the one of that length has none, and so no longer
-- one has.
pub record HasNode (t : Tree) (path : List ℕ) : Type 0 where
  pub place : ℕ
  pub at : node_at t path ≡ some place

pub record FirstMissing (t : Tree) (path : List ℕ) (len : ℕ) : Type 0 where
  pub least : 1 ≤ len
  pub most : len ≤ length path
  pub shorter : (k : ℕ) → 1 ≤ k → k < len → HasNode t (take k path)
  pub none_has : node_at t (take len path) ≡ none
  pub longer : (k : ℕ) → len ≤ k → node_at t (take k path) ≡ none

-- Where a lookup fails: no node has the path, and this is the length of its shortest front part that none has; or a node has it, and
-- no property with the index.
pub data Failure : Type 0 where
  no_node : ℕ → Failure
  no_property : Failure

-- The number for it, and the length that is told: 0 but for 15.
unfoldable pub failure_number : Failure → ℕ
failure_number (no_node len) = no_such_node
failure_number no_property = no_such_property

unfoldable pub failure_length : Failure → ℕ
failure_length (no_node len) = len
failure_length no_property = 0

-- The number that document 01 has in place of a number: 11 for 15 and 16 too.
unfoldable pub number01 : ℕ → ℕ
number01 n = cond (eqb n no_such_node) bad_parameter (cond (eqb n no_such_property) bad_parameter n)
