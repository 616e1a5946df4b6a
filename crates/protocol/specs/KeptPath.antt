-- 01, The tree: a path as code keeps it, its numbers at the front of an array.
use Rattle.std.specs.Prelude.{ℕ, ◌≡◌, List, take}
use Rattle.protocol.specs.declared.path.Path.{Path}

abbrev pub path_in : Path → List ℕ
path_in p = take p.len p.numbers

pub record PathIs (ns : List ℕ) (n : ℕ) (r : Path) : Type 0 where
  pub is : path_in r ≡ ns
  pub len : r.len ≡ n
