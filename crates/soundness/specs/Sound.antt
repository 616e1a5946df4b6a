-- docs/FORMATS.md, Tree: bytes that stand for a sound tree.
use Rattle.std.specs.Prelude.{ℕ, Bool, cond, ◌&&◌, List}
use Rattle.std.proofs.Math.Option.{Option, none, some}
use Rattle.protocol.specs.Tree.{Tree, sound}
use Rattle.tree.specs.Form.{tree_form}
use Rattle.tree.specs.Seen.{seen, same}

-- Bytes have a form where they are the form of the tree that is seen in them; so nothing lies past it. They stand for that
-- tree where it is sound too.
unfoldable pub is_tree : List ℕ → Bool
is_tree bs = same bs (tree_form (seen bs)) && sound (seen bs)

unfoldable pub tree_of : List ℕ → Option Tree
tree_of bs = cond (is_tree bs) (some (seen bs)) none
