-- Buffers filled with zeros, and the cells of a tree.
-- Assumes nothing.
use Prim.Native.Nat.{ℕ, ◌*◌, ◌≤◌}
use mathlib.Core.Path.{◌≡◌, refl, sym, ap, subst}
use mathlib.Core.Bool.{Bool, true, false, cond, ◌&&◌}
use mathlib.Core.List.{List}
use lib.ListN.{length}
use lib.Dec.{eqb}
use Rattle.protocol.specs.Numbers.{unsound, max_properties}
use Rattle.protocol.proofs.TestLaws.{and_right}
use Rattle.tree.specs.Form.{tree_form}
use Rattle.tree.specs.Seen.{seen, same}
use Rattle.soundness.specs.Sound.{is_tree}
use Rattle.cells.specs.Cells.{cell_size}
use Rattle.soundness.proofs.FormLaws.{sound_parts}
use Rattle.pualirqiq.specs.Calls.{Zeroes, cells_size, is_cells_sized}

pub zeroes_wrong : (t : Bool) (size : ℕ) (old : List ℕ) → t ≡ false → Zeroes t size old unsound old
zeroes_wrong t size old e = subst (λ b. Zeroes b size old unsound old) (sym e) (record { number = refl; bytes = refl })

-- The cells of a tree.
module _ (tree : List ℕ) where
  pub few_properties : is_tree tree ≡ true → length (seen tree).properties ≤ max_properties
  unfolding is_tree
  few_properties h = (sound_parts (seen tree) (and_right (same tree (tree_form (seen tree))) _ h)).properties

  pub size_sound : is_tree tree ≡ true → length (seen tree).properties * cell_size ≡ cells_size tree
  unfolding cells_size
  size_sound h = sym (ap (λ t. cond t (length (seen tree).properties * cell_size) 0) h)

  pub size_none : is_tree tree ≡ false → 0 ≡ cells_size tree
  unfolding cells_size
  size_none h = sym (ap (λ t. cond t (length (seen tree).properties * cell_size) 0) h)

  pub cells_unsound : (cells : List ℕ) → is_tree tree ≡ false → is_cells_sized tree cells ≡ false
  cells_unsound cells h = ap (λ t. t && eqb (length cells) (cells_size tree)) h
