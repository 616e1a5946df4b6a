-- Readings asked for by place, and cells restored.
use Rattle.std.specs.Prelude.{ℕ, ◌≡◌, true, false, List}
use Rattle.protocol.specs.Numbers.{done}
use Rattle.protocol.specs.Bytes.{Bytes}
use Rattle.protocol.specs.Tree.{is_live, property_in, cell_in, readable}
use Rattle.tree.specs.Seen.{seen}
use Rattle.cells.specs.Cells.{cells_in}

-- A reading asked for by place: with 0 it is the word of a property that has a number to read; with any other number, and for a
-- live probe that is not ready always, what lay at the lent place stays.
pub record ReadingKept (tree cells : List ℕ) (place old n word : ℕ) : Type 0 where
  pub refusals : (n ≡ done → ⊥) → word ≡ old
  pub numbers : n ≡ done
      → (readable (property_in (seen tree) place) (cell_in (cells_in cells) place) ≡ true) × (word ≡ (cell_in (cells_in cells) place).word)
  pub open_probes : is_live (property_in (seen tree) place) ≡ true → (cell_in (cells_in cells) place).ready ≡ false → (n ≡ done → ⊥) × (word ≡ old)

-- Saved cells lent again: 1 changes no cell; with 0 no live property is ready, its word stays, and so does every other cell.
pub record RestoreKept (tree cells : List ℕ) (n : ℕ) (cells' : List ℕ) : Type 0 where
  pub refusals : (n ≡ done → ⊥) → cells' ≡ cells
  pub live : Bytes cells → n ≡ done → (place : ℕ) → is_live (property_in (seen tree) place) ≡ true
      → cell_in (cells_in cells') place ≡ record { word = (cell_in (cells_in cells) place).word; ready = false }
  pub others : Bytes cells → n ≡ done → (place : ℕ) → is_live (property_in (seen tree) place) ≡ false
      → cell_in (cells_in cells') place ≡ cell_in (cells_in cells) place
