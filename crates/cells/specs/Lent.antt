-- What the calls of this crate hand back.
use Rattle.std.specs.Prelude.{ℕ, ◌≡◌, Bool, cond, ◌&&◌, List, length, eqb, ltb}
use Rattle.std.proofs.Math.Option.{Option, none, some}
use Rattle.protocol.specs.Numbers.{done, unsound, no_such_property, no_reading}
use Rattle.protocol.specs.Tree.{property_in, cell_in, reading, restored, post}
use Rattle.tree.specs.Seen.{seen}
use Rattle.soundness.specs.Sound.{is_tree}
use Rattle.cells.specs.Cells.{cells_form, cells_in, has_cells}

-- 01, Numbers returned, row 1: bytes stand for a sound tree, and others for cells, one for each property.
unfoldable pub is_lent : List ℕ → List ℕ → Bool
is_lent tree cells =
    is_tree tree && (has_cells cells && eqb (length (cells_in cells)) (length (seen tree).properties))

unfoldable pub lent_number : List ℕ → List ℕ → ℕ
lent_number tree cells = cond (is_lent tree cells) done unsound

-- What a call that changes cells gives: the number, and every byte of the cells afterwards.
pub record Update : Type 0 where
  pub number : ℕ
  pub bytes : List ℕ

-- A posting.
unfoldable pub post_in : List ℕ → List ℕ → ℕ → ℕ → Bool → Update
post_in tree cells place w ready =
    cond (is_lent tree cells)
    (record {
      number = (post (seen tree) (cells_in cells) place w ready).number;
      bytes = cells_form (post (seen tree) (cells_in cells) place w ready).cells;
    })
    (record { number = unsound; bytes = cells })

-- Saved cells lent again.
unfoldable pub restore_in : List ℕ → List ℕ → Update
restore_in tree cells =
    cond (is_lent tree cells)
    (record { number = done; bytes = cells_form (restored (seen tree).properties (cells_in cells)) })
    (record { number = unsound; bytes = cells })

pub record Updates (what : Update) (n : ℕ) (cells : List ℕ) : Type 0 where
  pub number : n ≡ what.number
  pub bytes : cells ≡ what.bytes

-- House: a reading asked for by place, by 01's rows 1 and 12 (it has no number to read), with 02, section 7's 16 (no property has the
-- place) between them; else 0 and the number.
pub record Read : Type 0 where
  pub number : ℕ
  pub word : Option ℕ

abbrev pub read_of : Option ℕ → Read
read_of none = record { number = no_reading; word = none }
read_of (some n) = record { number = done; word = some n }

unfoldable pub read_in : List ℕ → List ℕ → ℕ → Read
read_in tree cells place =
    cond (is_lent tree cells)
    (cond (ltb place (length (seen tree).properties))
    (read_of (reading (property_in (seen tree) place) (cell_in (cells_in cells) place)))
    (record { number = no_such_property; word = none }))
    (record { number = unsound; word = none })

-- The word that is handed back; where there is none, what lay there stays.
abbrev pub or_else : ℕ → Option ℕ → ℕ
or_else old none = old
or_else old (some n) = n

pub record Reads (what : Read) (old n word : ℕ) : Type 0 where
  pub number : n ≡ what.number
  pub word_is : word ≡ or_else old what.word
