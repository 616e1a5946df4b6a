-- docs/FORMATS.md, Cells: the lent form of cells, and the cells that lent bytes stand for.
use Rattle.std.specs.Prelude.{ℕ, ◌+◌, ◌*◌, ◌/◌, Bool, true, false, cond, List, [], ◌∷◌, ◌++◌, length, get_or, eqb, ltb}
use Rattle.std.proofs.Math.Option.{Option, none, some}
use Rattle.protocol.specs.Bytes.{word}
use Rattle.protocol.specs.Buffer.{put_at}
use Rattle.protocol.specs.Tree.{Cell}
use Rattle.tree.specs.Seen.{word_at, records_from, same}

abbrev pub cell_size : ℕ
cell_size = 5

-- The mark: 1 ready, 0 not.
abbrev pub mark_of : Bool → ℕ
mark_of true = 1
mark_of false = 0

-- A cell: its word, and its mark.
unfoldable pub cell_form : Cell → List ℕ
cell_form c = word c.word ++ mark_of c.ready ∷ []

unfoldable pub cells_form : List Cell → List ℕ
cells_form [] = []
cells_form (c ∷ cs) = cell_form c ++ cells_form cs

-- What is seen in bytes, whatever they are.
unfoldable pub cell_seen : List ℕ → Cell
cell_seen r = record { word = word_at 0 r; ready = eqb (get_or r 4 0) 1 }

-- As many cells as there are bytes for.
unfoldable pub cells_in : List ℕ → List Cell
cells_in bs = records_from cell_size cell_seen (length bs / cell_size) bs

-- Bytes have a form where they are the form of the cells that are seen in them, and then they stand for these.
unfoldable pub has_cells : List ℕ → Bool
has_cells bs = same bs (cells_form (cells_in bs))

unfoldable pub cells_of : List ℕ → Option (List Cell)
cells_of bs = cond (has_cells bs) (some (cells_in bs)) none

-- Bytes with another word, or another mark, in the cell at a place; as they were where there is no such cell.
unfoldable pub with_word : ℕ → ℕ → List ℕ → List ℕ
with_word place w bs = cond (ltb place (length bs / cell_size)) (put_at (place * cell_size) (word w) bs) bs

unfoldable pub with_mark : ℕ → Bool → List ℕ → List ℕ
with_mark place ready bs =
    cond (ltb place (length bs / cell_size)) (put_at (place * cell_size + 4) (mark_of ready ∷ []) bs) bs
