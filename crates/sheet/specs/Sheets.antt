-- 02, section 3: what writing and reading a sheet answers, for lent bytes.
use Rattle.std.specs.Prelude.{ℕ, cond, List, [], eqb}
use Rattle.protocol.specs.Numbers.{done, unsound}
use Rattle.protocol.specs.Frame.{Received}
use Rattle.protocol.specs.Sheet.{sheet, write_refusal, load}
use Rattle.tree.specs.Seen.{seen}
use Rattle.cells.specs.Cells.{cells_form, cells_in}
use Rattle.cells.specs.Lent.{is_lent, Update}

-- Writing: 1, 17, 18, or else the sheet. (8 is for the room, and comes behind these.)
unfoldable pub write_number : List ℕ → List ℕ → ℕ
write_number tree cells = cond (is_lent tree cells) (write_refusal (seen tree) (cells_in cells)) unsound

unfoldable pub written : List ℕ → List ℕ → Received
written tree cells =
    record {
      number = write_number tree cells;
      payload = cond (eqb (write_number tree cells) done) (sheet (seen tree) (cells_in cells)) [];
    }

-- Reading: 1, 17, 18, or else every setting's number stored.
unfoldable pub load_in : List ℕ → List ℕ → List ℕ → Update
load_in tree cells bs =
    cond (is_lent tree cells)
    (record {
      number = (load (seen tree) (cells_in cells) bs).number;
      bytes = cells_form (load (seen tree) (cells_in cells) bs).cells;
    })
    (record { number = unsound; bytes = cells })
