-- The marked cases over the calls, as one statement.
-- Assumes nothing.
use mathlib.Core.Path.{◌≡◌, refl, subst}
use mathlib.Core.Bool.{Bool, true}
use mathlib.Core.List.{List, [], ◌∷◌, map}
use borrow.Author.Tests.{eqb-true}
use lib.ListN.{length}
use lib.Dec.{eqb}
use Rattle.protocol.specs.Numbers.{done}
use Rattle.protocol.specs.Bytes.{every}
use Rattle.protocol.specs.Frame.{size_number}
use Rattle.protocol.specs.Answer.{answer}
use Rattle.protocol.specs.Bench.{bench_tree, bench_cells}
use Rattle.protocol.specs.Marked.{Row, ask, write, result, marked_cases}
use Rattle.protocol.proofs.TestLaws.{and_left, and_right}
use Rattle.protocol.proofs.FrameLaws.{size_only}
use Rattle.protocol.proofs.RuleLaws.{bench_sound, bench_cells_sound}
use Rattle.protocol.proofs.Marked.{marked_cases_lem}
use Rattle.demands.specs.Forms.{ServedAs}
use Rattle.demands.specs.MarkedCases.{Holds, AllHold}
use Rattle.demands.proofs.Forms.{forms_served}

-- The data of each row has 1 to 256 bytes.
unfoldable sized_row : Row → Bool
sized_row (ask bs expected) = eqb (size_number (length bs)) done
sized_row (write address bs expected) = true

all_sized : every sized_row marked_cases ≡ true
unfolding every sized_row size_number marked_cases
all_sized = refl

row_holds : (row : Row) → result row ≡ row → sized_row row ≡ true → Holds row
unfolding result sized_row
row_holds (ask bs expected) e h =
    let is : answer bench_tree bench_cells true bs ≡ expected = cc in
    subst (ServedAs bench_tree bench_cells true bs) is
    ((forms_served bench_tree bench_cells bench_sound bench_cells_sound).serves true bs (size_only bs (eqb-true (size_number (length bs)) done h)))
row_holds (write address bs expected) e h = cc

all_hold : (rows : List Row) → map result rows ≡ rows → every sized_row rows ≡ true → AllHold rows
unfolding every
all_hold [] e h = tt
all_hold (row ∷ rows) e h =
    let first : result row ≡ row = cc in
    let rest : map result rows ≡ rows = cc in
    (row_holds row first (and_left (sized_row row) _ h), all_hold rows rest (and_right (sized_row row) _ h))

pub marked_cases_served : AllHold marked_cases
marked_cases_served = all_hold marked_cases marked_cases_lem all_sized
