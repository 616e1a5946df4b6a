-- `cells::bench::cells` meets its contract. Assumes nothing.
use mathlib.Core.Path.{refl}
use Rattle.protocol.specs.Bytes.{word}
use Rattle.protocol.specs.Bench.{bench_cells}
use Rattle.cells.specs.Cells.{cell_form, cells_form}
use Rattle.cells.proofs.bench.cells.Goals as goal

pub returns : goal.returns
unfolding cells_form cell_form word bench_cells
returns c = refl
