-- The bench cells, as they are lent, stand for those of document 01.
-- Assumes nothing.
use mathlib.Core.Path.{◌≡◌}
use mathlib.Core.Option.{some}
use Rattle.protocol.specs.Bench.{bench_tree, bench_cells}
use Rattle.protocol.proofs.RuleLaws.{bench_cells_sound}
use Rattle.cells.specs.Cells.{cells_form, cells_of}
use Rattle.cells.proofs.CellLaws.{cells_back_in}

pub bench_cells_lem : cells_of (cells_form bench_cells) ≡ some bench_cells
bench_cells_lem = cells_back_in bench_tree bench_cells bench_cells_sound
