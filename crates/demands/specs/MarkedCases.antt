-- 01, Bench tree and its cases: the marked cases, served from the bytes of the bench tree and its cells. (They are what
-- `tree::bench::tree` and `cells::bench::cells` return.)
use Rattle.std.specs.Prelude.{◌≡◌, true, List, [], ◌∷◌}
use Rattle.protocol.specs.Frame.{write_frame}
use Rattle.protocol.specs.Bench.{bench_tree, bench_cells}
use Rattle.protocol.specs.Marked.{Row, ask, write}
use Rattle.demands.specs.Forms.{ServedAs}

-- A row of data is served, by each transport, as the row shows; a row of a frame is written so.
abbrev pub Holds : Row → Type 0
Holds (ask bs expected) = ServedAs bench_tree bench_cells true bs expected
Holds (write address bs expected) = write_frame address bs ≡ expected

abbrev pub AllHold : List Row → Type 0
AllHold [] = Unit {0}
AllHold (row ∷ rows) = Holds row × AllHold rows
