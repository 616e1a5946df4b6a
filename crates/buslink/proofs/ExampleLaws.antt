-- The rows of identifiers, and the data of the section's frame.
-- Assumes nothing.
use mathlib.Core.Path.{◌≡◌, refl}
use mathlib.Core.List.{map}
use Rattle.protocol.specs.Bench.{bench_tree, bench_cells}
use Rattle.protocol.specs.Tree.{places_from, live_of, numbered, readable, reading}
use Rattle.protocol.specs.Answer.{takes_sign}
use Rattle.protocol.specs.Signed.{number_of, word_for}
use Rattle.buslink.specs.Identifier.{is_station, is_indicator_type, identifier}
use Rattle.buslink.specs.Indicator.{bytes_of}
use Rattle.buslink.specs.Send.{probes_of, scaled, fits, valued, probe_indicator, indicator_of, data_of}
use Rattle.buslink.specs.Examples.{rows, computed, frame_data}

pub rows_hold : map computed rows ≡ rows
unfolding is_station is_indicator_type identifier
rows_hold = refl

pub bench_data : data_of bench_tree bench_cells 2 ≡ frame_data
unfolding data_of bytes_of indicator_of probes_of live_of places_from numbered probe_indicator reading readable valued scaled fits number_of word_for takes_sign bench_tree bench_cells
bench_data = refl
