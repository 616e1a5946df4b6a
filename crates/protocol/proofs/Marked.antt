-- The marked cases of document 01, as one statement.
-- Assumes nothing.
use mathlib.Core.Path.{◌≡◌, refl}
use mathlib.Core.List.{map}
use Rattle.protocol.specs.Bytes.{every, half, word, number_after, text, texts, sum, ordered, at_most}
use Rattle.protocol.specs.Frame.{double, checksum, content_of, wrap, frame, size_number, if_sized}
use Rattle.protocol.specs.Request.{is_path, fits, asked_if, before_zero, read_indexed, read_valued, read_shape, read_request}
use Rattle.protocol.specs.Tree.{places_from, numbered, children_of, properties_of, descend, node_at, readable}
use Rattle.protocol.specs.Path.{missing_from, failure_number, failure_length}
use Rattle.protocol.specs.Signed.{number_of, integer_of}
use Rattle.protocol.specs.Step.{steps, step_of, distance, step_start, on_step}
use Rattle.protocol.specs.Answer.{in_range, outcome, save_byte, reason, write_number, cells_after, action_of, node_reply, record_reply, read_reply, write_reply, refusal_code, on_read, on_write, on_property, if_property, if_node, perform, if_asked, answer_by}
use Rattle.protocol.specs.Bench.{bench_tree, bench_cells}
use Rattle.protocol.specs.Marked.{result, marked_cases}

-- Every row is as the rules give it: number, reply, cells, action and length, or the frame.
pub marked_cases_lem : map result marked_cases ≡ marked_cases
unfolding every half word number_after text texts sum ordered at_most double checksum content_of wrap frame size_number if_sized is_path fits asked_if before_zero read_indexed read_valued read_shape read_request places_from numbered children_of properties_of descend node_at missing_from readable number_of integer_of steps step_of distance step_start on_step in_range outcome save_byte reason write_number cells_after action_of node_reply record_reply read_reply write_reply refusal_code failure_number failure_length on_read on_write on_property if_property if_node perform if_asked answer_by bench_tree bench_cells result marked_cases
marked_cases_lem = refl
