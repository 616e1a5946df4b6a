-- 01, Bench tree and its cases: what the bench program does with a part of its input.
use Rattle.std.specs.Prelude.{ℕ, ◌≡◌, cond, true, List, [], length, eqb, ltb}
use Rattle.protocol.specs.Numbers.{done, no_frame, room_data}
use Rattle.protocol.specs.Frame.{write_frame}
use Rattle.protocol.specs.Buffer.{over}
use Rattle.protocol.specs.Bench.{bench_tree}
use Rattle.stream.specs.Feed.{FedBy, fed}
use Rattle.tree.specs.Form.{tree_form}
use Rattle.answer.specs.Serve.{Service, serve_data}
use Rattle.console.specs.Lines.{lines}

-- The box's address.
abbrev pub bench_address : ℕ
bench_address = 0

-- The room for the two lines of a frame: 18 characters, and the 520 bytes of the longest serial reply in hex.
abbrev pub text_room : ℕ
text_room = 1058

-- A frame's data served over the bench tree, host functions on.
unfoldable pub served : List ℕ → List ℕ → Service
served bs cells = serve_data room_data bs true (tree_form bench_tree) cells

-- The serial reply, empty where there is none.
abbrev pub serial_reply : List ℕ → List ℕ
serial_reply reply = (write_frame bench_address reply).payload

abbrev pub served_lines : Service → List ℕ
served_lines s = lines s.number (serial_reply s.written)

-- What a step gives: how many bytes it took, the lines it writes, and every byte of stream state and cells afterwards.
pub record Stepped : Type 0 where
  pub taken : ℕ
  pub shown : List ℕ
  pub state : List ℕ
  pub cells : List ℕ

-- A good frame is served; another number is shown with no reply; and where no frame ended nothing is.
unfoldable pub shows : FedBy → List ℕ → Stepped
shows f cells =
    cond (eqb f.number no_frame)
    (record { taken = f.taken; shown = []; state = f.state; cells = cells })
    (cond (eqb f.number done)
    (record { taken = f.taken; shown = served_lines (served f.payload cells); state = f.state; cells = (served f.payload cells).cells })
    (record { taken = f.taken; shown = lines f.number []; state = f.state; cells = cells }))

unfoldable pub stepped : ℕ → List ℕ → List ℕ → List ℕ → Stepped
stepped room state cells bytes =
    cond (ltb room text_room)
    (record { taken = 0; shown = []; state = state; cells = cells })
    (shows (fed bench_address state bytes room_data) cells)

-- The promise of `step`.
pub record Steps (what : Stepped) (old : List ℕ) (count size : ℕ) (state' cells' new : List ℕ) : Type 0 where
  pub taken : count ≡ what.taken
  pub len : size ≡ length what.shown
  pub state : state' ≡ what.state
  pub cells : cells' ≡ what.cells
  pub bytes : new ≡ over what.shown old
