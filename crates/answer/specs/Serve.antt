-- 01, Numbers returned: a serving call, whatever it is lent.
use Rattle.std.specs.Prelude.{ℕ, ◌≤◌, ◌≡◌, Bool, true, cond, List, [], length, eqb, ltb}
use Rattle.std.proofs.Math.Option.{Option, none, some}
use Rattle.protocol.specs.Numbers.{done, unsound, no_room, no_action, room_data, room_udp, room_serial}
use Rattle.protocol.specs.Frame.{Received, received, frame, datagram, if_sized, read_frame, read_datagram}
use Rattle.protocol.specs.Buffer.{over}
use Rattle.protocol.specs.Answer.{Answer, answer}
use Rattle.tree.specs.Seen.{seen}
use Rattle.cells.specs.Cells.{cells_form, cells_in}
use Rattle.cells.specs.Lent.{is_lent}

-- What a serving call gives: the number, what it writes to the front of the output, every byte of the cells, the place of the
-- property whose action is to be taken, and (02, section 7) the length of the part of the path that no node has.
pub record Service : Type 0 where
  pub number : ℕ
  pub written : List ℕ
  pub cells : List ℕ
  pub action : Option ℕ
  pub missing : ℕ

-- Rows 1 to 8: nothing is written, and no cell changes.
abbrev pub rejected : List ℕ → ℕ → Service
rejected cells n = record { number = n; written = []; cells = cells; action = none; missing = 0 }

-- An answer, its reply in the form of its transport.
abbrev pub in_form : (List ℕ → List ℕ) → Answer → Service
in_form form a =
    record { number = a.number; written = form a.reply; cells = cells_form a.cells; action = a.action; missing = a.missing }

-- The order of all serving calls: 1, 8, then the rows of what was received, then those of the answer.
unfoldable pub serve : (List ℕ → List ℕ) → ℕ → ℕ → Received → Bool → List ℕ → List ℕ → Service
serve form least room r host tree cells =
    cond (is_lent tree cells)
    (cond (ltb room least)
    (rejected cells no_room)
    (cond (eqb r.number done)
    (in_form form (answer (seen tree) (cells_in cells) host r.payload))
    (rejected cells r.number)))
    (rejected cells unsound)

-- What a serving call is lent, and what it gives.
pub record Call : Type 0 where
  pub form : List ℕ → List ℕ
  pub least : ℕ
  pub room : ℕ
  pub string : Received
  pub host : Bool
  pub tree : List ℕ
  pub cells : List ℕ

abbrev pub serving : Call → Service
serving k = serve k.form k.least k.room k.string k.host k.tree k.cells

-- A call that is lent a sound tree with its cells, and room enough: neither 1 nor 8.
pub record Open (k : Call) : Type 0 where
  pub lent : is_lent k.tree k.cells ≡ true
  pub roomy : k.least ≤ k.room

-- The three transports: request data, a serial string for the box's address, a datagram. A serial reply carries that address.
abbrev pub data_call : ℕ → List ℕ → Bool → List ℕ → List ℕ → Call
data_call room bs host tree cells =
    record {
      form = λ reply. reply;
      least = room_data;
      room = room;
      string = if_sized bs (received bs);
      host = host;
      tree = tree;
      cells = cells;
    }

abbrev pub serial_call : ℕ → ℕ → List ℕ → Bool → List ℕ → List ℕ → Call
serial_call address room s host tree cells =
    record {
      form = frame address;
      least = room_serial;
      room = room;
      string = read_frame address s;
      host = host;
      tree = tree;
      cells = cells;
    }

abbrev pub udp_call : ℕ → List ℕ → Bool → List ℕ → List ℕ → Call
udp_call room s host tree cells =
    record {
      form = datagram;
      least = room_udp;
      room = room;
      string = read_datagram s;
      host = host;
      tree = tree;
      cells = cells;
    }

abbrev pub serve_data : ℕ → List ℕ → Bool → List ℕ → List ℕ → Service
serve_data room bs host tree cells = serving (data_call room bs host tree cells)

abbrev pub serve_serial : ℕ → ℕ → List ℕ → Bool → List ℕ → List ℕ → Service
serve_serial address room s host tree cells = serving (serial_call address room s host tree cells)

abbrev pub serve_udp : ℕ → List ℕ → Bool → List ℕ → List ℕ → Service
serve_udp room s host tree cells = serving (udp_call room s host tree cells)

-- House: an action is told by its property's place.
abbrev pub action_number : Option ℕ → ℕ
action_number none = no_action
action_number (some place) = place

-- What a serving call hands back and leaves: its number, the length of what it wrote, the action's property, the length of the part
-- that no node has, every byte of the cells and of the output.
pub record Serves (what : Service) (out : List ℕ) (n size action missing : ℕ) (cells' out' : List ℕ) : Type 0 where
  pub number : n ≡ what.number
  pub len : size ≡ length what.written
  pub acts : action ≡ action_number what.action
  pub tells : missing ≡ what.missing
  pub cells : cells' ≡ what.cells
  pub bytes : out' ≡ over what.written out
