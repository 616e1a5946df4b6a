-- Lent forms and what is served from them: every sound tree, with every state of its cells, can be lent and is answered by the
-- rules; and nothing else is served.
use Rattle.std.specs.Prelude.{ℕ, ◌≤◌, ◌↔◌, ◌≡◌, Bool, true, List}
use Rattle.protocol.specs.Numbers.{room_data, room_udp, room_serial}
use Rattle.protocol.specs.Bytes.{Bytes}
use Rattle.protocol.specs.Frame.{Sized, frame, datagram}
use Rattle.protocol.specs.Tree.{Tree, Cell, sound, cells_sound}
use Rattle.protocol.specs.Answer.{Answer, answer}
use Rattle.tree.specs.Form.{tree_form}
use Rattle.tree.specs.Seen.{seen}
use Rattle.cells.specs.Cells.{cells_form, cells_in}
use Rattle.cells.specs.Lent.{is_lent}
use Rattle.answer.specs.Serve.{in_form, serve_data, serve_serial, serve_udp}

-- Data served from the lent forms of a tree and its cells, by each transport with room enough: an answer, its reply in the form of
-- the transport. (A string or datagram that is received with 0 is the frame or datagram of its data.)
pub record ServedAs (t : Tree) (cs : List Cell) (host : Bool) (bs : List ℕ) (a : Answer) : Type 0 where
  pub as_data : (room : ℕ) → room_data ≤ room → serve_data room bs host (tree_form t) (cells_form cs) ≡ in_form (λ reply. reply) a
  pub by_serial : (address room : ℕ) → room_serial ≤ room
      → serve_serial address room (frame address bs) host (tree_form t) (cells_form cs) ≡ in_form (frame address) a
  pub by_udp : (room : ℕ) → room_udp ≤ room → serve_udp room (datagram bs) host (tree_form t) (cells_form cs) ≡ in_form datagram a

-- A tree and cells that can be lent: their forms pass the check, read back, and are answered by the rules.
pub record ServesForms (t : Tree) (cs : List Cell) : Type 0 where
  pub lent : is_lent (tree_form t) (cells_form cs) ≡ true
  pub tree_back : seen (tree_form t) ≡ t
  pub cells_back : cells_in (cells_form cs) ≡ cs
  pub serves : (host : Bool) (bs : List ℕ) → Sized bs → ServedAs t cs host bs (answer t cs host bs)

-- Bytes that are the forms of a sound tree and of cells that fit it.
pub record AreForms (tree cells : List ℕ) : Type 0 where
  pub t : Tree
  pub cs : List Cell
  pub tree_sound : sound t ≡ true
  pub cells_sound_lem : cells_sound t cs ≡ true
  pub tree_form_lem : tree ≡ tree_form t
  pub cells_form_lem : cells ≡ cells_form cs

-- Forms and answers: every sound tree with cells that fit it is served from its form by the rules, and bytes are lent exactly where
-- they are such forms.
pub record FormsAnswered : Type 0 where
  pub served : (t : Tree) (cs : List Cell) → sound t ≡ true → cells_sound t cs ≡ true → ServesForms t cs
  pub lent_exactly : (tree cells : List ℕ) → Bytes cells → (is_lent tree cells ≡ true) ↔ AreForms tree cells
