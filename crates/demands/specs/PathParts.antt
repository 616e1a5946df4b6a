-- 02, section 7, which part of the path: the three numbers, the length that is told, and that hosts notice nothing.
use Rattle.std.specs.Prelude.{ℕ, ◌<◌, ◌≤◌, ◌≡◌, Bool, true, List, [], ◌∷◌, ◌↔◌, length}
use Rattle.std.proofs.Math.Option.{none, some}
use Rattle.protocol.specs.Numbers.{done, bad_parameter, no_such_node, no_such_property, ERROR, op_detect, op_node}
use Rattle.protocol.specs.Buffer.{over}
use Rattle.protocol.specs.Request.{Request, read_request}
use Rattle.protocol.specs.Tree.{Tree, property_of, node_at}
use Rattle.protocol.specs.Path.{FirstMissing, Failure, number01}
use Rattle.protocol.specs.Answer.{ReadAs, outcome, answer_by}
use Rattle.tree.specs.Seen.{seen}
use Rattle.cells.specs.Cells.{cells_in}
use Rattle.cells.specs.Lent.{is_lent, Reads, read_in}
use Rattle.answer.specs.Serve.{Service, Call, Open, in_form, serving, data_call, serial_call, udp_call, Serves}
use Rattle.demands.specs.Serving.{tree_in}

-- A call that is refused with none of rows 1 to 9, and one that is a request with a path.
pub record Admitted (k : Call) : Type 0 where
  pub opens : Open k
  pub received : k.string.number ≡ done
  pub host_on : k.host ≡ true

pub record LooksUp (k : Call) (r : Request) : Type 0 where
  pub admitted : Admitted k
  pub asks : ReadAs k.string.payload r
  pub has_path : op_detect < r.op

-- A node has the path of a request for a property, and no property with the index.
pub record NoProperty (t : Tree) (r : Request) : Type 0 where
  pub for_property : op_node < r.op
  pub node : ℕ
  pub at_node_lem : node_at t r.path ≡ some node
  pub no_property_case : property_of t node (record { 0 = r.index }) ≡ none

-- A request of which a length is told: the first part of its path that no node has.
pub record PartTold (k : Call) (len : ℕ) : Type 0 where
  pub request : Request
  pub asks : ReadAs k.string.payload request
  pub first : FirstMissing (tree_in k) request.path len

-- What a call keeps that hands back a number and a length, and leaves these cells and this output.
pub record PathServed (k : Call) (out : List ℕ) (n missing : ℕ) (cells' out' : List ℕ) : Type 0 where
  -- 11 for shape alone, 15 exactly when no node has the path, 16 exactly when one has it and has no such property.
  pub shape : Admitted k → (n ≡ bad_parameter) ↔ ((read_request k.string.payload).number ≡ bad_parameter)
  pub no_node_case : (r : Request) → LooksUp k r → (n ≡ no_such_node) ↔ (node_at (tree_in k) r.path ≡ none)
  pub no_property_case : (r : Request) → LooksUp k r → (n ≡ no_such_property) ↔ NoProperty (tree_in k) r
  -- 15 tells the length of the shortest front part that no node has; every other number tells 0.
  pub told : n ≡ no_such_node → PartTold k missing
  pub told_0 : (n ≡ no_such_node → ⊥) → missing ≡ 0
  -- 11, 15 and 16 write 54 and change no cell.
  pub code : number01 n ≡ bad_parameter → (out' ≡ over (k.form (ERROR ∷ [])) out) × (cells' ≡ k.cells)

-- Document 01's numbering, 11 wherever a lookup fails; and what a call gives with its number put so, all else as it is.
abbrev pub failure01 : Failure → ℕ
failure01 f = bad_parameter

abbrev pub renumbered : Service → Service
renumbered s =
    record { number = number01 s.number; written = s.written; cells = s.cells; action = s.action; missing = s.missing }

pub record PathsKeep : Type 0 where
  pub by_data : (room : ℕ) (bs : List ℕ) (host : Bool) (tree cells : List ℕ) {out cells' out' : List ℕ} {n size action missing : ℕ}
      → Serves (serving (data_call room bs host tree cells)) out n size action missing cells' out'
      → PathServed (data_call room bs host tree cells) out n missing cells' out'
  pub by_serial : (address room : ℕ) (s : List ℕ) (host : Bool) (tree cells : List ℕ) {out cells' out' : List ℕ}
      {n size action missing : ℕ} → Serves (serving (serial_call address room s host tree cells)) out n size action missing cells' out'
      → PathServed (serial_call address room s host tree cells) out n missing cells' out'
  pub by_udp : (room : ℕ) (s : List ℕ) (host : Bool) (tree cells : List ℕ) {out cells' out' : List ℕ} {n size action missing : ℕ}
      → Serves (serving (udp_call room s host tree cells)) out n size action missing cells' out'
      → PathServed (udp_call room s host tree cells) out n missing cells' out'
  -- Hosts notice nothing: a call that is refused with none of rows 1 to 8 gives, by the numbering of document 01, what it gave before.
  pub unnoticed : (k : Call) → Open k → k.string.number ≡ done
      → renumbered (serving k)
      ≡ in_form k.form (answer_by outcome failure01 (tree_in k) (cells_in k.cells) k.host k.string.payload)
  -- A reading asked for by place: 16 exactly when the tree has no property there.
  pub readings : (tree cells : List ℕ) (place old : ℕ) {n word : ℕ} → is_lent tree cells ≡ true → Reads (read_in tree cells place) old n word
      → (n ≡ no_such_property) ↔ (length (seen tree).properties ≤ place)
