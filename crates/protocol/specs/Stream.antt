-- 01, The stream, as 02, section 2, amends it: what a reader of bytes hands up.
use Rattle.std.specs.Prelude.{ℕ, suc, Bool, true, false, cond, List, [], ◌∷◌, ◌++◌, length, replicate, eqb, ltb}
use Rattle.protocol.specs.Numbers.{bad_pair, too_long, STX, ETX, DLE, max_content}
use Rattle.protocol.specs.Frame.{Received, refused, judge}

-- Where a reader stands: outside a frame, or inside one with the content since its 10 02. The Bool: a 10h waits for the
-- other byte of its pair.
pub data Stream : Type 0 where
  outside : Bool → Stream
  inside : Bool → List ℕ → Stream

-- Where a stream begins.
abbrev pub begin : Stream
begin = outside false

-- What one byte brings about: nothing, a frame closed with its content, or one dropped, for a pair (3) or its length (5).
pub data Event : Type 0 where
  nothing : Event
  closed : List ℕ → Event
  dropped_pair : Event
  dropped_long : Event

pub record Step : Type 0 where
  pub event : Event
  pub after : Stream

abbrev pub on : Stream → Step
on s = record { event = nothing; after = s }

-- A close or a drop leaves the reader outside.
abbrev pub ends : Event → Step
ends e = record { event = e; after = begin }

-- One content byte more: 258 are kept, and one beyond them drops the frame.
unfoldable pub collect : List ℕ → ℕ → Step
collect content b = cond (ltb (length content) max_content) (on (inside false (content ++ b ∷ []))) (ends dropped_long)

-- One byte. Outside, 10 02 opens a frame, and a 10h waits, also one behind another (02, section 2). Inside, a lone byte is
-- content; of the pairs 10 10 is a content byte 10h, 10 03 closes, 10 02 begins the frame anew, and every other one drops it.
unfoldable pub step : Stream → ℕ → Step
step (outside false) b = on (outside (eqb b DLE))
step (outside true) b = on (cond (eqb b STX) (inside false []) (outside (eqb b DLE)))
step (inside false content) b = cond (eqb b DLE) (on (inside true content)) (collect content b)
step (inside true content) b =
    cond (eqb b DLE)
    (collect content DLE)
    (cond (eqb b ETX) (ends (closed content)) (cond (eqb b STX) (on (inside false [])) (ends dropped_pair)))

-- 02, section 2: a run of stray 10h.
abbrev pub strays : ℕ → List ℕ
strays n = replicate n DLE

-- Where the reader stands after some bytes.
unfoldable pub after : Stream → List ℕ → Stream
after s [] = s
after s (b ∷ bs) = after (step s b).after bs

-- A frame or number handed up: its number, with 0 its data, and how many bytes of the stream were read by its end.
pub record HandedUp : Type 0 where
  pub frame : Received
  pub end : ℕ

-- What an event hands up, for an address: one entry for a closed or dropped frame.
unfoldable pub hand_up : ℕ → ℕ → Event → List HandedUp
hand_up address end nothing = []
hand_up address end (closed content) = record { frame = judge address content; end = end } ∷ []
hand_up address end dropped_pair = record { frame = refused bad_pair; end = end } ∷ []
hand_up address end dropped_long = record { frame = refused too_long; end = end } ∷ []

-- The frames and numbers handed up, in order, from a state in which `read` bytes of the stream were read.
unfoldable pub handed_up_from : ℕ → Stream → ℕ → List ℕ → List HandedUp
handed_up_from address s read [] = []
handed_up_from address s read (b ∷ bs) =
    hand_up address (suc read) (step s b).event ++ handed_up_from address (step s b).after (suc read) bs

-- The stream rule: for an address and the bytes of a stream from its beginning.
abbrev pub handed_up : ℕ → List ℕ → List HandedUp
handed_up address bs = handed_up_from address begin 0 bs
