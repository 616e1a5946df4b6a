-- 01, The stream: lists of deliveries to the stream reader.
use Rattle.std.specs.Prelude.{ℕ, ◌+◌, ◌≤◌, ◌≡◌, Bool, true, cond, ◌||◌, List, [], ◌∷◌, ◌++◌, length, take, eqb}
use Rattle.protocol.specs.Numbers.{done, unsound, no_room, no_frame}
use Rattle.protocol.specs.Frame.{frame, Sized}
use Rattle.protocol.specs.Stream.{begin, HandedUp, handed_up}
use Rattle.stream.specs.State.{has_form, standing}
use Rattle.stream.specs.Feed.{fed, Feeds}

-- One delivery: a call with any bytes and any lent output, what it returned, and what it left in output and state.
pub record Delivery : Type 0 where
  pub bytes : List ℕ
  pub lent : List ℕ
  pub number : ℕ
  pub taken : ℕ
  pub len : ℕ
  pub out : List ℕ
  pub state : List ℕ

-- The call meets the promise of `feed`, for an address and a lent state.
abbrev pub Meets : ℕ → List ℕ → Delivery → Type 0
Meets address state d =
    Feeds (fed address state d.bytes (length d.lent)) d.lent d.number d.taken d.len d.state d.out

-- Each call meets the promise; the first is lent a state, each later one the state that the call before left.
abbrev pub Deliveries : ℕ → List ℕ → List Delivery → Type 0
Deliveries address state [] = Unit {0}
Deliveries address state (d ∷ ds) = Meets address state d × Deliveries address d.state ds

-- A state that stands for the beginning of a stream, whatever lies behind its first three bytes.
pub record Begins (state : List ℕ) : Type 0 where
  pub form : has_form state ≡ true
  pub outside : standing state ≡ begin

-- The bytes taken by a call, and by all calls, joined in order.
abbrev pub took : Delivery → List ℕ
took d = take d.taken d.bytes

unfoldable pub joined : List Delivery → List ℕ
joined [] = []
joined (d ∷ ds) = took d ++ joined ds

-- What a call handed up, by what it returned: nothing with 255, nor with the refusals 1 and 8; else its number, and the front
-- of the output, of the length returned. `before` is how many bytes were taken before the call.
abbrev pub ends_no_frame : ℕ → Bool
ends_no_frame n = eqb n no_frame || (eqb n no_room || eqb n unsound)

abbrev pub entry : ℕ → Delivery → HandedUp
entry before d =
    record { frame = record { number = d.number; payload = take d.len d.out }; end = before + d.taken }

unfoldable pub handed_by : ℕ → List Delivery → List HandedUp
handed_by before [] = []
handed_by before (d ∷ ds) = cond (ends_no_frame d.number) [] (entry before d ∷ []) ++ handed_by (before + d.taken) ds

-- A frame handed up by a call (number 0), at the end of the bytes taken so far: the written frame, for the address, of the
-- data handed up with it, which begins after the last frame handed up ended.
pub record Stands (address : ℕ) (past : List ℕ) (last : ℕ) (payload : List ℕ) : Type 0 where
  pub before : List ℕ
  pub unbroken : past ≡ before ++ frame address payload
  pub later : last ≤ length before
  pub size : Sized payload

-- Every frame handed up stands so. `past` is what was taken before, `last` the end of the frame handed up before.
abbrev pub AllStand : ℕ → List ℕ → ℕ → List Delivery → Type 0
AllStand address past last [] = Unit {0}
AllStand address past last (d ∷ ds) =
    (d.number ≡ done → Stands address (past ++ took d) last (take d.len d.out))
    × AllStand address (past ++ took d) (cond (eqb d.number done) (length (past ++ took d)) last) ds

-- No call is refused with 1.
abbrev pub NoneUnsound : List Delivery → Type 0
NoneUnsound [] = Unit {0}
NoneUnsound (d ∷ ds) = (d.number ≡ unsound → ⊥) × NoneUnsound ds

-- The state after the last call.
abbrev pub state_after : List ℕ → List Delivery → List ℕ
state_after state [] = state
state_after state (d ∷ ds) = state_after d.state ds

-- Demand 3 of document 01 on streams, in one statement about a list of deliveries.
pub record Delivered (address : ℕ) (ds : List Delivery) : Type 0 where
  pub in_order : handed_by 0 ds ≡ handed_up address (joined ds)
  pub frames : AllStand address [] 0 ds
  pub sound : NoneUnsound ds
