-- No public promise is stated by these definitions: they follow the code step by step.
use Rattle.std.specs.Prelude.{ℕ, ◌+◌, ◌<◌, ◌≤◌, ◌≡◌, true, false, cond, List, length, take, drop, eqb, ltb, Option, Some, None, Result, Ok, Err}
use Rattle.std.proofs.Math.Option.{some}
use Rattle.protocol.specs.Numbers.{DLE, STX, ETX, max_content, room_data}
use Rattle.protocol.specs.declared.Refusal.{Refusal}
use Rattle.protocol.specs.declared.Refusal.TheVariants.{BadPair, TooLong}
use Rattle.protocol.specs.Frame.{if_room, judge_whole}
use Rattle.protocol.specs.Buffer.{Emits}
use Rattle.protocol.specs.Stream as rule
use Rattle.protocol.specs.Stream.{Stream, Event}
use Rattle.stream.specs.declared.state.Phase.{Phase}
use Rattle.stream.specs.declared.state.Phase.TheVariants.{Outside, OutsideWaiting, Inside, InsideWaiting}
use Rattle.stream.specs.declared.state.Place.{Place}
use Rattle.stream.specs.declared.feed.Run.{Run}
use Rattle.stream.specs.declared.feed.Move.{Move}
use Rattle.stream.specs.declared.feed.Move.TheVariants.{On, Keep, Closed, Dropped}
use Rattle.stream.specs.State.{state_length, content_in, keep, phase_in, length_in, has_form}
use Rattle.stream.specs.Feed.{Ran, fed_number, fed_length}

-- The number of a phase, and the phase of a number.
abbrev pub phase_number : Phase → ℕ
phase_number Outside = 0
phase_number OutsideWaiting = 1
phase_number Inside = 2
phase_number InsideWaiting = 3

abbrev pub IsPhase : ℕ → Option Phase → Type 0
IsPhase n (Some p) = n ≡ phase_number p
IsPhase n None = 3 < n

-- The phase of a place of the stream rule.
abbrev pub phase_at : Stream → Phase
phase_at (rule.outside false) = Outside
phase_at (rule.outside true) = OutsideWaiting
phase_at (rule.inside false c) = Inside
phase_at (rule.inside true c) = InsideWaiting

-- How many content bytes there may be.
abbrev pub most_of : Phase → ℕ
most_of Outside = 0
most_of OutsideWaiting = 0
most_of Inside = max_content
most_of InsideWaiting = max_content

-- A place, and the one that a state has in its first bytes.
abbrev pub place : Phase → ℕ → Place
place phase len = record { phase = phase; len = len }

pub record Stands (state : List ℕ) (p : Place) : Type 0 where
  pub form : has_form state ≡ true
  pub phase : phase_in state ≡ phase_number p.phase
  pub len : p.len ≡ length_in state

abbrev pub PlaceIs : List ℕ → Option Place → Type 0
PlaceIs state (Some p) = Stands state p
PlaceIs state None = has_form state ≡ false

-- One byte, from a phase and a number of content bytes.
unfoldable pub collect_of : ℕ → Move
collect_of len = cond (ltb len max_content) (Keep (place Inside (len + 1))) (Dropped TooLong)

unfoldable pub paired_of : ℕ → ℕ → Move
paired_of len b =
    cond (eqb b DLE) (collect_of len) (cond (eqb b ETX) Closed (cond (eqb b STX) (On (place Inside 0)) (Dropped BadPair)))

unfoldable pub outside_of : ℕ → Move
outside_of b = On (place (cond (eqb b DLE) OutsideWaiting Outside) 0)

unfoldable pub move_of : Phase → ℕ → ℕ → Move
move_of Outside len b = outside_of b
move_of OutsideWaiting len b = cond (eqb b STX) (On (place Inside 0)) (outside_of b)
move_of Inside len b = cond (eqb b DLE) (On (place InsideWaiting len)) (collect_of len)
move_of InsideWaiting len b = paired_of len b

-- What `run_bytes` returns and leaves: how the call ended, and where the reader stands then, whose content lies in the state
-- already; only the first three bytes of the state are still to be written.
abbrev pub end_of : Event → Result (Option ℕ) Refusal
end_of rule.nothing = Ok None
end_of (rule.closed c) = Ok (Some (length c))
end_of rule.dropped_pair = Err BadPair
end_of rule.dropped_long = Err TooLong

abbrev pub ended_at : Result (Option ℕ) Refusal → ℕ → Run
ended_at e taken = record { end = e; taken = taken; place = place Outside 0 }

pub record RunIs (r : Ran) (e : Result (Option ℕ) Refusal) (count : ℕ) (p : Place) (state : List ℕ) : Type 0 where
  pub end : e ≡ end_of r.event
  pub taken : count ≡ r.taken
  pub phase : p.phase ≡ phase_at r.after
  pub len : p.len ≡ length (content_in r.after)
  pub most : p.len ≤ max_content
  pub content : take p.len (drop 3 state) ≡ content_in r.after
  pub bytes : keep r.after state ≡ r.bytes
  pub size : length state ≡ state_length
  pub closed : (c : List ℕ) → r.event ≡ rule.closed c → (take (length c) (drop 3 state) ≡ c) × (length c ≤ max_content)

-- The content of a frame that a call closed lies in the state, behind its first three bytes; and what is made of it.
abbrev pub Behind : Result (Option ℕ) Refusal → List ℕ → Type 0
Behind (Ok None) state = Unit {0}
Behind (Ok (Some n)) state = n + 3 ≤ length state
Behind (Err e) state = Unit {0}

abbrev pub ReadIs : Result (Option ℕ) Refusal → ℕ → List ℕ → List ℕ → Result (Option ℕ) Refusal → List ℕ → Type 0
ReadIs (Ok None) address state out r out' = (r ≡ Ok None) × (out' ≡ out)
ReadIs (Ok (Some n)) address state out r out' =
    Emits (if_room room_data (length out) (judge_whole address (some (take n (drop 3 state))))) out (fed_number r) (fed_length r) out'
ReadIs (Err e) address state out r out' = (r ≡ Err e) × (out' ≡ out)
