-- What one call of the stream reader gives, from a lent state.
use Rattle.std.specs.Prelude.{ℕ, suc, ◌≡◌, cond, List, [], ◌∷◌, length, ltb, Option, Some, None, Result, Ok, Err}
use Rattle.protocol.specs.Numbers.{done, unsound, no_room, no_frame, bad_pair, too_long, room_data}
use Rattle.protocol.specs.declared.Refusal.{Refusal}
use Rattle.protocol.specs.Refusal.{refusal_number}
use Rattle.protocol.specs.Frame.{Received, refused, judge}
use Rattle.protocol.specs.Buffer.{over}
use Rattle.protocol.specs.Stream as rule
use Rattle.protocol.specs.Stream.{Stream, Event, step}
use Rattle.stream.specs.State.{keep, has_form, standing}

-- Bytes fed until one closes or drops a frame, or all of them.
pub record Ran : Type 0 where
  pub event : Event
  pub taken : ℕ
  pub after : Stream
  pub bytes : List ℕ

-- One byte more was taken before the rest.
abbrev pub one_more : Ran → Ran
one_more r = record { event = r.event; taken = suc r.taken; after = r.after; bytes = r.bytes }

-- A byte's event ends the call, or the rest goes on.
abbrev pub ended : Event → Stream → List ℕ → Ran
ended e after state = record { event = e; taken = 1; after = after; bytes = state }

unfoldable pub next : Event → Stream → List ℕ → Ran → Ran
next rule.nothing after state rest = one_more rest
next (rule.closed c) after state rest = ended (rule.closed c) after state
next rule.dropped_pair after state rest = ended rule.dropped_pair after state
next rule.dropped_long after state rest = ended rule.dropped_long after state

-- 01, The stream: a call from where a reader stands, with the bytes of its state after each byte taken.
unfoldable pub run_from : Stream → List ℕ → List ℕ → Ran
run_from s state [] = record { event = rule.nothing; taken = 0; after = s; bytes = state }
run_from s state (b ∷ bs) =
    next (step s b).event (step s b).after (keep (step s b).after state)
    (run_from (step s b).after (keep (step s b).after state) bs)

-- What a call gives: the number, how many bytes it took, the data, and every byte of the state afterwards.
pub record FedBy : Type 0 where
  pub number : ℕ
  pub taken : ℕ
  pub payload : List ℕ
  pub state : List ℕ

-- Of a frame that a call closed or dropped: its number and data, for an address; 255 where it ended none.
unfoldable pub event_result : ℕ → Event → Received
event_result address rule.nothing = refused no_frame
event_result address (rule.closed c) = judge address c
event_result address rule.dropped_pair = refused bad_pair
event_result address rule.dropped_long = refused too_long

abbrev pub fed_by : ℕ → Ran → FedBy
fed_by address r =
    record {
      number = (event_result address r.event).number;
      taken = r.taken;
      payload = (event_result address r.event).payload;
      state = r.bytes;
    }

-- A call that takes no byte and changes nothing.
abbrev pub takes_none : ℕ → List ℕ → FedBy
takes_none n state = record { number = n; taken = 0; payload = []; state = state }

-- 1, then 8, then what the stream rule gives.
unfoldable pub fed : ℕ → List ℕ → List ℕ → ℕ → FedBy
fed address state bytes room =
    cond (has_form state)
    (cond (ltb room room_data) (takes_none no_room state) (fed_by address (run_from (standing state) state bytes)))
    (takes_none unsound state)

-- What a call tells of a frame, as code has it: none ended, one closed whose data has this length, or a refusal. Its number, and the
-- length of the data that it put at the front of the output.
abbrev pub fed_number : Result (Option ℕ) Refusal → ℕ
fed_number (Ok None) = no_frame
fed_number (Ok (Some n)) = done
fed_number (Err e) = refusal_number e

abbrev pub fed_length : Result (Option ℕ) Refusal → ℕ
fed_length (Ok None) = 0
fed_length (Ok (Some n)) = n
fed_length (Err e) = 0

-- The promise of `feed`: each number it returns, and every byte of state and output afterwards.
pub record Feeds (what : FedBy) (out : List ℕ) (n count size : ℕ) (state' out' : List ℕ) : Type 0 where
  pub number : n ≡ what.number
  pub taken : count ≡ what.taken
  pub len : size ≡ length what.payload
  pub state : state' ≡ what.state
  pub bytes : out' ≡ over what.payload out
