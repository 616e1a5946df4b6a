-- The form of a state is bytes, and a call that is lent bytes leaves bytes in the state.
-- Assumes nothing.
use Prim.Native.Nat.{ℕ, suc, ◌<◌}
use native.Mathlib.Omega.{arith}
use mathlib.Core.Path.{sym, subst}
use mathlib.Core.Bool.{Bool, true, false, cond}
use mathlib.Core.List.{List, [], ◌∷◌, ◌++◌}
use lib.ListN.{length, take, drop}
use lib.Dec.{eqb, ltb}
use Rattle.protocol.specs.Numbers.{byte_end, DLE, STX, ETX, max_content, room_data}
use Rattle.protocol.specs.Bytes.{Bytes, half}
use Rattle.protocol.specs.Buffer.{over}
use Rattle.protocol.specs.Stream as rule
use Rattle.protocol.specs.Stream.{Stream, outside, inside, Event, Step, step, collect}
use Rattle.protocol.proofs.TestLaws.{if_both}
use Rattle.protocol.proofs.ListLaws.{bytes_cons, bytes_none, bytes_append, bytes_take, bytes_drop, half_bytes}
use Rattle.stream.specs.State.{phase_of, content_in, state_form, keep, phase_in, length_in, has_form, stream_with, standing}
use Rattle.stream.specs.Feed.{Ran, next, run_from, FedBy, fed}
use Rattle.stream.specs.Delivery.{Delivery, Meets}
use Rattle.stream.proofs.StateLaws.{phase_low}

-- A form, alone and over the bytes that were there.
pub state_bytes : (s : Stream) → Bytes (content_in s) → Bytes (state_form s)
unfolding state_form
state_bytes s all =
    bytes_cons (phase_of s) (half (length (content_in s)) ++ content_in s) (omega (arith, phase_low s))
    (bytes_append (half (length (content_in s))) (content_in s) (half_bytes (length (content_in s))) all)

pub keep_bytes : (s : Stream) (st : List ℕ) → Bytes (content_in s) → Bytes st → Bytes (keep s st)
unfolding over
keep_bytes s st all old =
    bytes_append (state_form s) (drop (length (state_form s)) st) (state_bytes s all) (bytes_drop (length (state_form s)) st old)

-- A place whose content is bytes: where a state of bytes stands, and after one byte more.
record Holds (s : Stream) : Type 0 where
  content : Bytes (content_in s)

with_bytes : (n : ℕ) (c : List ℕ) → Bytes c → Holds (stream_with n c)
unfolding stream_with
with_bytes n c all =
    if_both Holds (eqb n 3) (record { content = all })
    (if_both Holds (eqb n 2) (record { content = all }) (record { content = bytes_none }))

standing_bytes : (st : List ℕ) → Bytes st → Bytes (content_in (standing st))
standing_bytes st all =
    (with_bytes (phase_in st) (take (length_in st) (drop 3 st)) (bytes_take (length_in st) (drop 3 st) (bytes_drop 3 st all))).content

record HoldsAfter (m : Step) : Type 0 where
  content : Bytes (content_in m.after)

collect_bytes : (c : List ℕ) (b : ℕ) → Bytes c → b < byte_end → HoldsAfter (collect c b)
unfolding collect
collect_bytes c b all h =
    if_both HoldsAfter (ltb (length c) max_content)
    (record { content = bytes_append c (b ∷ []) all (bytes_cons b [] h bytes_none) })
    (record { content = bytes_none })

opening_bytes : (t w : Bool) → HoldsAfter (rule.on (cond t (inside false []) (outside w)))
opening_bytes true w = record { content = bytes_none }
opening_bytes false w = record { content = bytes_none }

step_bytes : (s : Stream) (b : ℕ) → Bytes (content_in s) → b < byte_end → HoldsAfter (step s b)
unfolding step
step_bytes (outside false) b all h = record { content = bytes_none }
step_bytes (outside true) b all h = opening_bytes (eqb b STX) (eqb b DLE)
step_bytes (inside false c) b all h = if_both HoldsAfter (eqb b DLE) (record { content = all }) (collect_bytes c b all h)
step_bytes (inside true c) b all h =
    if_both HoldsAfter (eqb b DLE) (collect_bytes c DLE all (omega arith))
    (if_both HoldsAfter (eqb b ETX) (record { content = bytes_none })
    (if_both HoldsAfter (eqb b STX) (record { content = bytes_none }) (record { content = bytes_none })))

-- A run, and a call.
next_bytes : (e : Event) (after : Stream) (st : List ℕ) (r : Ran) → Bytes st → Bytes r.bytes → Bytes (next e after st r).bytes
unfolding next
next_bytes rule.nothing after st r p q = q
next_bytes (rule.closed c) after st r p q = p
next_bytes rule.dropped_pair after st r p q = p
next_bytes rule.dropped_long after st r p q = p

run_bytes : (bs : List ℕ) (s : Stream) (st : List ℕ) → Bytes (content_in s) → Bytes st → Bytes bs → Bytes (run_from s st bs).bytes
unfolding run_from
run_bytes [] s st c old all = old
run_bytes (b ∷ bs) s st c old all =
    let s' : Stream = (step s b).after in
    let c' : Bytes (content_in s') = (step_bytes s b c (all 0)).content in
    let new : Bytes (keep s' st) = keep_bytes s' st c' old in
    next_bytes (step s b).event s' (keep s' st) (run_from s' (keep s' st) bs) new
    (run_bytes bs s' (keep s' st) c' new (λ i. all (suc i)))

record LeavesBytes (f : FedBy) : Type 0 where
  state : Bytes f.state

pub fed_bytes : (a : ℕ) (st bytes : List ℕ) (room : ℕ) → Bytes st → Bytes bytes → Bytes (fed a st bytes room).state
unfolding fed
fed_bytes a st bytes room old all =
    (if_both LeavesBytes (has_form st)
    (if_both LeavesBytes (ltb room room_data) (record { state = old })
    (record { state = run_bytes bytes (standing st) st (standing_bytes st old) old all }))
    (record { state = old })
    ).state

-- The same of a call that meets the promise of `feed`.
pub left_bytes : (a : ℕ) (st : List ℕ) (d : Delivery) → Meets a st d → Bytes st → Bytes d.bytes → Bytes d.state
left_bytes a st d m old all = subst Bytes (sym m.state) (fed_bytes a st d.bytes (length d.lent) old all)
