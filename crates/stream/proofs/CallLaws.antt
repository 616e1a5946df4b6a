-- One call of `feed`: what it gives, by what its parts give.
-- Assumes nothing.
use Rattle.std.proofs.Common.{◌≡◌, ℕ, ◌<◌, ◌≤◌, true, false, List, ◌∷◌, ◌++◌, length, take, drop, Option, Result, refl, sym, ap, ap₂, subst, ◌∙◌, arith, lt-ltb, le-ltb, length-drop}
use mathlib.Core.Option.{some}
use Rattle.protocol.specs.Numbers.{unsound, no_room, no_frame, bad_pair, too_long, max_content, room_data}
use Rattle.protocol.specs.Bytes.{half}
use Rattle.protocol.specs.declared.Refusal.{Refusal}
use Rattle.protocol.specs.Frame.{if_room, judge, judge_whole}
use Rattle.protocol.specs.Buffer.{Emits}
use Rattle.protocol.specs.Stream as rule
use Rattle.protocol.specs.Stream.{Event}
use Rattle.protocol.proofs.FrameLaws.{judge_whole_by}
use Rattle.protocol.proofs.BufferLaws.{over_nil, emits_refused}
use Rattle.stream.specs.declared.state.Place.{Place}
use Rattle.stream.specs.State.{state_length, has_form, standing}
use Rattle.stream.specs.Feed.{Ran, run_from, event_result, takes_none, fed, Feeds, fed_number, fed_length}
use Rattle.stream.specs.Steps.{phase_number, end_of, RunIs, Behind, ReadIs}
use Rattle.stream.proofs.FeedLaws.{Placed, keep_placed, number_phase}

-- The two refusals that take no byte.
feeds_none : (n : ℕ) (st out : List ℕ) → Feeds (takes_none n st) out n 0 0 st out
feeds_none n st out = record { number = refl; taken = refl; len = refl; state = refl; bytes = sym (over_nil out) }

module _ (a : ℕ) (st bytes out : List ℕ) where
  pub feeds_formless : has_form st ≡ false → Feeds (fed a st bytes (length out)) out unsound 0 0 st out
  unfolding fed
  feeds_formless h = rw h (feeds_none unsound st out)

  module _ (h : has_form st ≡ true) where
    pub feeds_no_room : length out < room_data → Feeds (fed a st bytes (length out)) out no_room 0 0 st out
    unfolding fed
    feeds_no_room k = rw (h, lt-ltb (length out) room_data k) (feeds_none no_room st out)

    abbrev ran : Ran
    ran = run_from (standing st) st bytes

    pub feeds_run : {n count size : ℕ} {st' out' : List ℕ} → room_data ≤ length out → Emits (event_result a ran.event) out n size out'
        → count ≡ ran.taken → st' ≡ ran.bytes → Feeds (fed a st bytes (length out)) out n count size st' out'
    unfolding fed
    feeds_run k e t s =
        rw (h, le-ltb (length out) room_data k)
        (record { number = e.number; taken = t; len = e.len; state = s; bytes = e.bytes })

-- A content of at most 258 bytes, in enough room, is judged by the stream rule.
judged_alone : (a : ℕ) (c : List ℕ) (room : ℕ) → length c ≤ max_content → room_data ≤ room
    → if_room room_data room (judge_whole a (some c)) ≡ judge a c
unfolding if_room
judged_alone a c room h k = rw (le-ltb room room_data k) (judge_whole_by a c false (le-ltb max_content (length c) h))

-- The state once its first three bytes are written.
module _ {r : Ran} {e : Result (Option ℕ) Refusal} {n : ℕ} {p : Place} {st st' : List ℕ} (w : RunIs r e n p st)
    (put : st' ≡ phase_number p.phase ∷ (half p.len ++ drop 3 st)) where
  placed : Placed r.after p st
  placed = record { phase = w.phase; len = w.len; most = w.most; content = w.content; size = w.size }

  pub state_written : st' ≡ r.bytes
  state_written =
      put
      ∙ ap₂ (λ x m. x ∷ (half m ++ drop 3 st)) (ap phase_number w.phase ∙ number_phase r.after) w.len
      ∙ sym (keep_placed placed)
      ∙ w.bytes

  state_length_lem : length st' ≡ state_length
  unfolding half
  state_length_lem = omega (arith, ap length put, w.size, length-drop 3 st)

  state_content : drop 3 st' ≡ drop 3 st
  unfolding half
  state_content = ap (drop 3) put

  -- A closed frame's content lies in it.
  pub behind : Behind e st'
  behind = subst (λ e. Behind e st') (sym w.end) (go r.event w.closed)
    where
      go : (x : Event) → ((c : List ℕ) → x ≡ rule.closed c → (take (length c) (drop 3 st) ≡ c) × (length c ≤ max_content))
          → Behind (end_of x) st'
      go rule.nothing k = tt
      go (rule.closed c) k = omega (arith, (k c refl).1, state_length_lem)
      go rule.dropped_pair k = tt
      go rule.dropped_long k = tt

  -- What a call emits that ended so.
  pub emits_end : (a : ℕ) (t : Result (Option ℕ) Refusal) {out out' : List ℕ} → room_data ≤ length out → ReadIs e a st' out t out'
      → Emits (event_result a r.event) out (fed_number t) (fed_length t) out'
  unfolding event_result
  emits_end a t {out} {out'} room q = go r.event w.closed (subst (λ e. ReadIs e a st' out t out') w.end q)
    where
      go : (x : Event) → ((c : List ℕ) → x ≡ rule.closed c → (take (length c) (drop 3 st) ≡ c) × (length c ≤ max_content))
          → ReadIs (end_of x) a st' out t out'
          → Emits (event_result a x) out (fed_number t) (fed_length t) out'
      go rule.nothing k q = rw (q.0, q.1) (emits_refused no_frame out)
      go (rule.closed c) k q =
          subst (λ x. Emits x out (fed_number t) (fed_length t) out')
          (ap (λ c. if_room room_data (length out) (judge_whole a (some c))) (ap (take (length c)) state_content ∙ (k c refl).0)
          ∙ judged_alone a c (length out) (k c refl).1 room)
          q
      go rule.dropped_pair k q = rw (q.0, q.1) (emits_refused bad_pair out)
      go rule.dropped_long k q = rw (q.0, q.1) (emits_refused too_long out)
