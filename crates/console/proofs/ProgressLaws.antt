-- A step goes on, from every state that has a form.
-- Assumes nothing.
use Prim.Native.Nat.{ℕ, ◌<◌, ◌≤◌}
use native.Mathlib.Omega.{arith}
use mathlib.Core.Path.{◌≡◌, refl, ap, ◌∙◌}
use mathlib.Core.Bool.{true}
use mathlib.Core.List.{List, [], ◌∷◌}
use borrow.Author.Tests.{le-ltb}
use lib.ListN.{length}
use lib.Dec.{eqb}
use Rattle.protocol.specs.Numbers.{done, no_frame, room_data}
use Rattle.protocol.specs.Stream as rule
use Rattle.protocol.specs.Stream.{Stream, Event, step}
use Rattle.protocol.proofs.TestLaws.{if_both}
use Rattle.stream.specs.State.{has_form, standing, keep}
use Rattle.stream.specs.Feed.{FedBy, Ran, fed_by, fed, run_from, next}
use Rattle.stream.proofs.StateLaws.{state_of}
use Rattle.stream.proofs.DeliveryLaws.{Follows, follows}
use Rattle.console.specs.Bench.{bench_address, text_room, shows, stepped, Stepped, Steps}
use Rattle.console.specs.Steps.{Progress}

-- A run takes something where there is something.
next_some : (e : Event) (after : Stream) (st : List ℕ) (r : Ran) → 0 < (next e after st r).taken
unfolding next
next_some rule.nothing after st r = omega arith
next_some (rule.closed c) after st r = omega arith
next_some rule.dropped_pair after st r = omega arith
next_some rule.dropped_long after st r = omega arith

run_some : (s : Stream) (st bs : List ℕ) → 0 < length bs → 0 < (run_from s st bs).taken
unfolding run_from
run_some s st [] h = absurd (omega (arith, h))
run_some s st (b ∷ bs) h =
    next_some (step s b).event (step s b).after (keep (step s b).after st)
    (run_from (step s b).after (keep (step s b).after st) bs)

-- What is shown changes neither.
record Kept (f : FedBy) (w : Stepped) : Type 0 where
  taken : w.taken ≡ f.taken
  state : w.state ≡ f.state

shows_kept : (f : FedBy) (cells : List ℕ) → Kept f (shows f cells)
unfolding shows
shows_kept f cells =
    if_both (Kept f) (eqb f.number no_frame) (record { taken = refl; state = refl })
    (if_both (Kept f) (eqb f.number done) (record { taken = refl; state = refl }) (record { taken = refl; state = refl }))

fed_is : (state bytes : List ℕ) → has_form state ≡ true
    → fed bench_address state bytes room_data ≡ fed_by bench_address (run_from (standing state) state bytes)
unfolding fed
fed_is state bytes h = rw h refl

pub progress : (room : ℕ) (state cells bytes : List ℕ) {old state' cells' new : List ℕ} {count size : ℕ} → text_room ≤ room → has_form state ≡ true
    → Steps (stepped room state cells bytes) old count size state' cells' new → Progress bytes count state'
unfolding stepped
progress room state cells bytes {old} {state'} {cells'} {new} {count} {size} roomy h s =
    let f : FedBy = fed bench_address state bytes room_data in
    let r : Ran = run_from (standing state) state bytes in
    let s' : Steps (shows f cells) old count size state' cells' new = rw (le-ltb room text_room roomy) at s in
    let k : Kept f (shows f cells) = shows_kept f cells in
    let is : f ≡ fed_by bench_address r = fed_is state bytes h in
    let n : count ≡ r.taken = s'.taken ∙ k.taken ∙ ap (λ x. x.taken) is in
    let left : state' ≡ r.bytes = s'.state ∙ k.state ∙ ap (λ x. x.state) is in
    let w : Follows (standing state) state bytes r = follows bytes (standing state) state (state_of state h) in
    record {
      form = ap has_form left ∙ w.stands.form;
      fits = omega (arith, n, w.fits);
      some = λ q. omega (arith, n, run_some (standing state) state bytes q);
    }
