-- `stream::feed::run_bytes` meets its contract. Assumes nothing.
use Rattle.std.proofs.Common.{ℕ, Option, None, Result, Ok, List, length, ◌≡◌, sym, subst, ◌∙◌, arith}
use Rattle.protocol.specs.declared.Refusal.{Refusal}
use Rattle.stream.specs.declared.state.Phase.TheVariants.{Outside}
use Rattle.stream.specs.declared.feed.Run.{Run}
use Rattle.stream.specs.State.{standing}
use Rattle.stream.specs.Feed.{Ran, run_from}
use Rattle.stream.specs.Steps.{RunIs, place, ended_at}
use Rattle.stream.proofs.FeedLaws.{run_begins, goes_on, fits, keeps, closes, drops, all_taken}
use Rattle.stream.proofs.feed.run_bytes.Goals as goal
use Rattle.stream.proofs.feed.run_bytes.Goals.{in-On, in-Keep}

-- What `ended` returns, in a run.
ended_is : {r : Ran} {e : Result (Option ℕ) Refusal} {n : ℕ} {x : Run} {st : List ℕ} → x ≡ ended_at e n
    → RunIs r e n (place Outside 0) st
    → RunIs r x.end x.taken x.place st
ended_is {r} {e} {n} {x} {st} q w = subst (λ y. RunIs r y.end y.taken y.place st) (sym q) w

pub loop-i-init : goal.loop-i-init
loop-i-init c = run_begins c.args.state.now c.args.bytes.now c.requires (λ i. omega (arith, c.type_inv.state i))

pub bounds-state-place : goal.bounds-state-place
bounds-state-place c =
    fits c.args.state.now c.args.bytes.now c.loop-i.invariant c.loop-i-test.true (sym c.in-Keep.is ∙ c.move_on.ensures)

pub loop-i-preserved : goal.loop-i-preserved
loop-i-preserved c =
    elim c.match-move_on.branch [
      | in-On w ↦ rw (w.place-is, w.state-is) (goes_on c.args.state.now c.args.bytes.now c.loop-i.invariant c.loop-i-test.true (sym w.in-On.is ∙ c.move_on.ensures))
      | in-Keep w ↦ rw (w.place-is, w.state-is) (keeps c.args.state.now c.args.bytes.now c.loop-i.invariant c.loop-i-test.true (sym w.in-Keep.is ∙ c.move_on.ensures))
    ]

pub returns-in-Closed : goal.returns-in-Closed
returns-in-Closed c =
    ended_is c.ended.ensures
    (closes c.args.state.now c.args.bytes.now c.loop-i.invariant c.loop-i-test.true (sym c.in-Closed.is ∙ c.move_on.ensures))

pub returns-in-Dropped : goal.returns-in-Dropped
returns-in-Dropped c =
    ended_is c.ended-in-Dropped.ensures
    (drops c.args.state.now c.args.bytes.now c.loop-i.invariant c.loop-i-test.true (sym c.in-Dropped.is ∙ c.move_on.ensures))

pub returns : goal.returns
returns c =
    let all : c.loop-i.i ≡ length c.args.bytes.now = omega arith in
    subst
    (λ n. RunIs (run_from (standing c.args.state.now) c.args.state.now c.args.bytes.now) (Ok None) n c.loop-i.place c.loop-i.state)
    all
    (all_taken c.args.state.now c.args.bytes.now c.loop-i.invariant c.loop-i-test.false)
