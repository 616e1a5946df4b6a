-- Demand 3 on streams: every list of deliveries, refused ones included.
-- Assumes nothing.
use Prim.Native.Nat.{ℕ, suc, ◌+◌, ◌≤◌}
use native.Mathlib.Omega.{arith}
use native.Mathlib.Nat.{le_refl, add-suc, suc-add}
use native.Mathlib.Numerals.{add-one}
use mathlib.Core.Path.{◌≡◌, refl, sym, ap, ap₂, subst, ◌∙◌}
use mathlib.Core.Bool.{Bool, true, false, cond, false≢true}
use mathlib.Core.List.{List, [], ◌∷◌, ◌++◌, append_assoc, append-nil}
use borrow.Author.Tests.{eqb-true}
use lib.ListN.{length, take, replicate, length-append}
use lib.Seq.{length-take-le}
use lib.Dec.{eqb, ltb}
use Rattle.protocol.specs.Numbers.{done, unsound, no_room, no_frame, ETX, max_content, room_data}
use Rattle.protocol.specs.Frame.{Received, received, judge, wrap, frame, content_of, address_in, Sized}
use Rattle.protocol.specs.Stream as rule
use Rattle.protocol.specs.Stream.{Stream, inside, Event, step, hand_up, handed_up_from, handed_up}
use Rattle.protocol.proofs.TestLaws.{if_both}
use Rattle.protocol.proofs.BufferLaws.{over_front}
use Rattle.protocol.proofs.FrameLaws.{judge_only, Good, is_summed, length-content_of}
use Rattle.protocol.proofs.StreamLaws.{closing, after-append, handed_up-append, closed_stands, second_sending}
use Rattle.stream.specs.State.{state_length, content_in, keep, has_form, stream_with, standing}
use Rattle.stream.specs.Feed.{Ran, one_more, ended, next, run_from, FedBy, event_result, fed_by, takes_none, fed, Feeds}
use Rattle.stream.specs.Delivery.{Delivery, Meets, Deliveries, Begins, took, joined, ends_no_frame, entry, handed_by, Stands, AllStand, NoneUnsound, state_after, Delivered}
use Rattle.stream.proofs.FeedLaws.{not_closed}
use Rattle.stream.proofs.StateLaws.{StateOf, state_of_kept, state_of, step_few}

-- A state that stands for the beginning; zeros do, as `pq_begin_stream` writes them.
pub begins : {st : List ℕ} → Begins st → StateOf rule.begin st
begins {st} b = subst (λ s. StateOf s st) b.outside (state_of st b.form)

pub fresh_begins : Begins (replicate state_length 0)
unfolding has_form stream_with
fresh_begins = record { form = refl; outside = refl }

-- The bytes of a state after all of some bytes were fed, frame after frame.
unfoldable pub settled : Stream → List ℕ → List ℕ → List ℕ
settled s state [] = state
settled s state (b ∷ bs) = settled (step s b).after (keep (step s b).after state) bs

-- The last byte of a call that closed a frame.
pub record ClosedBy (s : Stream) (bs c : List ℕ) : Type 0 where
  pub init : List ℕ
  pub byte : ℕ
  pub split : bs ≡ init ++ byte ∷ []
  pub closing : (step (rule.after s init) byte).event ≡ rule.closed c

-- A run against the stream rule, for the bytes that it took.
pub record Follows (s : Stream) (st bs : List ℕ) (r : Ran) : Type 0 where
  pub fits : r.taken ≤ length bs
  pub after : rule.after s (take r.taken bs) ≡ r.after
  pub handed : (a n : ℕ) → handed_up_from a s n (take r.taken bs) ≡ hand_up a (n + r.taken) r.event
  pub bytes : settled s st (take r.taken bs) ≡ r.bytes
  pub stands : StateOf r.after r.bytes
  pub closed : (c : List ℕ) → r.event ≡ rule.closed c → ClosedBy s (take r.taken bs) c

follows_none : (s : Stream) (st : List ℕ) → StateOf s st → Follows s st [] (record { event = rule.nothing; taken = 0; after = s; bytes = st })
unfolding rule.after handed_up_from hand_up settled
follows_none s st w =
    record {
      fits = omega arith;
      after = refl;
      handed = λ a n. refl;
      bytes = refl;
      stands = w;
      closed = λ c e. absurd (not_closed rule.nothing c refl e);
    }

follows_end : (s : Stream) (st : List ℕ) (b : ℕ) (bs : List ℕ) (e : Event) → (step s b).event ≡ e → StateOf (step s b).after (keep (step s b).after st)
    → Follows s st (b ∷ bs) (ended e (step s b).after (keep (step s b).after st))
unfolding rule.after handed_up_from settled
follows_end s st b bs e h w =
    record {
      fits = omega arith;
      after = refl;
      handed = λ a n. append-nil (hand_up a (suc n) (step s b).event) ∙ ap₂ (hand_up a) (sym (add-one n)) h;
      bytes = refl;
      stands = w;
      closed = λ c q. record { init = []; byte = b; split = refl; closing = h ∙ q };
    }

follows_more : (s : Stream) (st : List ℕ) (b : ℕ) (bs : List ℕ) (r : Ran) → (step s b).event ≡ rule.nothing
    → Follows (step s b).after (keep (step s b).after st) bs r → Follows s st (b ∷ bs) (one_more r)
unfolding rule.after handed_up_from hand_up settled
follows_more s st b bs r h f =
    record {
      fits = omega (arith, f.fits);
      after = f.after;
      handed = λ a n.
          ap (λ x. hand_up a (suc n) x ++ handed_up_from a (step s b).after (suc n) (take r.taken bs)) h
          ∙ f.handed a (suc n)
          ∙ ap (λ m. hand_up a m r.event) (suc-add n r.taken ∙ sym (add-suc n r.taken));
      bytes = f.bytes;
      stands = f.stands;
      closed = λ c q.
          let k : ClosedBy (step s b).after (take r.taken bs) c = f.closed c q in
          record { init = b ∷ k.init; byte = k.byte; split = ap (λ l. b ∷ l) k.split; closing = k.closing };
    }

follows_next : (s : Stream) (st : List ℕ) (b : ℕ) (bs : List ℕ) (r : Ran) → StateOf (step s b).after (keep (step s b).after st)
    → Follows (step s b).after (keep (step s b).after st) bs r
    → (e : Event) → (step s b).event ≡ e → Follows s st (b ∷ bs) (next e (step s b).after (keep (step s b).after st) r)
unfolding next
follows_next s st b bs r w f rule.nothing h = follows_more s st b bs r h f
follows_next s st b bs r w f (rule.closed c) h = follows_end s st b bs (rule.closed c) h w
follows_next s st b bs r w f rule.dropped_pair h = follows_end s st b bs rule.dropped_pair h w
follows_next s st b bs r w f rule.dropped_long h = follows_end s st b bs rule.dropped_long h w

-- A run follows the stream rule.
pub follows : (bs : List ℕ) (s : Stream) (st : List ℕ) → StateOf s st → Follows s st bs (run_from s st bs)
unfolding run_from
follows [] s st w = follows_none s st w
follows (b ∷ bs) s st w =
    let s' : Stream = (step s b).after in
    let next_state : StateOf s' (keep s' st) = state_of_kept s' st w.size (step_few s b w.few).few in
    follows_next s st b bs (run_from s' (keep s' st) bs) next_state (follows bs s' (keep s' st) next_state) (step s b).event refl

-- One call, lent a state that stands for a place: refused with 8, or a run.
pub data Called (a : ℕ) (s : Stream) (st : List ℕ) (d : Delivery) : Type 0 where
  no_room_case : d.number ≡ no_room → d.taken ≡ 0 → d.state ≡ st → Called a s st d
  ran : (r : Ran) → Follows s st d.bytes r → d.number ≡ (event_result a r.event).number → d.taken ≡ r.taken
      → take d.len d.out ≡ (event_result a r.event).payload → d.state ≡ r.bytes → Called a s st d

fed_by_lem : (a : ℕ) (st bytes : List ℕ) (room : ℕ) (t u : Bool) → has_form st ≡ t → ltb room room_data ≡ u
    → fed a st bytes room
    ≡ cond t (cond u (takes_none no_room st) (fed_by a (run_from (standing st) st bytes))) (takes_none unsound st)
unfolding fed
fed_by_lem a st bytes room t u e h = rw (e, h)

-- What a call that meets the promise returned and left, by what the promise comes to.
record Met (what : FedBy) (d : Delivery) : Type 0 where
  number : d.number ≡ what.number
  taken : d.taken ≡ what.taken
  payload : take d.len d.out ≡ what.payload
  state : d.state ≡ what.state

met : (a : ℕ) (st : List ℕ) (d : Delivery) {what : FedBy} → Meets a st d → fed a st d.bytes (length d.lent) ≡ what → Met what d
met a st d {what} m e =
    let f : Feeds what d.lent d.number d.taken d.len d.state d.out =
    subst (λ x. Feeds x d.lent d.number d.taken d.len d.state d.out) e m in
    record { number = f.number; taken = f.taken; payload = over_front what.payload d.lent f.len f.bytes; state = f.state }

pub called : (a : ℕ) (s : Stream) (st : List ℕ) (d : Delivery) → StateOf s st → Meets a st d → Called a s st d
called a s st d w m = go (ltb (length d.lent) room_data) refl
  where
    r : Ran
    r = run_from (standing st) st d.bytes

    f : Follows s st d.bytes r
    f = subst (λ x. Follows s st d.bytes (run_from x st d.bytes)) (sym w.is) (follows d.bytes s st w)

    go : (t : Bool) → ltb (length d.lent) room_data ≡ t → Called a s st d
    go true e =
        let n : Met (takes_none no_room st) d = met a st d m (fed_by_lem a st d.bytes (length d.lent) true true w.form e) in
        no_room_case n.number n.taken n.state
    go false e =
        let n : Met (fed_by a r) d = met a st d m (fed_by_lem a st d.bytes (length d.lent) true false w.form e) in
        ran r f n.number n.taken n.payload n.state

-- The numbers of closed and dropped frames are none of 1, 8 and 255.
record EndsFrame (r : Received) : Type 0 where
  ends : ends_no_frame r.number ≡ false

judge-ends : (a : ℕ) (c : List ℕ) → EndsFrame (judge a c)
unfolding judge
judge-ends a c =
    if_both EndsFrame (ltb (length c) 3) (record { ends = refl })
    (if_both EndsFrame (is_summed c)
    (if_both EndsFrame (eqb (address_in c) a) (record { ends = refl }) (record { ends = refl }))
    (record { ends = refl }))

-- What a call gives, against the stream rule.
pub record Gives (a : ℕ) (s : Stream) (st : List ℕ) (d : Delivery) : Type 0 where
  pub count : length (took d) ≡ d.taken
  pub handed : (n : ℕ) → cond (ends_no_frame d.number) [] (entry n d ∷ []) ≡ handed_up_from a s n (took d)
  pub stands : StateOf (rule.after s (took d)) d.state
  pub bytes : d.state ≡ settled s st (took d)
  pub not_unsound : d.number ≡ unsound → ⊥

gives_nothing : (a : ℕ) (s : Stream) (st : List ℕ) (d : Delivery) → StateOf s st → d.number ≡ no_room → d.taken ≡ 0 → d.state ≡ st → Gives a s st d
unfolding rule.after handed_up_from settled
gives_nothing a s st d w n t e =
    let none_taken : took d ≡ [] = ap (λ k. take k d.bytes) t in
    record {
      count = ap length none_taken ∙ sym t;
      handed = λ k.
          ap (λ x. cond (ends_no_frame x) [] (entry k d ∷ [])) n ∙ sym (ap (handed_up_from a s k) none_taken);
      stands = rw (ap (rule.after s) none_taken, e) w;
      bytes = e ∙ sym (ap (settled s st) none_taken);
      not_unsound = λ q. omega (arith, n, q);
    }

-- What an event hands up is what the call returned.
handed_event : (a : ℕ) (d : Delivery) (n : ℕ) (e : Event) → d.number ≡ (event_result a e).number → take d.len d.out ≡ (event_result a e).payload
    → cond (ends_no_frame d.number) [] (entry n d ∷ []) ≡ hand_up a (n + d.taken) e
unfolding event_result hand_up
handed_event a d n rule.nothing p q = ap (λ x. cond (ends_no_frame x) [] (entry n d ∷ [])) p
handed_event a d n (rule.closed c) p q =
    ap (λ x. cond x [] (entry n d ∷ [])) (ap ends_no_frame p ∙ (judge-ends a c).ends)
    ∙ ap₂ (λ x y. record { frame = record { number = x; payload = y }; end = n + d.taken } ∷ []) p q
handed_event a d n rule.dropped_pair p q =
    ap (λ x. cond (ends_no_frame x) [] (entry n d ∷ [])) p
    ∙ ap₂ (λ x y. record { frame = record { number = x; payload = y }; end = n + d.taken } ∷ []) p q
handed_event a d n rule.dropped_long p q =
    ap (λ x. cond (ends_no_frame x) [] (entry n d ∷ [])) p
    ∙ ap₂ (λ x y. record { frame = record { number = x; payload = y }; end = n + d.taken } ∷ []) p q

event_not_unsound : (a : ℕ) (e : Event) → (event_result a e).number ≡ unsound → ⊥
unfolding event_result
event_not_unsound a rule.nothing h = omega (arith, h)
event_not_unsound a (rule.closed c) h = false≢true (sym (judge-ends a c).ends ∙ ap ends_no_frame h)
event_not_unsound a rule.dropped_pair h = omega (arith, h)
event_not_unsound a rule.dropped_long h = omega (arith, h)

gives_run : (a : ℕ) (s : Stream) (st : List ℕ) (d : Delivery) (r : Ran) → Follows s st d.bytes r → d.number ≡ (event_result a r.event).number
    → d.taken ≡ r.taken → take d.len d.out ≡ (event_result a r.event).payload → d.state ≡ r.bytes → Gives a s st d
gives_run a s st d r f n t p e =
    let took_is : took d ≡ take r.taken d.bytes = ap (λ k. take k d.bytes) t in
    record {
      count = ap length took_is ∙ length-take-le r.taken d.bytes f.fits ∙ sym t;
      handed = λ k.
          handed_event a d k r.event n p
          ∙ ap (λ m. hand_up a (k + m) r.event) t
          ∙ sym (ap (handed_up_from a s k) took_is ∙ f.handed a k);
      stands = rw (ap (rule.after s) took_is ∙ f.after, e) f.stands;
      bytes = e ∙ sym f.bytes ∙ sym (ap (settled s st) took_is);
      not_unsound = λ q. event_not_unsound a r.event (sym n ∙ q);
    }

pub gives : (a : ℕ) (s : Stream) (st : List ℕ) (d : Delivery) → StateOf s st → Called a s st d → Gives a s st d
gives a s st d w (no_room_case n t e) = gives_nothing a s st d w n t e
gives a s st d w (ran r f n t p e) = gives_run a s st d r f n t p e

-- Frames and numbers, in order, of all calls.
ordered : (a : ℕ) (ds : List Delivery) (s : Stream) (st : List ℕ) (n : ℕ) → StateOf s st → Deliveries a st ds
    → handed_by n ds ≡ handed_up_from a s n (joined ds)
unfolding handed_by joined handed_up_from
ordered a [] s st n w m = refl
ordered a (d ∷ ds) s st n w m =
    let g : Gives a s st d = gives a s st d w (called a s st d w m.0) in
    let s' : Stream = rule.after s (took d) in
    ap₂ ◌++◌ (g.handed n) (ordered a ds s' d.state (n + d.taken) g.stands m.1)
    ∙ ap (λ k. handed_up_from a s n (took d) ++ handed_up_from a s' (n + k) (joined ds)) (sym g.count)
    ∙ sym (handed_up-append a s n (took d) (joined ds))

none_unsound : (a : ℕ) (ds : List Delivery) (s : Stream) (st : List ℕ) → StateOf s st → Deliveries a st ds → NoneUnsound ds
none_unsound a [] s st w m = tt
none_unsound a (d ∷ ds) s st w m =
    let g : Gives a s st d = gives a s st d w (called a s st d w m.0) in
    (g.not_unsound, none_unsound a ds (rule.after s (took d)) d.state g.stands m.1)

-- A frame handed up with 0 was closed, and its content is good.
zero_closed : (a : ℕ) (e : Event) → (event_result a e).number ≡ done
    → (c : List ℕ) × (e ≡ rule.closed c) × Good a c (event_result a e).payload
unfolding event_result
zero_closed a rule.nothing h = absurd (omega (arith, h))
zero_closed a (rule.closed c) h = (c, refl, judge_only a c h)
zero_closed a rule.dropped_pair h = absurd (omega (arith, h))
zero_closed a rule.dropped_long h = absurd (omega (arith, h))

after_few : (bs : List ℕ) (s : Stream) → length (content_in s) ≤ max_content → length (content_in (rule.after s bs)) ≤ max_content
unfolding rule.after
after_few [] s h = h
after_few (b ∷ bs) s h = after_few bs (step s b).after (step_few s b h).few

after_closing : (s : Stream) (b : ℕ) (c : List ℕ) → (step s b).event ≡ rule.closed c → (step s b).after ≡ rule.begin
unfolding step
after_closing s b c h =
    let p : (s ≡ inside true c) × (b ≡ ETX) = closing s b c h in
    ap₂ (λ x y. (step x y).after) p.0 p.1

after_one : (s : Stream) (b : ℕ) → rule.after s (b ∷ []) ≡ (step s b).after
unfolding rule.after
after_one s b = refl

after_none : rule.after rule.begin [] ≡ rule.begin
unfolding rule.after
after_none = refl

settled_append : (s : Stream) (st x y : List ℕ) → settled s st (x ++ y) ≡ settled (rule.after s x) (settled s st x) y
unfolding settled rule.after
settled_append s st [] y = refl
settled_append s st (b ∷ x) y = settled_append (step s b).after (keep (step s b).after st) x y

-- The frame that a call closes: from where the reader has been since the last frame handed up, or since the beginning.
module _ (since bs c : List ℕ) (k : ClosedBy (rule.after rule.begin since) bs c) where
  past_init : rule.after rule.begin (since ++ k.init) ≡ rule.after (rule.after rule.begin since) k.init
  past_init = after-append rule.begin since k.init

  closing_there : (step (rule.after rule.begin (since ++ k.init)) k.byte).event ≡ rule.closed c
  closing_there = ap (λ s. (step s k.byte).event) past_init ∙ k.closing

  whole : since ++ bs ≡ (since ++ k.init) ++ k.byte ∷ []
  whole = ap (λ l. since ++ l) k.split ∙ sym (append_assoc since k.init (k.byte ∷ []))

  wrapped : (before : List ℕ) × (since ++ bs ≡ before ++ wrap c)
  wrapped =
      let p : (before : List ℕ) × ((since ++ k.init) ++ k.byte ∷ [] ≡ before ++ wrap c) =
      closed_stands (since ++ k.init) k.byte c closing_there in
      (p.0, whole ∙ p.1)

  outside_after : rule.after rule.begin (since ++ bs) ≡ rule.begin
  outside_after =
      ap (rule.after rule.begin) whole
      ∙ after-append rule.begin (since ++ k.init) (k.byte ∷ [])
      ∙ after_one (rule.after rule.begin (since ++ k.init)) k.byte
      ∙ after_closing (rule.after rule.begin (since ++ k.init)) k.byte c closing_there

  short : length c ≤ max_content
  short =
      let s : Stream = rule.after rule.begin (since ++ k.init) in
      omega (
        arith,
        after_few (since ++ k.init) rule.begin (omega arith),
        ap (λ x. length (content_in x)) (closing s k.byte c closing_there).0,
      )

-- What a call with number 0 handed up stands at the end of the bytes taken, and the reader is outside again.
record Framed (a : ℕ) (past : List ℕ) (last : ℕ) (d : Delivery) : Type 0 where
  stands : Stands a (past ++ took d) last (take d.len d.out)
  state : StateOf rule.begin d.state

framed : (a : ℕ) (old since : List ℕ) (last : ℕ) (st : List ℕ) (d : Delivery) → last ≤ length old → Called a (rule.after rule.begin since) st d
    → d.number ≡ done → StateOf (rule.after (rule.after rule.begin since) (took d)) d.state → Framed a (old ++ since) last d
unfolding frame
framed a old since last st d l (no_room_case n t e) h w = absurd (omega (arith, n, h))
framed a old since last st d l (ran r f n t p e) h w =
    let z : (c : List ℕ) × (r.event ≡ rule.closed c) × Good a c (event_result a r.event).payload = zero_closed a r.event (sym n ∙ h) in
    let c : List ℕ = z.0 in
    let took_is : take r.taken d.bytes ≡ took d = ap (λ m. take m d.bytes) (sym t) in
    let k : ClosedBy (rule.after rule.begin since) (took d) c =
    subst (λ l. ClosedBy (rule.after rule.begin since) l c) took_is (f.closed c z.1) in
    let front : (before : List ℕ) × (since ++ took d ≡ before ++ wrap c) = wrapped since (took d) c k in
    let data_is : take d.len d.out ≡ (event_result a r.event).payload = p in
    record {
      stands =
          record {
            before = old ++ front.0;
            unbroken =
                append_assoc old since (took d)
                ∙ ap (λ l. old ++ l) front.1
                ∙ sym (append_assoc old front.0 (wrap c))
                ∙ ap (λ x. (old ++ front.0) ++ wrap x) z.2.content
                ∙ ap (λ x. (old ++ front.0) ++ wrap (content_of a x)) (sym data_is);
            later = omega (arith, length-append old front.0, l);
            size =
                record {
                  least = omega (arith, z.2.least, ap length data_is);
                  most =
                      omega (
                        arith,
                        ap length data_is,
                        short since (took d) c k,
                        ap length z.2.content,
                        length-content_of a (event_result a r.event).payload,
                      );
                };
          };
      state = subst (λ s. StateOf s d.state) (sym (after-append rule.begin since (took d)) ∙ outside_after since (took d) c k) w;
    }

-- Every frame of all calls. What was taken is split where the last frame handed up ended, or later.
all_stand : (a : ℕ) (ds : List Delivery) (old since : List ℕ) (last : ℕ) (st : List ℕ) → last ≤ length old
    → StateOf (rule.after rule.begin since) st → Deliveries a st ds → AllStand a (old ++ since) last ds
all_stand a [] old since last st l w m = tt
all_stand a (d ∷ ds) old since last st l w m =
    (λ h. (framed a old since last st d l c h g.stands).stands, rest (eqb d.number done) refl (all_stand a ds))
  where
    c : Called a (rule.after rule.begin since) st d
    c = called a (rule.after rule.begin since) st d w m.0

    g : Gives a (rule.after rule.begin since) st d
    g = gives a (rule.after rule.begin since) st d w c

    past : List ℕ
    past = (old ++ since) ++ took d

    rest : (t : Bool) → eqb d.number done ≡ t
        → ((old since : List ℕ) (last : ℕ) (st : List ℕ) → last ≤ length old → StateOf (rule.after rule.begin since) st → Deliveries a st ds
        → AllStand a (old ++ since) last ds)
        → AllStand a past (cond t (length past) last) ds
    rest true e ih =
        let f : Framed a (old ++ since) last d = framed a old since last st d l c (eqb-true d.number done e) g.stands in
        subst (λ x. AllStand a x (length past) ds) (append-nil past)
        (ih past [] (length past) d.state (le_refl (length past)) (subst (λ x. StateOf x d.state) (sym after_none) f.state) m.1)
    rest false e ih =
        subst (λ x. AllStand a x last ds) (sym (append_assoc old since (took d)))
        (ih old (since ++ took d) last d.state l
        (subst (λ x. StateOf x d.state) (sym (after-append rule.begin since (took d))) g.stands)
        m.1)

-- Demand 3 on streams. For one address, the first call lent a state that stands for the beginning of a stream, each later one
-- the state that the call before left, and each call meeting the promise of `feed`, whatever bytes and output it was lent:
-- frames and numbers handed up are those of the stream rule for the bytes taken; each frame handed up is the written frame of
-- the data handed up with it, stands unbroken at the end of the bytes taken and begins after the frame before; none is 1.
pub deliveries : (a : ℕ) (st : List ℕ) (ds : List Delivery) → Begins st → Deliveries a st ds → Delivered a ds
deliveries a st ds b m =
    let w : StateOf rule.begin st = begins b in
    record {
      in_order = ordered a ds rule.begin st 0 w m;
      frames = all_stand a ds [] [] 0 st (omega arith) (subst (λ x. StateOf x st) (sym after_none) w) m;
      sound = none_unsound a ds rule.begin st w m;
    }

-- The second sending, over deliveries: the last thing handed up is the frame's data.
pub sent_twice : (a : ℕ) (st : List ℕ) (ds : List Delivery) (noise d : List ℕ) → Begins st → Deliveries a st ds → Sized d
    → joined ds ≡ (noise ++ frame a d) ++ frame a d
    → handed_by 0 ds ≡ handed_up a (noise ++ frame a d) ++ record { frame = received d; end = length (joined ds) } ∷ []
sent_twice a st ds noise d b m h e =
    (deliveries a st ds b m).in_order
    ∙ ap (handed_up a) e
    ∙ second_sending a noise d h
    ∙ ap (λ n. handed_up a (noise ++ frame a d) ++ record { frame = received d; end = n } ∷ []) (sym (ap length e))

-- The state after several deliveries is that of the bytes they took.
state_settled : (a : ℕ) (ds : List Delivery) (s : Stream) (st : List ℕ) → StateOf s st → Deliveries a st ds
    → state_after st ds ≡ settled s st (joined ds)
unfolding joined settled
state_settled a [] s st w m = refl
state_settled a (d ∷ ds) s st w m =
    let g : Gives a s st d = gives a s st d w (called a s st d w m.0) in
    state_settled a ds (rule.after s (took d)) d.state g.stands m.1
    ∙ ap (λ x. settled (rule.after s (took d)) x (joined ds)) g.bytes
    ∙ sym (settled_append s st (took d) (joined ds))

state_stands : (a : ℕ) (ds : List Delivery) (s : Stream) (st : List ℕ) → StateOf s st → Deliveries a st ds
    → StateOf (rule.after s (joined ds)) (state_after st ds)
unfolding joined rule.after
state_stands a [] s st w m = w
state_stands a (d ∷ ds) s st w m =
    let g : Gives a s st d = gives a s st d w (called a s st d w m.0) in
    subst (λ x. StateOf x (state_after d.state ds)) (sym (after-append s (took d) (joined ds)))
    (state_stands a ds (rule.after s (took d)) d.state g.stands m.1)

-- From every state that has a form: the state after several deliveries has one, and stands for where the stream rule is after
-- the bytes taken; and any two lists of deliveries that took the same bytes, cut in any way, leave the same bytes in it.
pub state_after_lem : (a : ℕ) (st : List ℕ) (ds : List Delivery) → has_form st ≡ true → Deliveries a st ds
    → (has_form (state_after st ds) ≡ true) × (standing (state_after st ds) ≡ rule.after (standing st) (joined ds))
state_after_lem a st ds h m =
    let w : StateOf (rule.after (standing st) (joined ds)) (state_after st ds) =
    state_stands a ds (standing st) st (state_of st h) m in
    (w.form, w.is)

pub same_state : (a : ℕ) (st : List ℕ) (ds es : List Delivery) → has_form st ≡ true → Deliveries a st ds → Deliveries a st es
    → joined ds ≡ joined es → state_after st ds ≡ state_after st es
same_state a st ds es h m n e =
    state_settled a ds (standing st) st (state_of st h) m
    ∙ ap (settled (standing st) st) e
    ∙ sym (state_settled a es (standing st) st (state_of st h) n)

-- A call that returns 255 took all its bytes, whatever state it was lent.
next_nothing : (x : Event) (after : Stream) (st : List ℕ) (r : Ran) → (next x after st r).event ≡ rule.nothing
    → (r.event ≡ rule.nothing) × ((next x after st r).taken ≡ suc r.taken)
unfolding next
next_nothing rule.nothing after st r e = (e, refl)
next_nothing (rule.closed c) after st r e = absurd (not_closed rule.nothing c refl (sym e))
next_nothing rule.dropped_pair after st r e = absurd (let z : ◌≡◌ {A = ℕ} 0 1 = cc in omega arith)
next_nothing rule.dropped_long after st r e = absurd (let z : ◌≡◌ {A = ℕ} 0 1 = cc in omega arith)

run_all : (bs : List ℕ) (s : Stream) (st : List ℕ) → (run_from s st bs).event ≡ rule.nothing → (run_from s st bs).taken ≡ length bs
unfolding run_from
run_all [] s st e = refl
run_all (b ∷ bs) s st e =
    let s' : Stream = (step s b).after in
    let p : ((run_from s' (keep s' st) bs).event ≡ rule.nothing) × ((run_from s st (b ∷ bs)).taken ≡ suc (run_from s' (keep s' st) bs).taken) =
    next_nothing (step s b).event s' (keep s' st) (run_from s' (keep s' st) bs) e in
    p.1 ∙ ap suc (run_all bs s' (keep s' st) p.0)

no_frame_lem : (a : ℕ) (e : Event) → (event_result a e).number ≡ no_frame → e ≡ rule.nothing
unfolding event_result
no_frame_lem a rule.nothing h = refl
no_frame_lem a (rule.closed c) h = absurd (false≢true (sym (judge-ends a c).ends ∙ ap ends_no_frame h))
no_frame_lem a rule.dropped_pair h = absurd (omega (arith, h))
no_frame_lem a rule.dropped_long h = absurd (omega (arith, h))

pub takes_all : (a : ℕ) (st : List ℕ) (d : Delivery) → Meets a st d → d.number ≡ no_frame → d.taken ≡ length d.bytes
takes_all a st d m h = go (has_form st) refl (ltb (length d.lent) room_data) refl
  where
    r : Ran
    r = run_from (standing st) st d.bytes

    go : (t : Bool) → has_form st ≡ t → (u : Bool) → ltb (length d.lent) room_data ≡ u → d.taken ≡ length d.bytes
    go false e u f =
        let n : Met (takes_none unsound st) d = met a st d m (fed_by_lem a st d.bytes (length d.lent) false u e f) in
        absurd (omega (arith, n.number, h))
    go true e true f =
        let n : Met (takes_none no_room st) d = met a st d m (fed_by_lem a st d.bytes (length d.lent) true true e f) in
        absurd (omega (arith, n.number, h))
    go true e false f =
        let n : Met (fed_by a r) d = met a st d m (fed_by_lem a st d.bytes (length d.lent) true false e f) in
        n.taken ∙ run_all d.bytes (standing st) st (no_frame_lem a r.event (sym n.number ∙ h))
