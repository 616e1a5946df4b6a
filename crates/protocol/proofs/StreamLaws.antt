-- The stream rule: what a whole frame does to a reader, stray 10h before one, where a closed frame stands, and the second sending.
-- Assumes nothing.
use Prim.Native.Nat.{ℕ, zero, suc, ◌+◌, ◌<◌, ◌≤◌}
use native.Mathlib.Omega.{arith}
use native.Mathlib.Nat.{add-suc, suc-add, add-zero}
use mathlib.Core.Path.{◌≡◌, refl, sym, ap, ap₂, subst, ◌∙◌}
use mathlib.Core.Bool.{Bool, true, false, cond, not, false≢true}
use mathlib.Core.List.{List, [], ◌∷◌, ◌++◌, append_assoc, append-nil}
use borrow.Author.Tests.{eqb-true, lt-ltb, le-ltb}
use lib.ListN.{length, length-append, length-replicate}
use lib.Dec.{eqb, ltb}
use Rattle.protocol.specs.Numbers.{DLE, STX, ETX, max_content}
use Rattle.protocol.specs.Frame.{double, wrap, frame, content_of, judge, received, Sized}
use Rattle.protocol.specs.Stream.{Stream, outside, inside, begin, Event, nothing, closed, dropped_pair, dropped_long, on, ends, collect, step, strays, after, HandedUp, hand_up, handed_up_from, handed_up}
use Rattle.protocol.proofs.FrameLaws.{double_nil, double_dle, double_lone, double_snoc, length-content_of, judge-content_of}

-- One byte outside: it hands nothing up; a 10h waits, also behind another (02, section 2); behind a 10h that waits, any byte but 10h
-- and 02 leaves nothing waiting.
outside_silent : (w : Bool) (b : ℕ) → (step (outside w) b).event ≡ nothing
unfolding step
outside_silent false b = refl
outside_silent true b = refl

stray_waits : (w : Bool) → step (outside w) DLE ≡ on (outside true)
unfolding step
stray_waits false = refl
stray_waits true = refl

others_outside : (b : ℕ) → eqb b DLE ≡ false → eqb b STX ≡ false → step (outside true) b ≡ on begin
unfolding step
others_outside b e f = rw (e, f)

-- One byte inside: content where there is room, and beyond it the frame is dropped with nothing waiting, also where the byte is the
-- second of 10 10: a 02 behind it opens nothing.
collect-on : (c : List ℕ) (b : ℕ) → length c < max_content → collect c b ≡ on (inside false (c ++ b ∷ []))
unfolding collect
collect-on c b h = rw (lt-ltb (length c) max_content h)

step_lone : (c : List ℕ) (b : ℕ) → eqb b DLE ≡ false → length c < max_content
    → step (inside false c) b ≡ on (inside false (c ++ b ∷ []))
unfolding step
step_lone c b e h = rw e (collect-on c b h)

step-pair : (c : List ℕ) → length c < max_content → step (inside true c) DLE ≡ on (inside false (c ++ DLE ∷ []))
unfolding step
step-pair c h = collect-on c DLE h

collect_full : (c : List ℕ) (b : ℕ) → max_content ≤ length c → collect c b ≡ ends dropped_long
unfolding collect
collect_full c b h = rw (le-ltb (length c) max_content h)

pub full_pair : (c : List ℕ) → max_content ≤ length c → step (inside true c) DLE ≡ ends dropped_long
unfolding step
full_pair c h = collect_full c DLE h

pub full_opens_none : (c : List ℕ) → max_content ≤ length c → after (inside false c) (DLE ∷ DLE ∷ STX ∷ []) ≡ begin
unfolding step after
full_opens_none c h = ap (λ r. after r.after (STX ∷ [])) (full_pair c h)

-- A step that brings nothing about.
on-after : (s s' : Stream) (b : ℕ) (bs : List ℕ) → step s b ≡ on s' → after s (b ∷ bs) ≡ after s' bs
unfolding after
on-after s s' b bs e = ap (λ r. after r.after bs) e

on_none_handed : (a : ℕ) (s s' : Stream) (n b : ℕ) (bs : List ℕ) → step s b ≡ on s'
    → handed_up_from a s n (b ∷ bs) ≡ handed_up_from a s' (suc n) bs
unfolding handed_up_from hand_up
on_none_handed a s s' n b bs e = ap (λ r. hand_up a (suc n) r.event ++ handed_up_from a r.after (suc n) bs) e

-- Bytes joined: the state, and what is handed up.
pub after-append : (s : Stream) (x y : List ℕ) → after s (x ++ y) ≡ after (after s x) y
unfolding after
after-append s [] y = refl
after-append s (b ∷ x) y = after-append (step s b).after x y

pub handed_up-append : (a : ℕ) (s : Stream) (n : ℕ) (x y : List ℕ)
    → handed_up_from a s n (x ++ y) ≡ handed_up_from a s n x ++ handed_up_from a (after s x) (n + length x) y
unfolding after handed_up_from
handed_up-append a s n [] y = ap (λ m. handed_up_from a s m y) (sym (add-zero n))
handed_up-append a s n (b ∷ x) y =
    ap (λ l. hand_up a (suc n) (step s b).event ++ l)
    (handed_up-append a (step s b).after (suc n) x y
    ∙ ap (λ m. handed_up_from a (step s b).after (suc n) x ++ handed_up_from a (after (step s b).after x) m y)
    (suc-add n (length x) ∙ sym (add-suc n (length x))))
    ∙ sym (append_assoc (hand_up a (suc n) (step s b).event) _ _)

-- Inside no 10h waits.
abbrev steady : Stream → Bool
steady (outside w) = true
steady (inside w c) = not w

collect_steady : (c : List ℕ) (b : ℕ) → steady (collect c b).after ≡ true
unfolding collect
collect_steady c b = go (ltb (length c) max_content)
  where
    go : (t : Bool) → steady (cond t (on (inside false (c ++ b ∷ []))) (ends dropped_long)).after ≡ true
    go true = refl
    go false = refl

opening_steady : (t w : Bool) → steady (cond t (inside false []) (outside w)) ≡ true
opening_steady true w = refl
opening_steady false w = refl

-- A lone byte, or a doubled 10h, leaves a steady reader steady.
lone_steady : (s : Stream) (b : ℕ) → eqb b DLE ≡ false → steady s ≡ true → steady (step s b).after ≡ true
unfolding step
lone_steady (outside false) b e h = refl
lone_steady (outside true) b e h = opening_steady (eqb b STX) (eqb b DLE)
lone_steady (inside false c) b e h = rw e (collect_steady c b)
lone_steady (inside true c) b e h = absurd (false≢true h)

pair_steady : (s : Stream) → steady s ≡ true → steady (after s (DLE ∷ DLE ∷ [])) ≡ true
unfolding step after
pair_steady (outside false) h = refl
pair_steady (outside true) h = refl
pair_steady (inside false c) h = collect_steady c DLE
pair_steady (inside true c) h = absurd (false≢true h)

double_steady : (d : List ℕ) (s : Stream) → steady s ≡ true → steady (after s (double d)) ≡ true
unfolding after double
double_steady [] s h = h
double_steady (b ∷ bs) s h = go (eqb b DLE) refl (double_steady bs)
  where
    go : (t : Bool) → eqb b DLE ≡ t → ((s : Stream) → steady s ≡ true → steady (after s (double bs)) ≡ true)
        → steady (after s (double (b ∷ bs))) ≡ true
    go true e ih = rw (double_dle b bs e) (ih (after s (DLE ∷ DLE ∷ [])) (pair_steady s h))
    go false e ih = rw (double_lone b bs e) (ih (step s b).after (lone_steady s b e h))

-- 10 02 leaves any reader steady, and 10 03 a steady one outside.
open_steady : (s : Stream) → steady (after s (DLE ∷ STX ∷ [])) ≡ true
unfolding step after
open_steady (outside false) = refl
open_steady (outside true) = refl
open_steady (inside false c) = refl
open_steady (inside true c) = lone_steady (collect c DLE).after STX refl (collect_steady c DLE)

close_outside : (s : Stream) → steady s ≡ true → after s (DLE ∷ ETX ∷ []) ≡ begin
unfolding step after
close_outside (outside false) h = refl
close_outside (outside true) h = refl
close_outside (inside false c) h = refl
close_outside (inside true c) h = absurd (false≢true h)

-- After a whole frame any reader is outside, with nothing waiting.
pub after-wrap : (s : Stream) (c : List ℕ) → after s (wrap c) ≡ begin
unfolding wrap
after-wrap s c =
    after-append s (DLE ∷ STX ∷ []) (double c ++ DLE ∷ ETX ∷ [])
    ∙ after-append (after s (DLE ∷ STX ∷ [])) (double c) (DLE ∷ ETX ∷ [])
    ∙ close_outside (after (after s (DLE ∷ STX ∷ [])) (double c)) (double_steady c (after s (DLE ∷ STX ∷ [])) (open_steady s))

pub after_frame : (s : Stream) (a : ℕ) (d : List ℕ) → after s (frame a d) ≡ begin
unfolding frame
after_frame s a d = after-wrap s (content_of a d)

-- One content byte more at the end.
double_snoc_lone : (c : List ℕ) (b : ℕ) → eqb b DLE ≡ false → double (c ++ b ∷ []) ≡ double c ++ b ∷ []
double_snoc_lone c b e = double_snoc c b ∙ ap (λ t. double c ++ cond t (DLE ∷ DLE ∷ []) (b ∷ [])) e

double_snoc_dle : (c : List ℕ) → double (c ++ DLE ∷ []) ≡ double c ++ DLE ∷ DLE ∷ []
double_snoc_dle c = double_snoc c DLE

-- Inside a frame that has room, doubled content is collected and nothing is handed up.
pub record Collected (a : ℕ) (c d : List ℕ) (n : ℕ) : Type 0 where
  pub state : after (inside false c) (double d) ≡ inside false (c ++ d)
  pub none_handed : handed_up_from a (inside false c) n (double d) ≡ []

collected : (a : ℕ) (d c : List ℕ) (n : ℕ) → length c + length d ≤ max_content → Collected a c d n
unfolding after handed_up_from double step hand_up
collected a [] c n h = record { state = ap (inside false) (sym (append-nil c)); none_handed = refl }
collected a (b ∷ bs) c n h = go (eqb b DLE) refl (collected a bs (c ++ b ∷ []))
  where
    fits : length (c ++ b ∷ []) + length bs ≤ max_content
    fits = omega (arith, length-append c (b ∷ []))

    room : length c < max_content
    room = omega arith

    joined : inside false ((c ++ b ∷ []) ++ bs) ≡ inside false (c ++ b ∷ bs)
    joined = ap (inside false) (append_assoc c (b ∷ []) bs)

    go : (t : Bool) → eqb b DLE ≡ t
        → ((n : ℕ) → length (c ++ b ∷ []) + length bs ≤ max_content → Collected a (c ++ b ∷ []) bs n) → Collected a c (b ∷ bs) n
    go true e ih =
        let pair : step (inside true c) DLE ≡ on (inside false (c ++ b ∷ [])) =
        step-pair c room ∙ ap (λ x. on (inside false (c ++ x ∷ []))) (sym (eqb-true b DLE e)) in
        let r : Collected a (c ++ b ∷ []) bs (suc (suc n)) = ih (suc (suc n)) fits in
        record {
          state =
              ap (after (inside false c)) (double_dle b bs e)
              ∙ on-after (inside true c) _ DLE (double bs) pair
              ∙ r.state
              ∙ joined;
          none_handed =
              ap (handed_up_from a (inside false c) n) (double_dle b bs e)
              ∙ on_none_handed a (inside true c) _ (suc n) DLE (double bs) pair
              ∙ r.none_handed;
        }
    go false e ih =
        let r : Collected a (c ++ b ∷ []) bs (suc n) = ih (suc n) fits in
        record {
          state =
              ap (after (inside false c)) (double_lone b bs e)
              ∙ on-after (inside false c) _ b (double bs) (step_lone c b e room)
              ∙ r.state
              ∙ joined;
          none_handed =
              ap (handed_up_from a (inside false c) n) (double_lone b bs e)
              ∙ on_none_handed a (inside false c) _ n b (double bs) (step_lone c b e room)
              ∙ r.none_handed;
        }

-- What a frame closed at an end hands up.
abbrev pub closed_at : ℕ → List ℕ → ℕ → HandedUp
closed_at a c end = record { frame = judge a c; end = end }

length-wrap : (c : List ℕ) → length (wrap c) ≡ length (double c) + 4
unfolding wrap
length-wrap c = omega (arith, length-append (double c) (DLE ∷ ETX ∷ []))

-- From outside, a whole frame hands up one closed frame, with its content, at its last byte.
pub handed_up-wrap : (a n : ℕ) (c : List ℕ) → length c ≤ max_content
    → handed_up_from a begin n (wrap c) ≡ closed_at a c (n + length (wrap c)) ∷ []
unfolding wrap handed_up_from hand_up step
handed_up-wrap a n c h =
    let r : Collected a [] c (suc (suc n)) = collected a c [] (suc (suc n)) (omega arith) in
    let m : ℕ = suc (suc n) + length (double c) in
    let end : suc (suc m) ≡ n + length (wrap c) = omega (arith, length-wrap c) in
    handed_up-append a (inside false []) (suc (suc n)) (double c) (DLE ∷ ETX ∷ [])
    ∙ ap₂ (λ l s. l ++ handed_up_from a s m (DLE ∷ ETX ∷ [])) r.none_handed r.state
    ∙ ap (λ e. closed_at a c e ∷ []) end

-- 02, section 2: outside, with a 10h waiting or none, stray 10h before another change nothing but the place.
strays-after : (n : ℕ) (w : Bool) (bs : List ℕ) → after (outside w) (strays n ++ DLE ∷ bs) ≡ after begin (DLE ∷ bs)
strays-after zero w bs =
    on-after (outside w) (outside true) DLE bs (stray_waits w) ∙ sym (on-after begin (outside true) DLE bs (stray_waits false))
strays-after (suc n) w bs =
    on-after (outside w) (outside true) DLE (strays n ++ DLE ∷ bs) (stray_waits w) ∙ strays-after n true bs

strays-handed : (a m n : ℕ) (w : Bool) (bs : List ℕ)
    → handed_up_from a (outside w) m (strays n ++ DLE ∷ bs) ≡ handed_up_from a begin (m + n) (DLE ∷ bs)
strays-handed a m zero w bs =
    on_none_handed a (outside w) (outside true) m DLE bs (stray_waits w)
    ∙ sym (on_none_handed a begin (outside true) m DLE bs (stray_waits false))
    ∙ ap (λ k. handed_up_from a begin k (DLE ∷ bs)) (sym (add-zero m))
strays-handed a m (suc n) w bs =
    on_none_handed a (outside w) (outside true) m DLE (strays n ++ DLE ∷ bs) (stray_waits w)
    ∙ strays-handed a (suc m) n true bs
    ∙ ap (λ k. handed_up_from a begin k (DLE ∷ bs)) (suc-add m n ∙ sym (add-suc m n))

-- The frame of data of 1 to 256 bytes, for its own address: the data is handed up.
pub handed_up-frame : (a n : ℕ) (d : List ℕ) → Sized d
    → handed_up_from a begin n (frame a d) ≡ record { frame = received d; end = n + length (frame a d) } ∷ []
unfolding frame
handed_up-frame a n d h =
    handed_up-wrap a n (content_of a d) (omega (arith, h.most, length-content_of a d))
    ∙ ap (λ r. record { frame = r; end = n + length (frame a d) } ∷ []) (judge-content_of a d h.least)

strays-frame : (a m n : ℕ) (w : Bool) (d : List ℕ)
    → handed_up_from a (outside w) m (strays n ++ frame a d) ≡ handed_up_from a begin (m + n) (frame a d)
unfolding frame wrap
strays-frame a m n w d = strays-handed a m n w (STX ∷ (double (content_of a d) ++ DLE ∷ ETX ∷ []))

-- 02, section 2: after any bytes that leave the reader outside, a good frame for the address behind any number of stray 10h is
-- handed up at its first sending.
pub first_sending : (a n : ℕ) (w : Bool) (before d : List ℕ) → after begin before ≡ outside w → Sized d
    → handed_up a (before ++ (strays n ++ frame a d))
    ≡ handed_up a before ++ record { frame = received d; end = length (before ++ (strays n ++ frame a d)) } ∷ []
first_sending a n w before d o h =
    let sent : List ℕ = strays n ++ frame a d in
    let end : 0 + length before + n + length (frame a d) ≡ length (before ++ sent) =
    omega (arith, length-append before sent, length-append (strays n) (frame a d), length-replicate n DLE) in
    handed_up-append a begin 0 before sent
    ∙ ap (λ s. handed_up a before ++ handed_up_from a s (0 + length before) sent) o
    ∙ ap (λ l. handed_up a before ++ l)
    (strays-frame a (0 + length before) n w d ∙ handed_up-frame a (0 + length before + n) d h)
    ∙ ap (λ e. handed_up a before ++ record { frame = received d; end = e } ∷ []) end

-- After such bytes a run of one or more 10h and then 02 opens a frame with no content; such a run and then any byte but 10h and 02
-- leaves the reader outside, with nothing waiting. Nothing is handed up.
pub record Leads (a : ℕ) (before more : List ℕ) (s : Stream) : Type 0 where
  pub state : after begin (before ++ more) ≡ s
  pub none_handed : handed_up a (before ++ more) ≡ handed_up a before

run_last : (n : ℕ) (bs : List ℕ) → strays (suc n) ++ bs ≡ strays n ++ DLE ∷ bs
run_last zero bs = refl
run_last (suc n) bs = ap (λ l. DLE ∷ l) (run_last n bs)

strays_lead : (a n : ℕ) (w : Bool) (before : List ℕ) (b : ℕ) (s : Stream) → after begin before ≡ outside w → step (outside true) b ≡ on s
    → Leads a before (strays (suc n) ++ b ∷ []) s
unfolding step after hand_up handed_up_from
strays_lead a n w before b s o e =
    let m : ℕ = 0 + length before in
    let more : List ℕ = strays n ++ DLE ∷ b ∷ [] in
    rw (run_last n (b ∷ []))
    (record {
      state =
          after-append begin before more
          ∙ ap (λ x. after x more) o
          ∙ strays-after n w (b ∷ [])
          ∙ on-after (outside true) s b [] e;
      none_handed =
          handed_up-append a begin 0 before more
          ∙ ap (λ x. handed_up a before ++ handed_up_from a x m more) o
          ∙ ap (λ l. handed_up a before ++ l) (strays-handed a m n w (b ∷ []) ∙ on_none_handed a (outside true) s (suc (m + n)) b [] e)
          ∙ append-nil (handed_up a before);
    })

pub strays_open : (a n : ℕ) (w : Bool) (before : List ℕ) → after begin before ≡ outside w
    → Leads a before (strays (suc n) ++ STX ∷ []) (inside false [])
unfolding step
strays_open a n w before o = strays_lead a n w before STX (inside false []) o refl

pub strays_lost : (a n : ℕ) (w : Bool) (before : List ℕ) (b : ℕ) → after begin before ≡ outside w → eqb b DLE ≡ false → eqb b STX ≡ false
    → Leads a before (strays (suc n) ++ b ∷ []) begin
strays_lost a n w before b o e f = strays_lead a n w before b begin o (others_outside b e f)

-- The second sending: after any bytes, a good frame for the address that is sent twice in a row is handed up by its end.
pub second_sending : (a : ℕ) (noise d : List ℕ) → Sized d
    → handed_up a ((noise ++ frame a d) ++ frame a d)
    ≡ handed_up a (noise ++ frame a d) ++ record { frame = received d; end = length ((noise ++ frame a d) ++ frame a d) } ∷ []
second_sending a noise d h =
    first_sending a 0 false (noise ++ frame a d) d (after-append begin noise (frame a d) ∙ after_frame (after begin noise) a d) h

-- How the bytes read so far end, by the state they lead to.
abbrev pub Ends : Stream → List ℕ → Type 0
Ends (outside false) bs = Unit {0}
Ends (outside true) bs = (front : List ℕ) × (bs ≡ front ++ DLE ∷ [])
Ends (inside false c) bs = (front : List ℕ) × (bs ≡ front ++ (DLE ∷ STX ∷ double c))
Ends (inside true c) bs = (front : List ℕ) × (bs ≡ front ++ (DLE ∷ STX ∷ (double c ++ DLE ∷ [])))

-- One byte more behind a list whose end is known.
snoc : (bs front tail : List ℕ) (b : ℕ) → bs ≡ front ++ tail → bs ++ b ∷ [] ≡ front ++ (tail ++ b ∷ [])
snoc bs front tail b e = ap (λ l. l ++ b ∷ []) e ∙ append_assoc front tail (b ∷ [])

collect-ends : (c front bs : List ℕ) (b : ℕ) → bs ≡ front ++ (DLE ∷ STX ∷ double (c ++ b ∷ [])) → Ends (collect c b).after bs
unfolding collect
collect-ends c front bs b h = go (ltb (length c) max_content)
  where
    go : (t : Bool) → Ends (cond t (on (inside false (c ++ b ∷ []))) (ends dropped_long)).after bs
    go true = (front, h)
    go false = tt

-- The end of the bytes read, one byte on: by where the reader stood, and by the tests on the byte.
outside_ends : (bs : List ℕ) (b : ℕ) → Ends (outside (eqb b DLE)) (bs ++ b ∷ [])
outside_ends bs b = go (eqb b DLE) refl
  where
    go : (t : Bool) → eqb b DLE ≡ t → Ends (outside t) (bs ++ b ∷ [])
    go true e = (bs, ap (λ x. bs ++ x ∷ []) (eqb-true b DLE e))
    go false e = tt

opening_ends : (bs front : List ℕ) (b : ℕ) → bs ≡ front ++ DLE ∷ [] → Ends (step (outside true) b).after (bs ++ b ∷ [])
unfolding step
opening_ends bs front b h = go (eqb b STX) refl
  where
    go : (t : Bool) → eqb b STX ≡ t → Ends (cond t (inside false []) (outside (eqb b DLE))) (bs ++ b ∷ [])
    go true e = (
      front,
      snoc bs front (DLE ∷ []) b h
          ∙ ap₂ (λ x l. front ++ (DLE ∷ x ∷ l)) (eqb-true b STX e) (sym double_nil),
    )
    go false e = outside_ends bs b

lone_ends : (c bs front : List ℕ) (b : ℕ) → bs ≡ front ++ (DLE ∷ STX ∷ double c)
    → Ends (step (inside false c) b).after (bs ++ b ∷ [])
unfolding step
lone_ends c bs front b h = go (eqb b DLE) refl
  where
    more : bs ++ b ∷ [] ≡ front ++ (DLE ∷ STX ∷ (double c ++ b ∷ []))
    more = snoc bs front (DLE ∷ STX ∷ double c) b h

    go : (t : Bool) → eqb b DLE ≡ t → Ends (cond t (on (inside true c)) (collect c b)).after (bs ++ b ∷ [])
    go true e = (front, more ∙ ap (λ x. front ++ (DLE ∷ STX ∷ (double c ++ x ∷ []))) (eqb-true b DLE e))
    go false e =
        collect-ends c front (bs ++ b ∷ []) b (more ∙ ap (λ l. front ++ (DLE ∷ STX ∷ l)) (sym (double_snoc_lone c b e)))

pair_ends : (c bs front : List ℕ) (b : ℕ) → bs ≡ front ++ (DLE ∷ STX ∷ (double c ++ DLE ∷ []))
    → Ends (step (inside true c) b).after (bs ++ b ∷ [])
unfolding step
pair_ends c bs front b h = go (eqb b DLE) refl (eqb b ETX) (eqb b STX) refl
  where
    more : bs ++ b ∷ [] ≡ front ++ (DLE ∷ STX ∷ (double c ++ DLE ∷ b ∷ []))
    more =
        snoc bs front (DLE ∷ STX ∷ (double c ++ DLE ∷ [])) b h
        ∙ ap (λ l. front ++ (DLE ∷ STX ∷ l)) (append_assoc (double c) (DLE ∷ []) (b ∷ []))

    go : (t : Bool) → eqb b DLE ≡ t → (u v : Bool) → eqb b STX ≡ v
        → Ends (cond t (collect c DLE) (cond u (ends (closed c)) (cond v (on (inside false [])) (ends dropped_pair)))).after (bs ++ b ∷ [])
    go true e u v g =
        collect-ends c front (bs ++ b ∷ []) DLE
        (more
        ∙ ap (λ x. front ++ (DLE ∷ STX ∷ (double c ++ DLE ∷ x ∷ []))) (eqb-true b DLE e)
        ∙ ap (λ l. front ++ (DLE ∷ STX ∷ l)) (sym (double_snoc_dle c)))
    go false e true v g = tt
    go false e false true g = (
      front ++ (DLE ∷ STX ∷ double c),
      more
          ∙ ap (λ x. front ++ (DLE ∷ STX ∷ (double c ++ DLE ∷ x ∷ []))) (eqb-true b STX g)
          ∙ sym (append_assoc front (DLE ∷ STX ∷ double c) (DLE ∷ STX ∷ []))
          ∙ ap (λ l. (front ++ (DLE ∷ STX ∷ double c)) ++ (DLE ∷ STX ∷ l)) (sym double_nil),
    )
    go false e false false g = tt

ends-step : (s : Stream) (bs : List ℕ) (b : ℕ) → Ends s bs → Ends (step s b).after (bs ++ b ∷ [])
unfolding step
ends-step (outside false) bs b h = outside_ends bs b
ends-step (outside true) bs b h = opening_ends bs h.0 b h.1
ends-step (inside false c) bs b h = lone_ends c bs h.0 b h.1
ends-step (inside true c) bs b h = pair_ends c bs h.0 b h.1

ends-after : (s : Stream) (bs more : List ℕ) → Ends s bs → Ends (after s more) (bs ++ more)
unfolding after
ends-after s bs [] h = rw (append-nil bs) h
ends-after s bs (b ∷ more) h = rw append_assoc at (ends-after (step s b).after (bs ++ b ∷ []) more (ends-step s bs b h))

-- The bytes of a stream end as the state that they lead to says.
pub bytes_end : (bs : List ℕ) → Ends (after begin bs) bs
bytes_end bs = ends-after begin [] bs tt

-- Events that close no frame.
abbrev closes : Event → Bool
closes nothing = false
closes (closed c) = true
closes dropped_pair = false
closes dropped_long = false

not_closing : (e : Event) (c : List ℕ) → closes e ≡ false → e ≡ closed c → ⊥
not_closing e c f h = false≢true (sym f ∙ ap closes h)

collect_open : (c : List ℕ) (b : ℕ) → closes (collect c b).event ≡ false
unfolding collect
collect_open c b = go (ltb (length c) max_content)
  where
    go : (t : Bool) → closes (cond t (on (inside false (c ++ b ∷ []))) (ends dropped_long)).event ≡ false
    go true = refl
    go false = refl

-- The byte that closes a frame: a 10h waited inside, the byte is 03, and the content is what was collected.
pub closing : (s : Stream) (b : ℕ) (c : List ℕ) → (step s b).event ≡ closed c → (s ≡ inside true c) × (b ≡ ETX)
unfolding step
closing (outside w) b c h = absurd (not_closing nothing c refl (sym (outside_silent w b) ∙ h))
closing (inside false d) b c h = absurd (not_closing _ c (go (eqb b DLE)) h)
  where
    go : (t : Bool) → closes (cond t (on (inside true d)) (collect d b)).event ≡ false
    go true = refl
    go false = collect_open d b
closing (inside true d) b c h = go (eqb b DLE) (eqb b ETX) refl (eqb b STX) h
  where
    go : (t u : Bool) → eqb b ETX ≡ u → (v : Bool)
        → (cond t (collect d DLE) (cond u (ends (closed d)) (cond v (on (inside false [])) (ends dropped_pair)))).event ≡ closed c
        → (inside true d ≡ inside true c) × (b ≡ ETX)
    go true u e v h = absurd (not_closing (collect d DLE).event c (collect_open d DLE) h)
    go false true e v h = (cc, eqb-true b ETX e)
    go false false e true h = absurd (not_closing nothing c refl h)
    go false false e false h = absurd (not_closing dropped_pair c refl h)

-- Each closed frame's content, doubled between 10 02 and 10 03, stands unbroken at the end of the bytes read.
pub closed_stands : (bs : List ℕ) (b : ℕ) (c : List ℕ) → (step (after begin bs) b).event ≡ closed c
    → (front : List ℕ) × (bs ++ b ∷ [] ≡ front ++ wrap c)
unfolding wrap
closed_stands bs b c h =
    let p : (after begin bs ≡ inside true c) × (b ≡ ETX) = closing (after begin bs) b c h in
    let e : Ends (inside true c) bs = subst (λ s. Ends s bs) p.0 (bytes_end bs) in (
      e.0,
      snoc bs e.0 (DLE ∷ STX ∷ (double c ++ DLE ∷ [])) b e.1
          ∙ ap (λ l. e.0 ++ (DLE ∷ STX ∷ l)) (append_assoc (double c) (DLE ∷ []) (b ∷ []))
          ∙ ap (λ x. e.0 ++ (DLE ∷ STX ∷ (double c ++ DLE ∷ x ∷ []))) p.1,
    )
