-- Bytes fed from a place: the reader's place and the state's bytes go with the stream rule.
-- Assumes nothing.
use Prim.Native.Nat.{ℕ, zero, suc, ◌+◌, ◌*◌, ◌/◌, ◌%◌, ◌^◌, ◌<◌, ◌≤◌}
use native.Mathlib.Omega.{arith}
use native.Mathlib.Nat.{add-zero, zero-add, add_comm}
use native.Mathlib.Numerals.{add-one}
use mathlib.Core.Path.{◌≡◌, refl, sym, ap, ap₂, subst, ◌∙◌}
use mathlib.Core.Bool.{Bool, true, false, cond, ◌||◌, false≢true}
use mathlib.Core.List.{List, [], ◌∷◌, ◌++◌}
use borrow.Author.Tests.{ne_eqb, eqb-true, ltb-true, leb-true}
use lib.ListN.{length, get_or, take, drop, set, length-append, length-take, length-drop, length-set, take-append-drop, drop_of_length-le}
use lib.Seq.{drop-cons, drop-drop, take_all, take-take, length-take-le, drop-set-lt, drop-set-add, take-suc-set}
use lib.Dec.{eqb, ltb, leb}
use Rattle.protocol.specs.Numbers.{DLE, STX, ETX, max_content}
use Rattle.protocol.specs.Bytes.{Bytes, half}
use Rattle.protocol.specs.Buffer.{over}
use Rattle.protocol.specs.Stream as rule
use Rattle.protocol.specs.Stream.{Stream, outside, inside, Event, step, collect, on, ends}
use Rattle.protocol.proofs.TestLaws.{and_left, and_right}
use Rattle.stream.specs.declared.state.Place.{Place}
use Rattle.protocol.specs.declared.Refusal.{Refusal}
use Rattle.protocol.specs.declared.Refusal.TheVariants.{BadPair, TooLong}
use Rattle.stream.specs.declared.state.Phase.{Phase}
use Rattle.stream.specs.declared.state.Phase.TheVariants.{Outside, OutsideWaiting, Inside, InsideWaiting}
use Rattle.stream.specs.declared.feed.Move.{Move}
use Rattle.stream.specs.declared.feed.Move.TheVariants.{On, Keep, Closed, Dropped}
use Rattle.std.proofs.Common.{Some, None, Ok, Err}
use Rattle.stream.specs.State.{state_length, phase_of, content_in, state_form, keep, phase_in, length_in, has_form, stream_with, standing}
use Rattle.stream.specs.Feed.{Ran, one_more, ended, next, run_from}
use Rattle.stream.specs.Steps.{phase_number, phase_at, place, Stands, collect_of, paired_of, outside_of, move_of, end_of, RunIs}

-- The form, as bytes in front of the rest.
abbrev pub head : Stream → List ℕ → List ℕ
head s rest = phase_of s ∷ (half (length (content_in s)) ++ rest)

pub keep_is : (s : Stream) (st : List ℕ) → keep s st ≡ head s (content_in s ++ drop (length (content_in s)) (drop 3 st))
unfolding over state_form half
keep_is s st =
    let n : ℕ = length (content_in s) in
    let e : 3 + n ≡ suc (suc (suc n)) = omega arith in
    ap (λ l. head s (content_in s ++ l)) (ap (λ m. drop m st) (sym e) ∙ sym (drop-drop n 3 st))

-- A state in which the content of a place stands already.
pub record Placed (s : Stream) (p : Place) (st : List ℕ) : Type 0 where
  pub phase : p.phase ≡ phase_at s
  pub len : p.len ≡ length (content_in s)
  pub most : p.len ≤ max_content
  pub content : take p.len (drop 3 st) ≡ content_in s
  pub size : length st ≡ state_length

-- Its form changes only its first three bytes.
pub keep_placed : {s : Stream} {p : Place} {st : List ℕ} → Placed s p st → keep s st ≡ head s (drop 3 st)
keep_placed {s} {p} {st} w =
    keep_is s st
    ∙ ap (head s)
    (ap₂ (λ c n. c ++ drop n (drop 3 st)) (sym w.content) (sym w.len) ∙ take-append-drop p.len (drop 3 st))

drop-keep : {s : Stream} {p : Place} {st : List ℕ} → Placed s p st → drop 3 (keep s st) ≡ drop 3 st
unfolding half
drop-keep w = ap (drop 3) (keep_placed w)

keep_past : (s : Stream) (x y : List ℕ) → drop (length (content_in s)) (drop 3 x) ≡ drop (length (content_in s)) (drop 3 y)
    → keep s x ≡ keep s y
keep_past s x y e = keep_is s x ∙ ap (λ l. head s (content_in s ++ l)) e ∙ sym (keep_is s y)

keep_by : (s : Stream) (x y : List ℕ) → drop 3 x ≡ drop 3 y → keep s x ≡ keep s y
keep_by s x y e = keep_past s x y (ap (drop (length (content_in s))) e)

-- What a move says of a step.
abbrev Moved : Stream → ℕ → Move → Type 0
Moved s b (On p) =
    ((step s b).event ≡ rule.nothing)
    × (p.phase ≡ phase_at (step s b).after)
    × (p.len ≡ length (content_in (step s b).after))
    × (take p.len (content_in s) ≡ content_in (step s b).after)
Moved s b (Keep p) = (step s b ≡ on (inside false (content_in s ++ b ∷ []))) × (p ≡ place Inside (length (content_in s) + 1)) × (length (content_in s) < max_content)
Moved s b Closed = step s b ≡ ends (rule.closed (content_in s))
Moved s b (Dropped e) = (x : Event) × (step s b ≡ ends x) × (end_of x ≡ Err e)

on_moved : (s s' : Stream) (b : ℕ) (p : Place) → step s b ≡ on s' → p.phase ≡ phase_at s' → p.len ≡ length (content_in s')
    → take p.len (content_in s) ≡ content_in s' → Moved s b (On p)
on_moved s s' b p e f g h = (
  ap (λ m. m.event) e,
  f ∙ sym (ap (λ m. phase_at m.after) e),
  g ∙ sym (ap (λ m. length (content_in m.after)) e),
  h ∙ sym (ap (λ m. content_in m.after) e),
)

collect_moved : (s : Stream) (b : ℕ) → step s b ≡ collect (content_in s) b → Moved s b (collect_of (length (content_in s)))
unfolding collect_of collect
collect_moved s b e = go (ltb (length (content_in s)) max_content) refl
  where
    go : (t : Bool) → ltb (length (content_in s)) max_content ≡ t
        → Moved s b (cond t (Keep (place Inside (length (content_in s) + 1))) (Dropped TooLong))
    go true h = (e ∙ rw h, refl, ltb-true (length (content_in s)) max_content h)
    go false h = (rule.dropped_long, e ∙ rw h, refl)

paired_moved : (c : List ℕ) (b : ℕ) → Moved (inside true c) b (paired_of (length c) b)
unfolding paired_of step
paired_moved c b = go (eqb b DLE) refl (eqb b ETX) refl (eqb b STX) refl
  where
    go : (t : Bool) → eqb b DLE ≡ t → (u : Bool) → eqb b ETX ≡ u → (v : Bool) → eqb b STX ≡ v
        → Moved (inside true c) b
        (cond t (collect_of (length c)) (cond u Closed (cond v (On (place Inside 0)) (Dropped BadPair))))
    go true e u f v g = collect_moved (inside true c) b (rw e (ap (collect c) (sym (eqb-true b DLE e))))
    go false e true f v g = rw (e, f)
    go false e false f true g = on_moved (inside true c) (inside false []) b (place Inside 0) (rw (e, f, g)) refl refl refl
    go false e false f false g = (rule.dropped_pair, rw (e, f, g), refl)

lone_moved : (c : List ℕ) (b : ℕ)
    → Moved (inside false c) b (cond (eqb b DLE) (On (place InsideWaiting (length c))) (collect_of (length c)))
unfolding step
lone_moved c b = go (eqb b DLE) refl
  where
    go : (t : Bool) → eqb b DLE ≡ t
        → Moved (inside false c) b (cond t (On (place InsideWaiting (length c))) (collect_of (length c)))
    go true e =
        on_moved (inside false c) (inside true c) b (place InsideWaiting (length c)) (rw e) refl refl
        (take_all (length c) c (omega arith))
    go false e = collect_moved (inside false c) b (rw e)

waits_moved : (w : Bool) (b : ℕ) → step (outside w) b ≡ on (outside (eqb b DLE)) → Moved (outside w) b (outside_of b)
unfolding outside_of
waits_moved w b h = go (eqb b DLE) refl
  where
    go : (t : Bool) → eqb b DLE ≡ t → Moved (outside w) b (On (place (cond t OutsideWaiting Outside) 0))
    go true e = on_moved (outside w) (outside true) b (place OutsideWaiting 0) (h ∙ ap (λ t. on (outside t)) e) refl refl refl
    go false e = on_moved (outside w) (outside false) b (place Outside 0) (h ∙ ap (λ t. on (outside t)) e) refl refl refl

opens_moved : (b : ℕ) → Moved (outside true) b (cond (eqb b STX) (On (place Inside 0)) (outside_of b))
unfolding step
opens_moved b = go (eqb b STX) refl
  where
    go : (t : Bool) → eqb b STX ≡ t → Moved (outside true) b (cond t (On (place Inside 0)) (outside_of b))
    go true e = on_moved (outside true) (inside false []) b (place Inside 0) (rw e) refl refl refl
    go false e = waits_moved true b (rw e)

outside_moved : (w : Bool) (b : ℕ) → Moved (outside w) b (move_of (phase_at (outside w)) 0 b)
unfolding move_of step
outside_moved false b = waits_moved false b refl
outside_moved true b = opens_moved b

moved : (s : Stream) (b : ℕ) → Moved s b (move_of (phase_at s) (length (content_in s)) b)
unfolding move_of
moved (outside false) b = outside_moved false b
moved (outside true) b = outside_moved true b
moved (inside false c) b = lone_moved c b
moved (inside true c) b = paired_moved c b

-- One byte fed, by its event.
abbrev plus : ℕ → Ran → Ran
plus i r = record { event = r.event; taken = i + r.taken; after = r.after; bytes = r.bytes }

pub run_cons : (s : Stream) (st : List ℕ) (b : ℕ) (bs : List ℕ)
    → run_from s st (b ∷ bs)
    ≡ next (step s b).event (step s b).after (keep (step s b).after st) (run_from (step s b).after (keep (step s b).after st) bs)
unfolding run_from
run_cons s st b bs = refl

run_on : (s : Stream) (st : List ℕ) (b : ℕ) (bs : List ℕ) → (step s b).event ≡ rule.nothing
    → run_from s st (b ∷ bs) ≡ one_more (run_from (step s b).after (keep (step s b).after st) bs)
unfolding next
run_on s st b bs e =
    run_cons s st b bs
    ∙ ap (λ x. next x (step s b).after (keep (step s b).after st) (run_from (step s b).after (keep (step s b).after st) bs)) e

-- Events that close no frame, and the content of one that does.
abbrev pub closes_one : Event → Bool
closes_one rule.nothing = false
closes_one (rule.closed c) = true
closes_one rule.dropped_pair = false
closes_one rule.dropped_long = false

pub not_closed : (e : Event) (c : List ℕ) → closes_one e ≡ false → e ≡ rule.closed c → ⊥
not_closed e c f h = false≢true (sym f ∙ ap closes_one h)

closed_same : {c d : List ℕ} → rule.closed d ≡ rule.closed c → c ≡ d
closed_same h = cc

-- The call so far: from the place where it began, with i bytes taken, to a place in the state as it is now.
pub record Running (st₀ bytes : List ℕ) (p : Place) (st : List ℕ) (i : ℕ) : Type 0 where
  pub s : Stream
  pub placed : Placed s p st
  pub whole : run_from (standing st₀) st₀ bytes ≡ plus i (run_from s (keep s st) (drop i bytes))
  pub within : i ≤ length bytes

plus_more : (i : ℕ) (r : Ran) → plus i (one_more r) ≡ plus (i + 1) r
plus_more i r =
    let e : i + suc r.taken ≡ i + 1 + r.taken = omega arith in
    ap (λ n. record { event = r.event; taken = n; after = r.after; bytes = r.bytes }) e

module _ (st₀ bytes : List ℕ) {p : Place} {st : List ℕ} {i : ℕ} (w : Running st₀ bytes p st i) (h : i < length bytes) where
  abbrev s : Stream
  s = w.s

  abbrev b : ℕ
  b = get_or bytes i 0

  first : drop i bytes ≡ b ∷ drop (i + 1) bytes
  first = drop-cons bytes i 0 h ∙ ap (λ n. b ∷ drop n bytes) (sym (add-one i))

  told : {m : Move} → m ≡ move_of p.phase p.len b → Moved s b m
  told e =
      subst (Moved s b)
      (sym (e ∙ ap₂ (λ x y. move_of x y b) w.placed.phase w.placed.len))
      (moved s b)

  -- The rest of the call, behind a byte that ends no frame.
  rest_on : (s' : Stream) (st' : List ℕ) → (step s b).event ≡ rule.nothing → (step s b).after ≡ s' → keep s' (keep s st) ≡ keep s' st'
      → run_from (standing st₀) st₀ bytes ≡ plus (i + 1) (run_from s' (keep s' st') (drop (i + 1) bytes))
  rest_on s' st' e f g =
      w.whole
      ∙ ap (λ l. plus i (run_from s (keep s st) l)) first
      ∙ ap (plus i) (run_on s (keep s st) b (drop (i + 1) bytes) e)
      ∙ plus_more i (run_from (step s b).after (keep (step s b).after (keep s st)) (drop (i + 1) bytes))
      ∙ ap (λ x. plus (i + 1) (run_from x (keep x (keep s st)) (drop (i + 1) bytes))) f
      ∙ ap (λ x. plus (i + 1) (run_from s' x (drop (i + 1) bytes))) g

  pub goes_on : {q : Place} → On q ≡ move_of p.phase p.len b → Running st₀ bytes q st (i + 1)
  goes_on {q} e =
      let m : Moved s b (On q) = told e in
      let s' : Stream = (step s b).after in
      let short : q.len ≤ p.len = omega (arith, m.2, ap length m.3, length-take q.len (content_in s), w.placed.len) in
      record {
        s = s';
        placed =
            record {
              phase = m.1;
              len = m.2;
              most = omega (arith, short, w.placed.most);
              content =
                  sym (take-take q.len p.len (drop 3 st) short) ∙ ap (take q.len) w.placed.content ∙ m.3;
              size = w.placed.size;
            };
        whole = rest_on s' st m.0 refl (keep_by s' (keep s st) st (drop-keep w.placed));
        within = omega (arith, h);
      }

  -- A content byte stored behind the others.
  pub fits : {q : Place} → Keep q ≡ move_of p.phase p.len b → p.len + 3 < length st
  fits {q} e = let m : Moved s b (Keep q) = told e in omega (arith, m.2, w.placed.len, w.placed.size)

  pub keeps : {q : Place} → Keep q ≡ move_of p.phase p.len b → Running st₀ bytes q (set st (p.len + 3) b) (i + 1)
  keeps {q} e =
      let m : Moved s b (Keep q) = told e in
      let c : List ℕ = content_in s in
      let s' : Stream = inside false (c ++ b ∷ []) in
      let area : List ℕ = drop 3 st in
      let one : q.len ≡ suc p.len = ap (λ x. x.len) m.1 ∙ add-one (length c) ∙ ap suc (sym w.placed.len) in
      let grown : length (c ++ b ∷ []) ≡ suc p.len = omega (arith, length-append c (b ∷ []), w.placed.len) in
      let room : p.len < length area = omega (arith, m.2, w.placed.len, w.placed.size, length-drop 3 st) in
      let stored : drop 3 (set st (p.len + 3) b) ≡ set area p.len b =
      ap (λ n. drop 3 (set st n b)) (add_comm p.len 3) ∙ drop-set-add 3 st p.len b in
      let past : drop (length (c ++ b ∷ [])) (drop 3 (keep s st)) ≡ drop (length (c ++ b ∷ [])) (drop 3 (set st (p.len + 3) b)) =
      ap (drop (length (c ++ b ∷ []))) (drop-keep w.placed)
      ∙ sym (ap (drop (length (c ++ b ∷ []))) stored ∙ drop-set-lt (length (c ++ b ∷ [])) area p.len b (omega (arith, grown))) in
      record {
        s = s';
        placed =
            record {
              phase = ap (λ x. x.phase) m.1;
              len = one ∙ sym grown;
              most = omega (arith, one, m.2, w.placed.len);
              content =
                  ap₂ take one stored
                  ∙ take-suc-set area p.len b room
                  ∙ ap (λ l. l ++ b ∷ []) w.placed.content;
              size = length-set st (p.len + 3) b ∙ w.placed.size;
            };
        whole = rest_on s' (set st (p.len + 3) b) (ap (λ x. x.event) m.0) (ap (λ x. x.after) m.0) (keep_past s' (keep s st) (set st (p.len + 3) b) past);
        within = omega (arith, h);
      }

  -- A byte that closes or drops a frame.
  ends_with : (x : Event) → step s b ≡ ends x → ((r : Ran) → next x rule.begin (keep rule.begin (keep s st)) r ≡ ended x rule.begin (keep rule.begin (keep s st)))
      → ((c : List ℕ) → x ≡ rule.closed c → c ≡ content_in s)
      → RunIs (run_from (standing st₀) st₀ bytes) (end_of x) (i + 1) (place Outside 0) st
  ends_with x e f g =
      let k : List ℕ = keep s st in
      let bs : List ℕ = drop (i + 1) bytes in
      let is : run_from (standing st₀) st₀ bytes ≡ plus i (ended x rule.begin (keep rule.begin k)) =
      w.whole
      ∙ ap (λ l. plus i (run_from s k l)) first
      ∙ ap (plus i)
      (run_cons s k b bs
      ∙ ap (λ m. next m.event m.after (keep m.after k) (run_from m.after (keep m.after k) bs)) e
      ∙ f (run_from rule.begin (keep rule.begin k) bs)) in
      subst (λ r. RunIs r (end_of x) (i + 1) (place Outside 0) st) (sym is)
      (record {
        end = refl;
        taken = refl;
        phase = refl;
        len = refl;
        most = omega arith;
        content = refl;
        bytes = sym (keep_by rule.begin k st (drop-keep w.placed));
        size = w.placed.size;
        closed = λ c q.
            let long : length c ≡ p.len = ap length (g c q) ∙ sym w.placed.len in
            (ap (λ n. take n (drop 3 st)) long ∙ w.placed.content ∙ sym (g c q), omega (arith, long, w.placed.most));
      })

  pub closes : Closed ≡ move_of p.phase p.len b
      → RunIs (run_from (standing st₀) st₀ bytes) (Ok (Some p.len)) (i + 1) (place Outside 0) st
  unfolding next
  closes e =
      subst (λ n. RunIs (run_from (standing st₀) st₀ bytes) (Ok (Some n)) (i + 1) (place Outside 0) st) (sym w.placed.len)
      (ends_with (rule.closed (content_in s)) (told e) (λ r. refl) (λ c q. closed_same q))

  drops_by : (x : Event) {f : Refusal} → step s b ≡ ends x → end_of x ≡ Err f
      → RunIs (run_from (standing st₀) st₀ bytes) (Err f) (i + 1) (place Outside 0) st
  unfolding next
  drops_by rule.nothing e q = absurd (cc)
  drops_by (rule.closed c) e q = absurd (cc)
  drops_by rule.dropped_pair {f} e q =
      subst (λ r. RunIs (run_from (standing st₀) st₀ bytes) r (i + 1) (place Outside 0) st) q
      (ends_with rule.dropped_pair e (λ r. refl) (λ c q. absurd (not_closed rule.dropped_pair c refl q)))
  drops_by rule.dropped_long {f} e q =
      subst (λ r. RunIs (run_from (standing st₀) st₀ bytes) r (i + 1) (place Outside 0) st) q
      (ends_with rule.dropped_long e (λ r. refl) (λ c q. absurd (not_closed rule.dropped_long c refl q)))

  pub drops : {f : Refusal} → Dropped f ≡ move_of p.phase p.len b
      → RunIs (run_from (standing st₀) st₀ bytes) (Err f) (i + 1) (place Outside 0) st
  drops {f} e =
      let m : Moved s b (Dropped f) = told e in
      drops_by m.0 m.1 m.2

-- All bytes taken.
pub all_taken : (st₀ bytes : List ℕ) {p : Place} {st : List ℕ} {i : ℕ} → Running st₀ bytes p st i → length bytes ≤ i
    → RunIs (run_from (standing st₀) st₀ bytes) (Ok None) i p st
unfolding run_from
all_taken st₀ bytes {p} {st} {i} w h =
    let none_left : drop i bytes ≡ [] = drop_of_length-le bytes h in
    let is : run_from (standing st₀) st₀ bytes ≡ record { event = rule.nothing; taken = i; after = w.s; bytes = keep w.s st } =
    w.whole
    ∙ ap (λ l. plus i (run_from w.s (keep w.s st) l)) none_left
    ∙ ap (λ n. record { event = rule.nothing; taken = n; after = w.s; bytes = keep w.s st }) (add-zero i) in
    subst (λ r. RunIs r (Ok None) i p st) (sym is)
    (record {
      end = refl;
      taken = refl;
      phase = w.placed.phase;
      len = w.placed.len;
      most = w.placed.most;
      content = w.placed.content;
      bytes = refl;
      size = w.placed.size;
      closed = λ c q. absurd (not_closed rule.nothing c refl q);
    })

-- A state that has a form.
pub record Formed (st : List ℕ) : Type 0 where
  pub size : length st ≡ state_length
  pub phase : phase_in st ≤ 3
  pub most : length_in st ≤ max_content
  pub inside_or_empty : (leb 2 (phase_in st) || eqb (length_in st) 0) ≡ true

pub form_of : (st : List ℕ) → has_form st ≡ true → Formed st
unfolding has_form
form_of st h =
    let a = and_right (eqb (length st) state_length) _ h in
    let b = and_right (leb (phase_in st) 3) _ a in
    record {
      size = eqb-true (length st) state_length (and_left (eqb (length st) state_length) _ h);
      phase = leb-true (phase_in st) 3 (and_left (leb (phase_in st) 3) _ a);
      most = leb-true (length_in st) max_content (and_left (leb (length_in st) max_content) _ b);
      inside_or_empty = and_right (leb (length_in st) max_content) _ b;
    }

-- The stream of a phase and a content has that phase, and outside no content.
pub phase_with : (n : ℕ) (c : List ℕ) → n ≤ 3 → phase_of (stream_with n c) ≡ n
unfolding stream_with
phase_with zero c h = refl
phase_with (suc zero) c h = refl
phase_with (suc (suc zero)) c h = refl
phase_with (suc (suc (suc zero))) c h = refl
phase_with (suc (suc (suc (suc n)))) c h = absurd (omega (arith, h))

content_with : (n : ℕ) (c : List ℕ) → n ≤ 3 → (leb 2 n || eqb (length c) 0) ≡ true → content_in (stream_with n c) ≡ c
unfolding stream_with
content_with zero [] h e = refl
content_with zero (x ∷ c) h e = absurd (false≢true (sym (ne_eqb (length (x ∷ c)) 0 (λ q. omega (arith, q))) ∙ e))
content_with (suc zero) [] h e = refl
content_with (suc zero) (x ∷ c) h e = absurd (false≢true (sym (ne_eqb (length (x ∷ c)) 0 (λ q. omega (arith, q))) ∙ e))
content_with (suc (suc zero)) c h e = refl
content_with (suc (suc (suc zero))) c h e = refl
content_with (suc (suc (suc (suc n)))) c h e = absurd (omega (arith, h))

half_of : (n : ℕ) {b c : ℕ} → n / 2 ^ 8 % 2 ^ 8 ≡ b → n % 2 ^ 8 ≡ c → half n ≡ b ∷ c ∷ []
unfolding half
half_of n e f = cc

front_three : (st : List ℕ) → 3 ≤ length st → Bytes st → phase_in st ∷ (half (length_in st) ++ drop 3 st) ≡ st
front_three [] h all = absurd (omega (arith, h))
front_three (a ∷ []) h all = absurd (omega (arith, h))
front_three (a ∷ b ∷ []) h all = absurd (omega (arith, h))
front_three (a ∷ b ∷ c ∷ st) h all =
    ap (λ l. a ∷ (l ++ st)) (half_of (b * 256 + c) (omega (arith, all 1, all 2)) (omega (arith, all 1, all 2)))

module _ (st : List ℕ) (f : Formed st) where
  abbrev area : List ℕ
  area = take (length_in st) (drop 3 st)

  area_length : length area ≡ length_in st
  area_length = length-take-le (length_in st) (drop 3 st) (omega (arith, f.size, f.most, length-drop 3 st))

  content_standing : content_in (standing st) ≡ area
  content_standing =
      content_with (phase_in st) area f.phase
      (ap (λ n. leb 2 (phase_in st) || eqb n 0) area_length ∙ f.inside_or_empty)

  pub stands : Placed (standing st) (place (phase_at (standing st)) (length_in st)) st
  stands =
      record {
        phase = refl;
        len = sym (ap length content_standing ∙ area_length);
        most = f.most;
        content = sym content_standing;
        size = f.size;
      }

  -- Its own form changes nothing in it.
  pub keep-standing : Bytes st → keep (standing st) st ≡ st
  keep-standing all =
      keep_placed stands
      ∙ ap₂ (λ x n. x ∷ (half n ++ drop 3 st)) (phase_with (phase_in st) area f.phase) (sym stands.len)
      ∙ front_three st (omega (arith, f.size)) all

-- Phases are told apart by their numbers.
phase_back : ℕ → Phase
phase_back n = cond (eqb n 0) Outside (cond (eqb n 1) OutsideWaiting (cond (eqb n 2) Inside InsideWaiting))

back_phase : (p : Phase) → phase_back (phase_number p) ≡ p
unfolding phase_back
back_phase Outside = refl
back_phase OutsideWaiting = refl
back_phase Inside = refl
back_phase InsideWaiting = refl

pub number_phase : (s : Stream) → phase_number (phase_at s) ≡ phase_of s
number_phase (outside false) = refl
number_phase (outside true) = refl
number_phase (inside false c) = refl
number_phase (inside true c) = refl

pub phase_same : (p : Phase) (s : Stream) → phase_number p ≡ phase_of s → p ≡ phase_at s
phase_same p s e = sym (back_phase p) ∙ ap phase_back (e ∙ sym (number_phase s)) ∙ back_phase (phase_at s)

-- Where a call begins.
pub run_begins : (st bytes : List ℕ) {p : Place} → Stands st p → Bytes st → Running st bytes p st 0
run_begins st bytes {p} h all =
    let f : Formed st = form_of st h.form in
    let r : Ran = run_from (standing st) st bytes in
    let phase : p.phase ≡ phase_at (standing st) =
    phase_same p.phase (standing st) (sym h.phase ∙ sym (phase_with (phase_in st) (take (length_in st) (drop 3 st)) f.phase)) in
    let is : place (phase_at (standing st)) (length_in st) ≡ p = ap₂ place (sym phase) (sym h.len) in
    record {
      s = standing st;
      placed = subst (λ x. Placed (standing st) x st) is (stands st f);
      whole =
          sym (ap (λ n. record { event = r.event; taken = n; after = r.after; bytes = r.bytes }) (zero-add r.taken))
          ∙ ap (λ x. plus 0 (run_from (standing st) x bytes)) (sym (keep-standing st f all));
      within = omega arith;
    }
