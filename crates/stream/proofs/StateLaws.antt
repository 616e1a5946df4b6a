-- States and the places of the stream rule that they stand for.
-- Assumes nothing.
use Prim.Native.Nat.{ℕ, ◌≤◌}
use native.Mathlib.Omega.{arith}
use mathlib.Core.Path.{◌≡◌, refl, ap, ◌∙◌}
use mathlib.Core.Bool.{Bool, true, false, cond, ◌||◌}
use mathlib.Core.List.{List, [], ◌∷◌, ◌++◌}
use mathlib.Core.Option.{some}
use borrow.Author.Tests.{eq-eqb, le-leb, ltb-true}
use lib.ListN.{length, take, drop, length-append, length-drop}
use lib.Seq.{take_at}
use lib.Dec.{eqb, ltb, leb}
use Rattle.protocol.specs.Numbers.{DLE, STX, ETX, max_content}
use Rattle.protocol.specs.Bytes.{half}
use Rattle.protocol.specs.Stream.{Stream, outside, inside, Event, closed, dropped_pair, dropped_long, Step, step, collect, on, ends}
use Rattle.protocol.proofs.TestLaws.{and_both, if_both}
use Rattle.stream.specs.State.{state_length, phase_of, content_in, keep, phase_in, length_in, has_form, stream_with, standing, stream_of}
use Rattle.stream.proofs.FeedLaws.{head, keep_is, Formed, form_of, stands}

-- A state whose bytes are the form of a place in the stream rule.
pub record StateOf (s : Stream) (st : List ℕ) : Type 0 where
  pub size : length st ≡ state_length
  pub few : length (content_in s) ≤ max_content
  pub form : has_form st ≡ true
  pub is : standing st ≡ s

with_own : (s : Stream) → stream_with (phase_of s) (content_in s) ≡ s
unfolding stream_with
with_own (outside false) = refl
with_own (outside true) = refl
with_own (inside false c) = refl
with_own (inside true c) = refl

inside_or_empty : (s : Stream) {n : ℕ} → n ≡ length (content_in s) → (leb 2 (phase_of s) || eqb n 0) ≡ true
inside_or_empty (outside false) e = eq-eqb _ 0 e
inside_or_empty (outside true) e = eq-eqb _ 0 e
inside_or_empty (inside false c) e = refl
inside_or_empty (inside true c) e = refl

pub phase_low : (s : Stream) → phase_of s ≤ 3
phase_low (outside false) = omega arith
phase_low (outside true) = omega arith
phase_low (inside false c) = omega arith
phase_low (inside true c) = omega arith

has_form_lem : (st : List ℕ) → length st ≡ state_length → phase_in st ≤ 3 → length_in st ≤ max_content
    → (leb 2 (phase_in st) || eqb (length_in st) 0) ≡ true → has_form st ≡ true
unfolding has_form
has_form_lem st a b c d =
    and_both (eq-eqb (length st) state_length a)
    (and_both (le-leb (phase_in st) 3 b) (and_both (le-leb (length_in st) max_content c) d))

length_head : (s : Stream) (rest : List ℕ) → length (content_in s) ≤ max_content → length_in (head s rest) ≡ length (content_in s)
unfolding half
length_head s rest h = omega arith

size_head : (s : Stream) (rest : List ℕ) → length rest ≡ max_content → length (head s rest) ≡ state_length
unfolding half
size_head s rest h = omega (arith, h)

content_head : (s : Stream) (tail : List ℕ) → length_in (head s (content_in s ++ tail)) ≡ length (content_in s)
    → take (length_in (head s (content_in s ++ tail))) (drop 3 (head s (content_in s ++ tail))) ≡ content_in s
unfolding half
content_head s tail e =
    ap (λ n. take n (content_in s ++ tail)) e ∙ take_at (content_in s) tail (length (content_in s)) refl

-- Every place of the stream rule has a form, and reading the form gives the place back.
pub state_of_kept : (s : Stream) (st : List ℕ) → length st ≡ state_length → length (content_in s) ≤ max_content → StateOf s (keep s st)
state_of_kept s st l h =
    let n : ℕ = length (content_in s) in
    let tail : List ℕ = drop n (drop 3 st) in
    let rest : List ℕ = content_in s ++ tail in
    let len : length_in (head s rest) ≡ n = length_head s rest h in
    let all : length rest ≡ max_content =
    omega (arith, length-append (content_in s) tail, length-drop n (drop 3 st), length-drop 3 st, l, h) in
    rw (keep_is s st)
    (record {
      size = size_head s rest all;
      few = h;
      form =
          has_form_lem (head s rest) (size_head s rest all) (phase_low s) (omega (arith, len, h)) (inside_or_empty s len);
      is = ap (stream_with (phase_of s)) (content_head s tail len) ∙ with_own s;
    })

-- A state that has a form stands for a place.
pub state_of : (st : List ℕ) → has_form st ≡ true → StateOf (standing st) st
state_of st h =
    let f : Formed st = form_of st h in
    record { size = f.size; few = omega (arith, (stands st f).len, (stands st f).most); form = h; is = refl }

-- A form is read back.
pub form_read : (s : Stream) (st : List ℕ) → length st ≡ state_length → length (content_in s) ≤ max_content → stream_of (keep s st) ≡ some s
unfolding stream_of
form_read s st l h =
    let w : StateOf s (keep s st) = state_of_kept s st l h in
    rw w.form (ap some w.is)

-- A step keeps at most 258 content bytes.
pub record Few (m : Step) : Type 0 where
  pub few : length (content_in m.after) ≤ max_content

collect_few : (c : List ℕ) (b : ℕ) → Few (collect c b)
unfolding collect
collect_few c b = go (ltb (length c) max_content) refl
  where
    go : (t : Bool) → ltb (length c) max_content ≡ t → Few (cond t (on (inside false (c ++ b ∷ []))) (ends dropped_long))
    go true e = record { few = omega (arith, ltb-true (length c) max_content e, length-append c (b ∷ [])) }
    go false e = record { few = omega arith }

on_few : (s : Stream) → length (content_in s) ≤ max_content → Few (on s)
on_few s h = record { few = h }

ends_few : (e : Event) → Few (ends e)
ends_few e = record { few = omega arith }

opening_few : (t w : Bool) → Few (on (cond t (inside false []) (outside w)))
opening_few true w = record { few = omega arith }
opening_few false w = record { few = omega arith }

pub step_few : (s : Stream) (b : ℕ) → length (content_in s) ≤ max_content → Few (step s b)
unfolding step
step_few (outside false) b h = on_few (outside (eqb b DLE)) (omega arith)
step_few (outside true) b h = opening_few (eqb b STX) (eqb b DLE)
step_few (inside false c) b h = if_both Few (eqb b DLE) (on_few (inside true c) h) (collect_few c b)
step_few (inside true c) b h =
    if_both Few (eqb b DLE) (collect_few c DLE)
    (if_both Few (eqb b ETX) (ends_few (closed c))
    (if_both Few (eqb b STX) (on_few (inside false []) (omega arith)) (ends_few dropped_pair)))
