-- What is printed: too little room, the line that refuses, or the listing.
-- Assumes nothing.
use Prim.Native.Nat.{ℕ, ◌<◌, ◌≤◌}
use native.Mathlib.Omega.{arith}
use native.Mathlib.Decide.{dec_le}
use mathlib.Core.Path.{◌≡◌, refl, sym, ap, subst, ◌∙◌}
use mathlib.Core.Bool.{Bool, true, false, cond}
use mathlib.Core.List.{List, []}
use borrow.Author.Tests.{lt-ltb, le-ltb}
use lib.ListN.{length, take, drop, length-take, length-append}
use lib.Seq.{take_all}
use Rattle.protocol.specs.Numbers.{done, unsound}
use Rattle.protocol.specs.Buffer.{over, farthest, Laid, text_number}
use Rattle.protocol.specs.Text.{decimal_in, decimal, line, answer_key}
use Rattle.protocol.specs.Listing.{listing}
use Rattle.protocol.proofs.BufferLaws.{over_nil}
use Rattle.protocol.proofs.LayLaws.{laid_front}
use Rattle.protocol.proofs.LongestLaws.{listing_longest}
use Rattle.tree.specs.Seen.{seen}
use Rattle.soundness.specs.Sound.{is_tree}
use Rattle.soundness.proofs.FormLaws.{tree_longest, seen-sound}
use Rattle.listing.specs.Lists.{listed, listing_in, list_number, Lists}
use Rattle.listing.specs.Print.{listing_room, input_room, shown, printed, Prints}
use Rattle.listing.proofs.ListsLaws.{text_is}

pub prints_none : (input old : List ℕ) → length old < listing_room → Prints (printed (length old) input) old 0 old
unfolding printed
prints_none input old h =
    let e : printed (length old) input ≡ [] = rw (lt-ltb (length old) listing_room h) in
    record { len = ap length (sym e); bytes = sym (ap (λ s. over s old) e ∙ over_nil old) }

refusal_short : length (line answer_key (decimal unsound)) ≤ 9
unfolding line decimal decimal_in
refusal_short = omega arith

-- In room enough for every listing a tree that is sound is listed.
module _ (input old : List ℕ) (h : listing_room ≤ length old) {n size : ℕ} {mid : List ℕ} (l : Lists input old n size mid) where
  whole : printed (length old) input ≡ shown input
  unfolding printed
  whole = rw (le-ltb (length old) listing_room h)

  shows : is_tree input ≡ true → listing_in input ≡ shown input
  unfolding shown
  shows e = text_is input e ∙ sym (rw e)

  refused : is_tree input ≡ false → line answer_key (decimal unsound) ≡ shown input
  unfolding shown
  refused e = rw e

  numbered : (b : Bool) → is_tree input ≡ b → list_number (length old) input ≡ cond b done unsound
  unfolding text_number listed
  numbered true e = rw (e, le-ltb (length old) (length (listing (seen input))) (omega (arith, h, listing_longest (seen input) (seen-sound input e))))
  numbered false e = rw e

  pub prints_listing : n ≡ done → Prints (printed (length old) input) old size mid
  prints_listing e = go (is_tree input) refl
    where
      go : (b : Bool) → is_tree input ≡ b → Prints (printed (length old) input) old size mid
      go true b =
          let text : listing_in input ≡ printed (length old) input = shows b ∙ sym whole in
          let d : list_number (length old) input ≡ done = numbered true b in
          let put : mid ≡ over (listing_in input) old = l.bytes ∙ rw d in
          record { len = l.len ∙ ap length text; bytes = put ∙ ap (λ s. over s old) text }
      go false b = absurd (omega (arith, l.number, numbered false b, e))

  pub prints_refusal : (n ≡ done → ⊥) → {r : ℕ} {new : List ℕ} → length old < farthest → Laid 0 (line answer_key (decimal n)) mid r new
      → Prints (printed (length old) input) old r new
  prints_refusal e {r} {new} k p = go (is_tree input) refl
    where
      go : (b : Bool) → is_tree input ≡ b → Prints (printed (length old) input) old r new
      go true b = absurd (e (l.number ∙ numbered true b))
      go false b =
          let d : list_number (length old) input ≡ unsound = numbered false b in
          let kept : mid ≡ old = l.bytes ∙ rw d in
          let laid : Laid 0 (line answer_key (decimal unsound)) old r new =
          subst (λ x. Laid 0 (line answer_key (decimal unsound)) x r new) kept
          (subst (λ m. Laid 0 (line answer_key (decimal m)) mid r new) (l.number ∙ d) p) in
          let front = laid_front (omega (arith, h, refusal_short)) k laid in
          let text : line answer_key (decimal unsound) ≡ printed (length old) input = refused b ∙ sym whole in
          record { len = front.0 ∙ ap length text; bytes = front.1 ∙ ap (λ s. over s old) text }

-- What was put lies in the output.
pub prints_within : {s old : List ℕ} {size : ℕ} {new : List ℕ} → Prints s old size new → size ≤ length new
unfolding over
prints_within {s} {old} p = omega (arith, p.len, ap length p.bytes, length-append s (drop (length s) old))

-- Of a long input the front tells as much as all of it: neither is a lent form.
long_refused : (input : List ℕ) → input_room ≤ length input → is_tree input ≡ false
long_refused input h = go (is_tree input) refl
  where
    go : (b : Bool) → is_tree input ≡ b → is_tree input ≡ false
    go true e = absurd (omega (arith, h, tree_longest input e))
    go false e = e

pub shown_front : (input : List ℕ) → shown (take input_room input) ≡ shown input
unfolding shown
shown_front input = go (dec_le (length input) input_room)
  where
    go : Dec (length input ≤ input_room) → shown (take input_room input) ≡ shown input
    go (yes h) = ap shown (take_all input_room input h)
    go (no h) =
        rw (
          long_refused (take input_room input) (omega (arith, length-take input_room input, h)),
          long_refused input (omega (arith, h)),
        )
