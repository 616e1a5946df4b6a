-- Texts in lent bytes: a scan to their end.
-- Assumes nothing.
use Prim.Native.Nat.{ℕ, zero, suc, ◌+◌, ◌-◌, ◌<◌, ◌≤◌, min}
use native.Mathlib.Omega.{arith}
use native.Mathlib.Nat.{not-suc-le-zero, zero-min, suc-min-suc, add-zero, sub-zero}
use native.Mathlib.Numerals.{add-one}
use mathlib.Core.Path.{◌≡◌, refl, sym, ap, ap₂, subst, ◌∙◌}
use mathlib.Core.Bool.{Bool, true, false, cond}
use mathlib.Core.List.{List, [], ◌∷◌}
use borrow.Author.Tests.{ne_eqb}
use lib.ListN.{length, get_or, take, drop, length-take, length-drop, drop_of_length-le}
use lib.Seq.{drop-cons, drop-drop, take-nil, get_or-drop, get_or-take, length-take-le}
use Rattle.protocol.specs.Tree.{is_character}
use Rattle.std.proofs.Common.{Some, None}
use Rattle.protocol.specs.Refusal.{option_of}
use Rattle.soundness.specs.Check.{characters_in, texts_end, texts_end_in}
use Rattle.soundness.proofs.ScanLaws.{end_on, end_last, end_next, end_bad}

-- As many entries as there are.
take_min : (n : ℕ) (l : List ℕ) → take (min n (length l)) l ≡ take n l
take_min zero l = ap (λ m. take m l) (zero-min (length l))
take_min (suc n) [] = take-nil (min (suc n) 0)
take_min (suc n) (x ∷ l) = ap (λ m. take m (x ∷ l)) (suc-min-suc n (length l)) ∙ ap (λ t. x ∷ t) (take_min n l)

-- The bytes from a place to an end, without some of them, and the first of them.
drop-take : (n m : ℕ) (l : List ℕ) → drop n (take m l) ≡ take (m - n) (drop n l)
drop-take zero m l = ap (λ k. take k l) (sym (sub-zero m))
drop-take (suc n) zero l =
    let k : 0 ≡ 0 - suc n = omega arith in
    ap (λ k. take k (drop (suc n) l)) k
drop-take (suc n) (suc m) [] = sym (take-nil (suc m - suc n))
drop-take (suc n) (suc m) (x ∷ l) =
    let k : m - n ≡ suc m - suc n = omega arith in
    drop-take n m l ∙ ap (λ k. take k (drop n l)) k

first_here : (bs : List ℕ) (at end : ℕ) → at < end → end ≤ length bs
    → take (end - at) (drop at bs) ≡ get_or bs at 0 ∷ take (end - (at + 1)) (drop (at + 1) bs)
first_here bs at end h k =
    let n : end - at ≡ suc (end - (at + 1)) = omega arith in
    ap (λ m. take m (drop at bs)) n
    ∙ ap (take (suc (end - (at + 1)))) (drop-cons bs at 0 (omega arith) ∙ ap (λ m. get_or bs at 0 ∷ drop m bs) (sym (add-one at)))

-- Characters in front: texts go on behind them, and the byte behind them is none.
characters_most : (bs : List ℕ) → characters_in bs ≤ length bs
unfolding characters_in
characters_most [] = omega arith
characters_most (b ∷ bs) = most (is_character b) (characters_most bs)
  where
    most : (u : Bool) → characters_in bs ≤ length bs → cond u (suc (characters_in bs)) 0 ≤ length (b ∷ bs)
    most true h = omega (arith, h)
    most false h = omega arith

characters_passed : (bs : List ℕ) (left at : ℕ) → texts_end bs left at ≡ texts_end (drop (characters_in bs) bs) left (at + characters_in bs)
unfolding characters_in
characters_passed [] left at = ap (texts_end [] left) (sym (add-zero at))
characters_passed (b ∷ bs) left at = go (is_character b) refl (characters_passed bs left (suc at))
  where
    go : (u : Bool) → is_character b ≡ u
        → texts_end bs left (suc at) ≡ texts_end (drop (characters_in bs) bs) left (suc at + characters_in bs)
        → texts_end (b ∷ bs) left at
        ≡ texts_end (drop (cond u (suc (characters_in bs)) 0) (b ∷ bs)) left (at + cond u (suc (characters_in bs)) 0)
    go true e again =
        let n : suc at + characters_in bs ≡ at + suc (characters_in bs) = omega arith in
        end_on left b bs at e ∙ again ∙ ap (texts_end (drop (characters_in bs) bs) left) n
    go false e again = ap (texts_end (b ∷ bs) left) (sym (add-zero at))

characters_stop : (bs : List ℕ) → characters_in bs < length bs → is_character (get_or bs (characters_in bs) 0) ≡ false
unfolding characters_in
characters_stop [] h = absurd (not-suc-le-zero h)
characters_stop (b ∷ bs) h = go (is_character b) refl (characters_stop bs) h
  where
    go : (u : Bool) → is_character b ≡ u → (characters_in bs < length bs → is_character (get_or bs (characters_in bs) 0) ≡ false)
        → cond u (suc (characters_in bs)) 0 < length (b ∷ bs) → is_character (get_or (b ∷ bs) (cond u (suc (characters_in bs)) 0) 0) ≡ false
    go true e again h = again (omega (arith, h))
    go false e again h = e

-- A walk over characters, from a place towards an end.
pub record Passing (bs : List ℕ) (from end at : ℕ) : Type 0 where
  pub past : from ≤ at
  pub within : at ≤ end
  pub last : end ≤ length bs
  pub whole : from + characters_in (take (end - from) (drop from bs)) ≡ at + characters_in (take (end - at) (drop at bs))

pub pass_begins : (bs : List ℕ) (from end : ℕ) → from ≤ end → end ≤ length bs → Passing bs from end from
pass_begins bs from end h k = record { past = omega arith; within = h; last = k; whole = refl }

module _ {bs : List ℕ} {from end at : ℕ} (p : Passing bs from end at) where
  pub pass_out : end ≤ at → at ≡ from + characters_in (take (end - from) (drop from bs))
  unfolding characters_in
  pass_out h =
      let n : end - at ≡ 0 = omega arith in
      sym (p.whole ∙ ap (λ m. at + characters_in (take m (drop at bs))) n ∙ add-zero at)

  module _ (h : at < end) where
    abbrev behind : ℕ
    behind = characters_in (take (end - (at + 1)) (drop (at + 1) bs))

    counted : {u : Bool} → is_character (get_or bs at 0) ≡ u
        → from + characters_in (take (end - from) (drop from bs)) ≡ at + cond u (suc behind) 0
    unfolding characters_in
    counted e =
        p.whole ∙ ap (λ l. at + characters_in l) (first_here bs at end h p.last) ∙ ap (λ u. at + cond u (suc behind) 0) e

    pub pass_on : is_character (get_or bs at 0) ≡ true → Passing bs from end (at + 1)
    pass_on e = record { past = omega arith; within = omega arith; last = p.last; whole = omega (arith, counted e) }

    pub pass_stop : is_character (get_or bs at 0) ≡ false → at ≡ from + characters_in (take (end - from) (drop from bs))
    pass_stop e = omega (arith, counted e)

pub pass_two : {bs : List ℕ} {from end : ℕ} (at : ℕ) → Passing bs from end (at + 1) → at + 1 < end → is_character (get_or bs (at + 1) 0) ≡ true
    → Passing bs from end (at + 2)
pass_two {bs} {from} {end} at p h e =
    let n : at + 1 + 1 ≡ at + 2 = omega arith in
    subst (λ m. Passing bs from end m) n (pass_on p h e)

-- A scan of texts that begin at a place: what is left of it.
pub record Scanning (bs : List ℕ) (from count room end left at : ℕ) : Type 0 where
  pub past : from ≤ at
  pub within : at ≤ end
  pub last : end ≤ length bs
  pub whole : texts_end_in bs room count from ≡ texts_end (take (end - at) (drop at bs)) left at

-- Where the place lies past the end there are no texts.
pub scan_past : (bs : List ℕ) (from count room : ℕ) → length bs < from → None ≡ option_of (texts_end_in bs room count from)
unfolding texts_end
scan_past bs from count room h =
    let none_left : drop from bs ≡ [] = drop_of_length-le bs {i = from} (omega (arith, h)) in
    sym (ap (λ l. option_of (texts_end (take room l) count from)) none_left ∙ ap (λ l. option_of (texts_end l count from)) (take-nil room))

module _ {bs : List ℕ} {from count room end : ℕ} where
  pub scan_begins : from ≤ length bs → end ≡ from + min room (length bs - from) → Scanning bs from count room end count from
  scan_begins h e =
      let n : min room (length bs - from) ≡ end - from = omega (arith, e) in
      record {
        past = omega arith;
        within = omega (arith, e);
        last = omega (arith, e);
        whole =
            ap (λ l. texts_end l count from)
            (sym (take_min room (drop from bs)) ∙ ap (λ n. take n (drop from bs)) (ap (min room) (length-drop from bs) ∙ n));
      }

  module _ {left at : ℕ} (s : Scanning bs from count room end left at) (h : at < end) where
    abbrev rest : List ℕ
    rest = take (end - (at + 1)) (drop (at + 1) bs)

    whole_here : texts_end_in bs room count from ≡ texts_end (get_or bs at 0 ∷ rest) left at
    whole_here = s.whole ∙ ap (λ l. texts_end l left at) (first_here bs at end h s.last)

    whole_by : {b : ℕ} → get_or bs at 0 ≡ b → texts_end_in bs room count from ≡ texts_end (b ∷ rest) left at
    whole_by e = whole_here ∙ ap (λ b. texts_end (b ∷ rest) left at) e

    -- What it comes to by the byte here.
    pub scan_next : get_or bs at 0 ≡ 0 → 1 < left → Scanning bs from count room end (left - 1) (at + 1)
    scan_next e l =
        record {
          past = omega arith;
          within = omega arith;
          last = s.last;
          whole =
              whole_by e
              ∙ end_next (left - 1) rest at (omega arith) (omega arith)
              ∙ ap (texts_end rest (left - 1)) (sym (add-one at));
        }

    pub scan_ended : get_or bs at 0 ≡ 0 → left ≤ 1 → Some (at + 1) ≡ option_of (texts_end_in bs room count from)
    scan_ended e l = sym (ap option_of (whole_by e ∙ end_last left rest at l) ∙ ap Some (sym (add-one at)))

    pub scan_bad : (get_or bs at 0 ≡ 0 → ⊥) → is_character (get_or bs at 0) ≡ false → None ≡ option_of (texts_end_in bs room count from)
    scan_bad e f =
        sym (ap option_of (whole_here ∙ end_bad left (get_or bs at 0) rest at (ne_eqb (get_or bs at 0) 0 e) f))

  -- Behind the characters that stand here.
  module _ {left at stop : ℕ} (s : Scanning bs from count room end left at) (e : stop ≡ at + characters_in (take (end - at) (drop at bs))) where
    here_most : characters_in (take (end - at) (drop at bs)) ≤ end - at
    here_most = omega (arith, characters_most (take (end - at) (drop at bs)), length-take (end - at) (drop at bs))

    pub scan_skip : Scanning bs from count room end left stop
    scan_skip =
        let n : ℕ = characters_in (take (end - at) (drop at bs)) in
        let m : end - at - n ≡ end - stop = omega (arith, e) in
        let behind : drop n (take (end - at) (drop at bs)) ≡ take (end - stop) (drop stop bs) =
        drop-take n (end - at) (drop at bs)
        ∙ ap₂ (λ k l. take k l) m (drop-drop n at bs ∙ ap (λ k. drop k bs) (sym e)) in
        record {
          past = omega (arith, s.past, e);
          within = omega (arith, s.within, e, here_most);
          last = s.last;
          whole =
              s.whole
              ∙ characters_passed (take (end - at) (drop at bs)) left at
              ∙ ap₂ (λ l k. texts_end l left k) behind (sym e);
        }

    pub scan_stop : stop < end → is_character (get_or bs stop 0) ≡ false
    scan_stop h =
        let l : List ℕ = take (end - at) (drop at bs) in
        let size : length l ≡ end - at = length-take-le (end - at) (drop at bs) (omega (arith, length-drop at bs, s.last)) in
        let byte : get_or l (characters_in l) 0 ≡ get_or bs stop 0 =
        get_or-take (end - at) (drop at bs) (characters_in l) 0 (omega (arith, e, h))
        ∙ get_or-drop at bs (characters_in l) 0
        ∙ ap (λ k. get_or bs k 0) (sym e) in
        ap is_character (sym byte) ∙ characters_stop l (omega (arith, size, e, h))

  pub scan_out : {left at : ℕ} → Scanning bs from count room end left at → end ≤ at → None ≡ option_of (texts_end_in bs room count from)
  unfolding texts_end
  scan_out {left} {at} s h =
      let n : end - at ≡ 0 = omega arith in
      sym (ap option_of (s.whole ∙ ap (λ m. texts_end (take m (drop at bs)) left at) n))
