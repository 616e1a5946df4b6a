-- Texts in lent bytes: what is seen of them by their first byte, and a copy byte by byte.
-- Assumes nothing.
use Prim.Native.Nat.{ℕ, zero, suc, ◌+◌, ◌-◌, ◌<◌, ◌≤◌, min}
use native.Mathlib.Omega.{arith}
use native.Mathlib.Nat.{not-suc-le-zero, zero-min, suc-min-suc, add-zero}
use mathlib.Core.Path.{◌≡◌, refl, sym, ap, ap₂, ◌∙◌}
use mathlib.Core.Bool.{Bool, true, false}
use mir.Val.{bool_byte}
use borrow.Author.Tests.{ltb-true, ltb-false}
use mathlib.Core.List.{List, [], ◌∷◌, append-nil}
use lib.ListN.{length, get_or, take, drop, set, length-drop}
use lib.Seq.{drop-drop, drop-nil, get_or-drop}
use lib.Dec.{eqb, ltb, eqb-suc-zero}
use Rattle.protocol.specs.Bytes.{text, texts}
use Rattle.protocol.specs.Request.{before_zero}
use Rattle.protocol.specs.Buffer.{put_at, fitting, Put}
use Rattle.protocol.proofs.BufferLaws.{set_put, Filling, fill_begins, fill_more, fill_ends}
use Rattle.tree.specs.Seen.{first_text, after_text, texts_from}

-- One text, as all of some texts.
pub texts-one : (s : List ℕ) → texts (s ∷ []) ≡ text s
unfolding texts
texts-one s = append-nil (text s)

-- One byte in front of texts: a zero ends the first of them, any other byte begins it.
texts_zero : (n : ℕ) (xs : List ℕ) → texts_from (suc n) (0 ∷ xs) ≡ [] ∷ texts_from n xs
unfolding texts_from before_zero
texts_zero n xs = refl

pub zero_after : (b : ℕ) (xs : List ℕ) → eqb b 0 ≡ false → before_zero (b ∷ xs) ≡ suc (before_zero xs)
unfolding before_zero
zero_after b xs e = rw e

pub texts_more : (n b : ℕ) (xs : List ℕ) → eqb b 0 ≡ false
    → texts_from (suc n) (b ∷ xs) ≡ (b ∷ first_text xs) ∷ texts_from n (after_text xs)
unfolding texts_from
texts_more n b xs e = ap (λ k. take k (b ∷ xs) ∷ texts_from n (drop (suc k) (b ∷ xs))) (zero_after b xs e)

-- As many entries as there are.
drop_min : (n : ℕ) (l : List ℕ) → drop (min n (length l)) l ≡ drop n l
drop_min zero l = ap (λ m. drop m l) (zero-min (length l))
drop_min (suc n) [] = drop-nil (min (suc n) 0)
drop_min (suc n) (x ∷ l) = ap (λ m. drop m (x ∷ l)) (suc-min-suc n (length l)) ∙ drop_min n l

-- The first byte of some texts, and the texts without it. Where the bytes have ended the texts are empty, each with its zero.
zero_first : (n : ℕ) (xs : List ℕ) → texts (texts_from (suc n) (0 ∷ xs)) ≡ 0 ∷ texts (texts_from n xs)
unfolding texts text
zero_first n xs = ap texts (texts_zero n xs)

character_first : (n x : ℕ) (xs : List ℕ) → eqb x 0 ≡ false → texts (texts_from (suc n) (x ∷ xs)) ≡ x ∷ texts (texts_from (suc n) xs)
unfolding texts text texts_from
character_first n x xs e = ap texts (texts_more n x xs e)

pub texts_byte : (left : ℕ) (r : List ℕ) → 1 ≤ left
    → texts (texts_from left r) ≡ get_or r 0 0 ∷ texts (texts_from (left - (1 - get_or r 0 0)) (drop 1 r))
unfolding texts text texts_from before_zero
texts_byte zero r h = absurd (not-suc-le-zero h)
texts_byte (suc n) [] h =
    let m : n ≡ suc n - 1 = omega arith in
    ap (λ m. 0 ∷ texts (texts_from m [])) m
texts_byte (suc n) (zero ∷ xs) h =
    let m : n ≡ suc n - 1 = omega arith in
    zero_first n xs ∙ ap (λ m. 0 ∷ texts (texts_from m xs)) m
texts_byte (suc n) (suc x ∷ xs) h =
    let m : suc n ≡ suc n - (1 - suc x) = omega arith in
    character_first n (suc x) xs (eqb-suc-zero x) ∙ ap (λ m. suc x ∷ texts (texts_from m xs)) m

-- What a byte takes from the texts that are left, and the place behind it.
pub left_behind : (b left : ℕ) {ends : ℕ} → ends ≡ bool_byte (eqb b 0) → left - ends ≡ left - (1 - b)
left_behind zero left e = ap (λ n. left - n) e
left_behind (suc b) left e = ap (λ n. left - n) (e ∙ ap bool_byte (eqb-suc-zero b)) ∙ omega arith

pub place_behind : (i len : ℕ) {more : ℕ} → more ≡ bool_byte (ltb i len) → i + more ≡ i + min 1 (len - i)
place_behind i len {more} e = go (ltb i len) refl
  where
    go : (t : Bool) → ltb i len ≡ t → i + more ≡ i + min 1 (len - i)
    go true f = omega (arith, ltb-true i len f, e ∙ ap bool_byte f)
    go false f = omega (arith, ltb-false i len f, e ∙ ap bool_byte f)

-- Texts put byte by byte: of all their bytes some are put, and left are those of the texts that have not ended.
pub record Copying (bs all old : List ℕ) (at : ℕ) (out : List ℕ) (left next i : ℕ) : Type 0 where
  pub gone : ℕ
  pub fill : Filling all old at out next gone
  pub rest : drop gone all ≡ texts (texts_from left (drop i bs))

pub copy_begins : (bs old : List ℕ) (at from count : ℕ) → Copying bs (texts (texts_from count (drop from bs))) old at old count at from
copy_begins bs old at from count =
    record { gone = 0; fill = fill_begins (texts (texts_from count (drop from bs))) old at; rest = refl }

module _ {bs all old : List ℕ} {at : ℕ} {out : List ℕ} {left next i : ℕ} (w : Copying bs all old at out left next i) where
  pub copy_ends : left ≡ 0 → Put at (fitting at all old) old next out
  unfolding texts texts_from
  copy_ends h =
      let none_left : drop w.gone all ≡ [] = w.rest ∙ ap (λ n. texts (texts_from n (drop i bs))) h in
      fill_ends all old at w.fill (omega (arith, ap length none_left, length-drop w.gone all))

  -- One byte more.
  pub copy_more : next < length out → 1 ≤ left → {b left' i' : ℕ} → b ≡ get_or bs i 0 → left' ≡ left - (1 - b)
      → i' ≡ i + min 1 (length bs - i) → Copying bs all old at (set out next b) left' (next + 1) i'
  copy_more h l {b} {left'} {i'} e f g =
      let r : List ℕ = drop i bs in
      let more : List ℕ = texts (texts_from left' (drop i' bs)) in
      let first : get_or r 0 0 ≡ b = get_or-drop i bs 0 0 ∙ ap (λ n. get_or bs n 0) (add-zero i) ∙ sym e in
      let others : drop 1 r ≡ drop i' bs =
      sym (drop_min 1 r) ∙ ap (λ n. drop (min 1 n) r) (length-drop i bs) ∙ drop-drop (min 1 (length bs - i)) i bs ∙ ap (λ n. drop n bs) (sym g) in
      let here : drop w.gone all ≡ b ∷ more =
      w.rest
      ∙ texts_byte left r l
      ∙ ap₂ (λ x y. x ∷ texts (texts_from (left - (1 - x)) y)) first others
      ∙ ap (λ n. b ∷ texts (texts_from n (drop i' bs))) (sym f) in
      let byte : get_or all w.gone 0 ≡ b =
      ap (λ n. get_or all n 0) (sym (add-zero w.gone)) ∙ sym (get_or-drop w.gone all 0 0) ∙ ap (λ l. get_or l 0 0) here in
      record {
        gone = w.gone + 1;
        fill =
            fill_more all old at w.fill (omega (arith, ap length here, length-drop w.gone all)) h
            (record { next = refl; bytes = set_put out next b h ∙ ap (λ x. put_at next (x ∷ []) out) (sym byte) });
        rest = sym (drop-drop 1 w.gone all) ∙ ap (drop 1) here;
      }
