-- Texts in bytes: where they end, and that written texts are seen again.
-- Assumes nothing.
use Prim.Native.Nat.{ℕ, zero, suc, ◌+◌, ◌-◌, ◌≤◌}
use native.Mathlib.Omega.{arith}
use native.Mathlib.Nat.{not-suc-le-zero}
use mathlib.Core.Path.{◌≡◌, refl, sym, ap, ap₂, subst, ◌∙◌}
use mathlib.Core.Bool.{Bool, true, false, false≢true}
use mathlib.Core.List.{List, [], ◌∷◌, ◌++◌, append_assoc}
use mathlib.Core.Option.{none, some, none-ne-some, some-injective}
use borrow.Author.Tests.{le-leb, lt-leb}
use lib.ListN.{length, take, drop, length-append}
use lib.Dec.{eqb, eqb-suc-zero}
use Rattle.protocol.specs.Bytes.{every, text, texts}
use Rattle.protocol.specs.Request.{before_zero}
use Rattle.protocol.specs.Tree.{is_character, is_text}
use Rattle.protocol.proofs.TestLaws.{and_left, and_right, and_both}
use Rattle.tree.specs.Seen.{first_text, after_text, texts_from}
use Rattle.tree.proofs.TextLaws.{zero_after, texts_more}
use Rattle.soundness.specs.Check.{texts_end}

-- Texts that lie at the front of bytes which begin at a place, and end at another: they are texts, and have room.
pub record Lie (x : List ℕ) (ss : List (List ℕ)) (room at end : ℕ) : Type 0 where
  pub characters : every is_text ss ≡ true
  pub ends : end ≡ at + length (texts ss)
  pub fits : length (texts ss) ≤ room
  pub there : take (length (texts ss)) x ≡ texts ss

lie_ended : (xs : List ℕ) (room at : ℕ) → Lie (0 ∷ xs) ([] ∷ []) (suc room) at (suc at)
unfolding texts text every
lie_ended xs room at = record { characters = refl; ends = omega arith; fits = omega arith; there = refl }

lie_next : {xs : List ℕ} {ss : List (List ℕ)} {room at end : ℕ} → Lie xs ss room (suc at) end → Lie (0 ∷ xs) ([] ∷ ss) (suc room) at end
unfolding texts text every
lie_next s =
    record {
      characters = s.characters;
      ends = omega (arith, s.ends);
      fits = omega (arith, s.fits);
      there = ap (λ l. 0 ∷ l) s.there;
    }

lie_more : {xs s : List ℕ} {ss : List (List ℕ)} {room at end : ℕ} (b : ℕ) → is_character b ≡ true → Lie xs (s ∷ ss) room (suc at) end
    → Lie (b ∷ xs) ((b ∷ s) ∷ ss) (suc room) at end
unfolding texts text every
lie_more {xs} {s} {ss} b f l =
    record {
      characters =
          and_both (and_both f (and_left (is_text s) (every is_text ss) l.characters)) (and_right (is_text s) (every is_text ss) l.characters);
      ends = omega (arith, l.ends);
      fits = omega (arith, l.fits);
      there = ap (λ r. b ∷ r) l.there;
    }

-- The end of texts by their first byte: a zero, behind which no text or some are left, a character, or another.
pub end_last : (left : ℕ) (bs : List ℕ) (at : ℕ) → left ≤ 1 → texts_end (0 ∷ bs) left at ≡ some (suc at)
unfolding texts_end
end_last left bs at h = rw (le-leb left 1 h)

pub end_next : (more : ℕ) {left : ℕ} (bs : List ℕ) (at : ℕ) → 1 ≤ more → left ≡ suc more
    → texts_end (0 ∷ bs) left at ≡ texts_end bs more (suc at)
unfolding texts_end
end_next more {left} bs at h e =
    let n : left - 1 ≡ more = omega (arith, e) in
    rw (lt-leb left 1 (omega (arith, h, e)), n)

pub end_on : (left b : ℕ) (bs : List ℕ) (at : ℕ) → is_character b ≡ true → texts_end (b ∷ bs) left at ≡ texts_end bs left (suc at)
unfolding texts_end
end_on left zero bs at e = absurd (false≢true e)
end_on left (suc b) bs at e = rw (eqb-suc-zero b, e)

pub end_bad : (left b : ℕ) (bs : List ℕ) (at : ℕ) → eqb b 0 ≡ false → is_character b ≡ false → texts_end (b ∷ bs) left at ≡ none
unfolding texts_end
end_bad left b bs at e f = rw (e, f)

end_nil : (left at end : ℕ) → texts_end [] left at ≡ some end → ⊥
unfolding texts_end
end_nil left at end h = none-ne-some _ h

-- Texts that end are there, and have room.
scan_zero : (xs : List ℕ) (room n at end : ℕ) → texts_end (0 ∷ take room xs) (suc n) at ≡ some end
    → ((m : ℕ) → n ≡ suc m → texts_end (take room xs) n (suc at) ≡ some end → Lie xs (texts_from n xs) room (suc at) end)
    → Lie (0 ∷ xs) (texts_from (suc n) (0 ∷ xs)) (suc room) at end
unfolding texts_from before_zero
scan_zero xs room zero at end h again =
    subst (λ e. Lie (0 ∷ xs) ([] ∷ []) (suc room) at e)
    (some-injective _ _ (sym (end_last 1 (take room xs) at (omega arith)) ∙ h))
    (lie_ended xs room at)
scan_zero xs room (suc n) at end h again =
    lie_next (again n refl (sym (end_next (suc n) (take room xs) at (omega arith) refl) ∙ h))

scan_more : (b : ℕ) (xs : List ℕ) (room n at end : ℕ) → eqb b 0 ≡ false → texts_end (b ∷ take room xs) (suc n) at ≡ some end
    → (texts_end (take room xs) (suc n) (suc at) ≡ some end → Lie xs (texts_from (suc n) xs) room (suc at) end)
    → Lie (b ∷ xs) (texts_from (suc n) (b ∷ xs)) (suc room) at end
unfolding texts_from
scan_more b xs room n at end e h again = go (is_character b) refl
  where
    go : (u : Bool) → is_character b ≡ u → Lie (b ∷ xs) (texts_from (suc n) (b ∷ xs)) (suc room) at end
    go true f =
        subst (λ ss. Lie (b ∷ xs) ss (suc room) at end) (sym (texts_more n b xs e))
        (lie_more b f (again (sym (end_on (suc n) b (take room xs) at f) ∙ h)))
    go false f = absurd (none-ne-some _ (sym (end_bad (suc n) b (take room xs) at e f) ∙ h))

pub scan_back : (x : List ℕ) (room n at end : ℕ) → 1 ≤ n → texts_end (take room x) n at ≡ some end → Lie x (texts_from n x) room at end
scan_back x zero n at end p h = absurd (end_nil n at end h)
scan_back [] (suc room) n at end p h = absurd (end_nil n at end h)
scan_back (b ∷ xs) (suc room) zero at end p h = absurd (not-suc-le-zero p)
scan_back (zero ∷ xs) (suc room) (suc n) at end p h =
    scan_zero xs room n at end h (λ m e. scan_back xs room n (suc at) end (omega (arith, e)))
scan_back (suc b ∷ xs) (suc room) (suc n) at end p h =
    scan_more (suc b) xs room n at end (eqb-suc-zero b) h (scan_back xs room (suc n) (suc at) end p)

-- Written texts are seen again.
character : (b : ℕ) (s : List ℕ) → is_text (b ∷ s) ≡ true → is_character b ≡ true
unfolding every
character b s h = and_left (is_character b) (is_text s) h

characters : (b : ℕ) (s : List ℕ) → is_text (b ∷ s) ≡ true → is_text s ≡ true
unfolding every
characters b s h = and_right (is_character b) (is_text s) h

pub text-seen : (s more : List ℕ) → is_text s ≡ true → first_text (text s ++ more) ≡ s
unfolding before_zero text
text-seen [] more h = refl
text-seen (zero ∷ s) more h = absurd (false≢true (character zero s h))
text-seen (suc b ∷ s) more h =
    ap (λ k. take k (suc b ∷ (text s ++ more))) (zero_after (suc b) (text s ++ more) (eqb-suc-zero b))
    ∙ ap (λ l. suc b ∷ l) (text-seen s more (characters (suc b) s h))

pub text-passed : (s more : List ℕ) → is_text s ≡ true → after_text (text s ++ more) ≡ more
unfolding before_zero text
text-passed [] more h = refl
text-passed (zero ∷ s) more h = absurd (false≢true (character zero s h))
text-passed (suc b ∷ s) more h =
    ap (λ k. drop k (text s ++ more)) (zero_after (suc b) (text s ++ more) (eqb-suc-zero b))
    ∙ text-passed s more (characters (suc b) s h)

pub texts-seen : (ss : List (List ℕ)) (more : List ℕ) → every is_text ss ≡ true → texts_from (length ss) (texts ss ++ more) ≡ ss
unfolding texts_from texts every
texts-seen [] more h = refl
texts-seen (s ∷ ss) more h =
    let one : is_text s ≡ true = and_left (is_text s) (every is_text ss) h in
    let joined : texts (s ∷ ss) ++ more ≡ text s ++ (texts ss ++ more) = append_assoc (text s) (texts ss) more in
    ap (λ x. first_text x ∷ texts_from (length ss) (after_text x)) joined
    ∙ ap₂ (λ x y. x ∷ texts_from (length ss) y) (text-seen s (texts ss ++ more) one) (text-passed s (texts ss ++ more) one)
    ∙ ap (λ l. s ∷ l) (texts-seen ss more (and_right (is_text s) (every is_text ss) h))

-- Scanning them ends behind them.
pub scan_forth : (ss : List (List ℕ)) (s more : List ℕ) (room at : ℕ) → every is_text (s ∷ ss) ≡ true → length (texts (s ∷ ss)) ≤ room
    → texts_end (take room (texts (s ∷ ss) ++ more)) (suc (length ss)) at ≡ some (at + length (texts (s ∷ ss)))
unfolding texts text every
scan_forth ss s more zero at h k = absurd (omega (arith, k, length-append (text s) (texts ss), length-append s (0 ∷ [])))
scan_forth [] [] more (suc room) at h k = end_last 1 (take room more) at (omega arith) ∙ ap some (omega arith)
scan_forth (s ∷ ss) [] more (suc room) at h k =
    end_next (suc (length ss)) (take room (texts (s ∷ ss) ++ more)) at (omega arith) refl
    ∙ scan_forth ss s more room (suc at) h (omega arith)
    ∙ ap some (omega arith)
scan_forth ss (zero ∷ s) more (suc room) at h k = absurd (false≢true (and_left false (every is_text ss) h))
scan_forth ss (suc b ∷ s) more (suc room) at h k =
    let one : is_text (suc b ∷ s) ≡ true = and_left (is_text (suc b ∷ s)) (every is_text ss) h in
    let rest : every is_text (s ∷ ss) ≡ true =
    and_both (characters (suc b) s one) (and_right (is_text (suc b ∷ s)) (every is_text ss) h) in
    end_on (suc (length ss)) (suc b) (take room (texts (s ∷ ss) ++ more)) at (character (suc b) s one)
    ∙ scan_forth ss s more room (suc at) rest (omega arith)
    ∙ ap some (omega arith)
