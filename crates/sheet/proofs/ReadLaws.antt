-- A line read: its label, and what stands behind it.
-- Assumes nothing.
use Prim.Native.Nat.{ℕ, suc, ◌+◌, ◌-◌, ◌≤◌}
use native.Mathlib.Omega.{arith}
use native.Mathlib.Nat.{add-zero}
use native.Mathlib.Numerals.{add-one}
use mathlib.Core.Path.{◌≡◌, refl, sym, ap, ap₂, ◌∙◌}
use mathlib.Core.Bool.{Bool, true, false, cond, ◌&&◌, and-false, and-true, false≢true}
use mathlib.Core.List.{List, [], ◌∷◌}
use borrow.Author.Tests.{eq-eqb, ne_eqb, eqb-true, eqb-false}
use lib.ListN.{length, get_or, take, drop, length-drop}
use lib.Seq.{drop-drop, take_all}
use lib.Dec.{eqb}
use lib.Pointwise.{pointwise}
use Rattle.std.proofs.Common.{Option, Some, None, get_or-drop}
use Rattle.std.specs.Option.{is_some, unwrap_or}
use Rattle.protocol.specs.Text.{begins}
use Rattle.protocol.specs.Tree.{Property}
use Rattle.protocol.specs.Answer.{takes_sign}
use Rattle.protocol.specs.Signed.{is_word, word_for, is_number, number_in, number_size}
use Rattle.protocol.specs.Sheet.{may_hold, is_line, line_size, line_word, line_in_range}
use Rattle.protocol.proofs.TestLaws.{and_left}
use Rattle.protocol.proofs.LoadLaws.{line_inside}
use Rattle.text.specs.Read.{told_of, ToldIs}
use Rattle.text.specs.declared.read.Numeral.{Numeral}
use Rattle.text.proofs.ReadLaws.{told_none, told_fits, told_word, told_size}
use Rattle.sheet.specs.Steps.{LineIs, is_held}

-- What stands behind a place, lent as a part.
pub rest_lent : (bs : List ℕ) {m n : ℕ} → m ≡ n → take (length bs - n) (drop n bs) ≡ drop m bs
rest_lent bs {m} {n} e = take_all (length bs - n) (drop n bs) (omega (arith, length-drop n bs)) ∙ ap (λ k. drop k bs) (sym e)

-- A text in front of some bytes, as `strip_prefix` tells it.
eqb_turned : (a b : ℕ) → eqb a b ≡ eqb b a
eqb_turned a b = go (eqb b a) refl
  where
    go : (t : Bool) → eqb b a ≡ t → eqb a b ≡ eqb b a
    go true e = eq-eqb a b (sym (eqb-true b a e)) ∙ sym e
    go false e = ne_eqb a b (λ h. eqb-false b a e (sym h)) ∙ sym e

strips_begins : (front bs : List ℕ) → pointwise eqb (take (length front) bs) front ≡ begins front bs
unfolding begins
strips_begins [] [] = refl
strips_begins [] (b ∷ bs) = refl
strips_begins (c ∷ front) [] = refl
strips_begins (c ∷ front) (b ∷ bs) = ap₂ (λ a t. a && t) (eqb_turned b c) (strips_begins front bs)

strips_equals : (bs : List ℕ) → pointwise eqb (take 1 bs) (61 ∷ []) ≡ eqb (get_or bs 0 0) 61
strips_equals [] = refl
strips_equals (b ∷ bs) = and-true (eqb b 61)

-- A line, test by test.
module _ (p : Property) (bs : List ℕ) {label : List ℕ} (l : label ≡ p.label) where
  abbrev sheet_rest : List ℕ
  sheet_rest = drop (suc (length p.label)) bs

  has_label : {t : Bool} → pointwise eqb (take (length label) bs) label ≡ t → begins p.label bs ≡ t
  has_label h = sym (ap (λ x. begins x bs) l) ∙ sym (strips_begins label bs) ∙ h

  pub no_label : pointwise eqb (take (length label) bs) label ≡ false → LineIs p bs None
  unfolding is_line
  no_label h =
      record { told = told_none (ap (λ b. b && (eqb (get_or bs (length p.label) 0) 61 && is_number (takes_sign p) sheet_rest)) (has_label h)) }

  module _ {xs : List ℕ} (x : xs ≡ drop (length label) bs) where
    has_equals : {t : Bool} → pointwise eqb (take 1 xs) (61 ∷ []) ≡ t → eqb (get_or bs (length p.label) 0) 61 ≡ t
    has_equals h =
        ap (λ c. eqb c 61)
        (sym (ap (λ ys. get_or ys 0 0) x ∙ get_or-drop (length label) bs 0 0 ∙ ap (λ n. get_or bs n 0) (add-zero (length label) ∙ ap length l)))
        ∙ sym (strips_equals xs)
        ∙ h

    pub no_equals : pointwise eqb (take 1 xs) (61 ∷ []) ≡ false → LineIs p bs None
    unfolding is_line
    no_equals h =
        record {
          told =
              told_none (ap (λ b. begins p.label bs && (b && is_number (takes_sign p) sheet_rest)) (has_equals h) ∙ and-false (begins p.label bs));
        }

    behind : {ys : List ℕ} → ys ≡ drop 1 xs → ys ≡ sheet_rest
    behind y =
        y
        ∙ ap (drop 1) x
        ∙ drop-drop 1 (length label) bs
        ∙ ap (λ n. drop n bs) (add-one (length label) ∙ ap (λ z. suc (length z)) l)

    module _ {ys : List ℕ} (y : ys ≡ drop 1 xs) (a : pointwise eqb (take (length label) bs) label ≡ true)
        (b : pointwise eqb (take 1 xs) (61 ∷ []) ≡ true) {sign : Bool} (s : sign ≡ takes_sign p) where
      line_by : is_line p bs ≡ is_number sign ys
      unfolding is_line
      line_by =
          ap₂ (λ c d. c && (d && is_number (takes_sign p) sheet_rest)) (has_label a) (has_equals b)
          ∙ ap₂ is_number (sym s) (sym (behind y))

      pub no_number : ToldIs (is_number sign ys) sign (number_in ys) (number_size ys) (told_of None) → LineIs p bs None
      no_number found = record { told = told_none (line_by ∙ sym found.is) }

      pub line-found : {m : Numeral} {n : ℕ} → ToldIs (is_number sign ys) sign (number_in ys) (number_size ys) (told_of (Some m))
          → n ≡ length label + 1 + m.size → LineIs p bs (Some (record { word = m.word; size = n }))
      unfolding line_size
      line-found {m} {n} found e =
          let is : is_line p bs ≡ true = line_by ∙ sym found.is in
          let fits : is_some m.word ≡ (is_line p bs && is_word (takes_sign p) (number_in sheet_rest)) =
          told_fits found refl
          ∙ ap₂ (λ c z. is_word c (number_in z)) s (behind y)
          ∙ sym (ap (λ c. c && is_word (takes_sign p) (number_in sheet_rest)) is) in
          let word : unwrap_or m.word 0 ≡ cond (is_line p bs && is_word (takes_sign p) (number_in sheet_rest)) (word_for (number_in sheet_rest)) 0 =
          found.word ∙ ap₂ (λ c z. cond c (word_for (number_in z)) 0) (sym found.fits ∙ fits) (behind y) in
          record {
            told =
                record {
                  is = sym is;
                  fits = fits;
                  word = word;
                  bytes =
                      e
                      ∙ ap₂ (λ c z. c + z) (add-one (length label) ∙ ap (λ z. suc (length z)) l)
                      (told_size found refl ∙ ap number_size (behind y))
                      ∙ sym (ap (λ c. cond c (line_size p bs) 0) is);
                };
          }

-- A line that was read: how many bytes it takes, whether the setting may hold its number, and its word where it may.
module _ {p : Property} {bs : List ℕ} {m : Numeral} (l : LineIs p bs (Some m)) where
  pub line_size_lem : m.size ≡ line_size p bs
  line_size_lem = told_size l.told refl

  pub line-fits : m.size ≤ length bs
  line-fits = omega (arith, line_size_lem, line_inside p bs (sym l.told.is))

  pub line_range : is_held p m.word ≡ line_in_range p bs
  unfolding line_in_range line_word
  line_range = go m.word (told_fits l.told refl) (told_word l.told refl)
    where
      go : (w : Option ℕ) → is_some w ≡ is_word (takes_sign p) (number_in (drop (suc (length p.label)) bs))
          → (is_some w ≡ true → unwrap_or w 0 ≡ word_for (number_in (drop (suc (length p.label)) bs)))
          → is_held p w
          ≡ (is_word (takes_sign p) (number_in (drop (suc (length p.label)) bs)) && may_hold p (word_for (number_in (drop (suc (length p.label)) bs))))
      go None f g = ap (λ b. b && may_hold p (word_for (number_in (drop (suc (length p.label)) bs)))) f
      go (Some w) f g = ap₂ (λ b v. b && may_hold p v) f (g refl)

  pub line_stores : line_in_range p bs ≡ true → m.word ≡ Some (line_word p bs)
  unfolding line_in_range line_word
  line_stores h =
      go m.word (told_fits l.told refl ∙ and_left _ (may_hold p (word_for (number_in (drop (suc (length p.label)) bs)))) h) (told_word l.told refl)
    where
      go : (w : Option ℕ) → is_some w ≡ true → (is_some w ≡ true → unwrap_or w 0 ≡ word_for (number_in (drop (suc (length p.label)) bs)))
          → w ≡ Some (word_for (number_in (drop (suc (length p.label)) bs)))
      go None f g = absurd (false≢true f)
      go (Some w) f g = ap Some (g refl)
