-- Labels: plain ones, those that are the same, and those that can be written.
-- Assumes nothing.
use Prim.Native.Nat.{ℕ, ◌+◌}
use mathlib.Core.Path.{◌≡◌, refl, sym, ap, ap₂, ◌∙◌}
use mathlib.Core.Bool.{Bool, true, false, not, ◌&&◌, ◌||◌}
use mathlib.Core.List.{List, [], ◌∷◌}
use borrow.Author.Tests.{eqb-true}
use lib.ListN.{length, take, drop}
use lib.Seq.{take_at}
use Rattle.std.specs.List.{list_any}
use lib.Dec.{eqb}
use Rattle.protocol.specs.Bytes.{every}
use Rattle.protocol.specs.Text.{begins, same_text}
use Rattle.protocol.specs.Tree.{Tree}
use Rattle.protocol.specs.Sheet.{settings_of, is_plain, writable}
use Rattle.protocol.proofs.LoadLaws.{begins_stands, text_same, text_self}
use Rattle.sheet.specs.declared.setting.Settings.{Settings}
use Rattle.sheet.specs.Steps.{label_at, settings_from, rest}
use Rattle.sheet.proofs.SettingLaws.{Next, Starts, starts_all, Tests, Trying, try_on, try_fails, try_ends, every_tests}

-- A label with no "=" in it.
pub plain_is : (label : List ℕ) → not (list_any (λ c. eqb c 61) label) ≡ is_plain label
unfolding is_plain every
plain_is [] = refl
plain_is (c ∷ label) = go (eqb c 61) (list_any (λ c. eqb c 61) label) ∙ ap (λ b. not (eqb c 61) && b) (plain_is label)
  where
    go : (a b : Bool) → not (a || b) ≡ (not a && not b)
    go true b = refl
    go false b = refl

-- A text and a label, by whether the text stands where the label does, and by their lengths.
module _ (s l xs : List ℕ) (front : begins l xs ≡ true) where
  front_is : (x : List ℕ) → begins x xs ≡ true → x ≡ take (length x) xs
  front_is x h = sym (ap (take (length x)) (begins_stands x xs h) ∙ take_at x (drop (length x) xs) (length x) refl)

  pub other_front : {r : Bool} → r ≡ begins s xs → r ≡ false → false ≡ same_text s l
  other_front {r} e f = go (same_text s l) refl
    where
      go : (b : Bool) → same_text s l ≡ b → false ≡ b
      go false h = refl
      go true h = sym f ∙ e ∙ ap (λ x. begins x xs) (text_same s l h) ∙ front

  pub same_front : {r : Bool} {n : ℕ} → r ≡ begins s xs → r ≡ true → n ≡ length l → eqb (length s) n ≡ same_text s l
  unfolding same_text
  same_front e f g = ap (eqb (length s)) g ∙ go (eqb (length s) (length l)) refl
    where
      go : (b : Bool) → eqb (length s) (length l) ≡ b → eqb (length s) (length l) ≡ same_text s l
      go false h = h ∙ sym (ap (λ b. b && begins s l) h)
      go true h =
          let long = eqb-true (length s) (length l) h in
          let is : s ≡ l = front_is s (sym e ∙ f) ∙ ap (λ n. take n xs) long ∙ sym (front_is l front) in
          h ∙ sym (ap (same_text s) (sym is) ∙ text_self s)

-- No later setting has a text for its label.
abbrev pub differs : Tree → List ℕ → ℕ → Bool
differs t s j = not (same_text s (label_at t j))

abbrev pub Differing : Tree → List ℕ → ℕ → Settings → Type 0
Differing t s k rest =
    Trying t (every (differs t s)) (λ i ks. differs t s i) (every (differs t s) (settings_from t (k + 1))) rest

module _ (t : Tree) (s : List ℕ) (k : ℕ) where
  others : Tests t (every (differs t s)) (λ i ks. differs t s i)
  others = every_tests t (differs t s)

  module _ {now next : Settings} {j : ℕ} {r : Bool} (y : Differing t s k now) (n : Next t now j next) (e : r ≡ same_text s (label_at t j)) where
    pub differing_fails : r ≡ true → false ≡ every (differs t s) (settings_from t (k + 1))
    differing_fails f = try_fails _ _ _ others y n (ap not (sym e ∙ f))

    pub differing_on : r ≡ false → Differing t s k next
    differing_on f = try_on _ _ _ others y n (ap not (sym e ∙ f))

  pub differing_ends : {now : Settings} → Differing t s k now → rest now ≡ [] → true ≡ every (differs t s) (settings_from t (k + 1))
  differing_ends y h = try_ends _ _ _ others y h

-- The labels of all settings.
abbrev one-writable : Tree → ℕ → List ℕ → Bool
one-writable t k ks = is_plain (label_at t k) && every (differs t (label_at t k)) ks

abbrev pub Writing : Tree → Settings → Type 0
Writing t rest = Trying t (writable t) (one-writable t) (writable t (settings_of t)) rest

pub three : (a b c : Bool) → (a && (b && c)) ≡ ((a && b) && c)
three true b c = refl
three false b c = refl

module _ (t : Tree) where
  labels : Tests t (writable t) (one-writable t)
  unfolding writable
  labels =
      record {
        none = refl;
        more = λ k ks. three (is_plain (label_at t k)) (every (differs t (label_at t k)) ks) (writable t ks);
      }

  pub writing_begins : {s : Settings} → Starts t 0 s → Writing t s
  writing_begins b = record { tree = b.tree; decides = ap (writable t) (starts_all b) }

  module _ {now next : Settings} {k : ℕ} (y : Writing t now) (n : Next t now k next) {label : List ℕ} (l : label ≡ label_at t k) {r : Bool} (e : r ≡ is_plain label) where
    plain : r ≡ is_plain (label_at t k)
    plain = e ∙ ap is_plain l

    pub equals_in : r ≡ false → false ≡ writable t (settings_of t)
    equals_in f = try_fails _ _ _ labels y n (ap (λ b. b && every (differs t (label_at t k)) (settings_from t (k + 1))) (sym plain ∙ f))

    module _ {u : Bool} (f : r ≡ true) (g : u ≡ every (differs t label) (settings_from t (k + 1))) where
      both : (is_plain (label_at t k) && every (differs t (label_at t k)) (settings_from t (k + 1))) ≡ u
      both = ap₂ (λ a b. a && b) (sym plain ∙ f) (sym (g ∙ ap (λ x. every (differs t x) (settings_from t (k + 1))) l))

      pub repeated : u ≡ false → false ≡ writable t (settings_of t)
      repeated d = try_fails _ _ _ labels y n (both ∙ d)

      pub writing_on : u ≡ true → Writing t next
      writing_on d = try_on _ _ _ labels y n (both ∙ d)

  pub writing_ends : {now : Settings} → Writing t now → rest now ≡ [] → true ≡ writable t (settings_of t)
  writing_ends y h = try_ends _ _ _ labels y h
