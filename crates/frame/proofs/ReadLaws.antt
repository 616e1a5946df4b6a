-- A serial string, read piece by piece.
-- Assumes nothing.
use Rattle.std.proofs.Common.{Some, None, ◌≡◌, ℕ, suc, ◌+◌, ◌-◌, ◌<◌, ◌≤◌, Bool, true, false, cond, eqb, List, [], ◌∷◌, ◌++◌, length, get_or, drop, sym, refl, ap, ◌∙◌, subst, ap₂, append_assoc, append-nil, add-one, arith, length-append, length-drop, drop_of_length-le, drop-cons, drop-drop, eq-eqb, ne_eqb, eqb-true}
use mathlib.Core.Option.{none, some}
use Rattle.protocol.specs.Numbers.{DLE, ETX}
use Rattle.protocol.specs.Bytes.{sum}
use Rattle.protocol.specs.Frame.{doubled, double, undouble, at_end}
use Rattle.protocol.proofs.FrameLaws.{double_snoc, undouble_dle, undouble_end, undouble_bad, prepend, undouble_behind}
use Rattle.frame.specs.declared.read.Tally.{Tally}
use Rattle.frame.specs.declared.read.Piece.{Piece}
use Rattle.frame.specs.declared.read.Piece.TheVariants.{Lone, Doubled, End, Bad}
use Rattle.frame.specs.Steps.{ending, pair, piece_of, Tallies, OneMore, ScanOf}

-- The piece at the front, by the first byte.
piece_of_lone : (b : ℕ) (bs : List ℕ) → eqb b DLE ≡ false → piece_of (b ∷ bs) ≡ Lone b
unfolding piece_of
piece_of_lone b [] e = rw e
piece_of_lone b (p ∷ bs) e = rw e

piece_of_alone : (b : ℕ) → eqb b DLE ≡ true → piece_of (b ∷ []) ≡ Bad
unfolding piece_of
piece_of_alone b e = rw e

piece_of_pair : (b p : ℕ) (bs : List ℕ) → eqb b DLE ≡ true → piece_of (b ∷ p ∷ bs) ≡ pair p bs
unfolding piece_of
piece_of_pair b p bs e = rw e

-- The same at a place of a string.
module _ (s : List ℕ) (i : ℕ) where
  pub lone_at : i < length s → (get_or s i 0 ≡ DLE → ⊥) → Lone (get_or s i 0) ≡ piece_of (drop i s)
  lone_at h e =
      sym (ap piece_of (drop-cons s i 0 h) ∙ piece_of_lone (get_or s i 0) (drop (suc i) s) (ne_eqb (get_or s i 0) DLE e))

  pub alone_at : i < length s → length s ≤ suc i → get_or s i 0 ≡ DLE → Bad ≡ piece_of (drop i s)
  alone_at h k e =
      sym
      (ap piece_of (drop-cons s i 0 h ∙ ap (λ l. get_or s i 0 ∷ l) (drop_of_length-le s k))
      ∙ piece_of_alone (get_or s i 0) (eq-eqb (get_or s i 0) DLE e))

  drop_two : i + 1 < length s → drop i s ≡ get_or s i 0 ∷ get_or s (i + 1) 0 ∷ drop (i + 2) s
  drop_two h =
      let one : i + 1 ≡ suc i = add-one i in
      let two : suc (i + 1) ≡ i + 2 = omega arith in
      drop-cons s i 0 (omega arith)
      ∙ ap (λ n. get_or s i 0 ∷ drop n s) (sym one)
      ∙ ap (λ l. get_or s i 0 ∷ l) (drop-cons s (i + 1) 0 h ∙ ap (λ n. get_or s (i + 1) 0 ∷ drop n s) two)

  pub pair_at : i + 1 < length s → get_or s i 0 ≡ DLE → piece_of (drop i s) ≡ pair (get_or s (i + 1) 0) (drop (i + 2) s)
  pair_at h e =
      ap piece_of (drop_two h)
      ∙ piece_of_pair (get_or s i 0) (get_or s (i + 1) 0) (drop (i + 2) s) (eq-eqb (get_or s i 0) DLE e)

  -- Of the pairs: 10 10, 10 03 at the very end, and the rest.
  pub doubled_at : i + 1 < length s → get_or s i 0 ≡ DLE → get_or s (i + 1) 0 ≡ DLE → Doubled ≡ piece_of (drop i s)
  doubled_at h e f = sym (pair_at h e ∙ rw (eq-eqb (get_or s (i + 1) 0) DLE f))

  pub other_at : i + 1 < length s → get_or s i 0 ≡ DLE → (get_or s (i + 1) 0 ≡ DLE → ⊥) → (get_or s (i + 1) 0 ≡ ETX → ⊥)
      → Bad ≡ piece_of (drop i s)
  other_at h e f g = sym (pair_at h e ∙ rw (ne_eqb (get_or s (i + 1) 0) DLE f, ne_eqb (get_or s (i + 1) 0) ETX g))

  closing_at : i + 1 < length s → get_or s i 0 ≡ DLE → (get_or s (i + 1) 0 ≡ DLE → ⊥) → get_or s (i + 1) 0 ≡ ETX
      → piece_of (drop i s) ≡ ending (drop (i + 2) s)
  closing_at h e f g = pair_at h e ∙ rw (ne_eqb (get_or s (i + 1) 0) DLE f, eq-eqb (get_or s (i + 1) 0) ETX g)

  pub end_at : i + 1 < length s → get_or s i 0 ≡ DLE → (get_or s (i + 1) 0 ≡ DLE → ⊥) → get_or s (i + 1) 0 ≡ ETX
      → length s - i ≡ 2 → End ≡ piece_of (drop i s)
  end_at h e f g k = sym (closing_at h e f g ∙ ap ending (drop_of_length-le s {i = i + 2} (omega (arith, h, k))))

  pub early_at : i + 1 < length s → get_or s i 0 ≡ DLE → (get_or s (i + 1) 0 ≡ DLE → ⊥) → get_or s (i + 1) 0 ≡ ETX
      → (length s - i ≡ 2 → ⊥) → Bad ≡ piece_of (drop i s)
  early_at h e f g k = sym (closing_at h e f g ∙ ap ending (drop-cons s (i + 2) 0 (omega (arith, h, k))))

-- A content byte at the front of some bytes, doubled, over k of them.
record Stands (b k : ℕ) (bs : List ℕ) : Type 0 where
  front : bs ≡ doubled b ++ drop k bs
  width : length (doubled b) ≡ k

lone_stands : (b : ℕ) (bs : List ℕ) → eqb b DLE ≡ false → Stands b 1 (b ∷ bs)
lone_stands b bs e = record { front = rw e; width = rw e }

pair_stands : (b p : ℕ) (bs : List ℕ) → eqb b DLE ≡ true → eqb p DLE ≡ true → Stands DLE 2 (b ∷ p ∷ bs)
pair_stands b p bs e f = record { front = ap₂ (λ x y. x ∷ y ∷ bs) (eqb-true b DLE e) (eqb-true p DLE f); width = refl }

-- What a piece says of the bytes that it is the first of.
abbrev Says : List ℕ → Piece → Type 0
Says bs (Lone b) = Stands b 1 bs
Says bs Doubled = Stands DLE 2 bs
Says bs End = undouble false bs ≡ some []
Says bs Bad = undouble false bs ≡ none

ending_says : (b p : ℕ) (bs : List ℕ) → undouble true (p ∷ bs) ≡ at_end bs → eqb b DLE ≡ true → Says (b ∷ p ∷ bs) (ending bs)
ending_says b p [] h e = undouble_dle b (p ∷ []) e ∙ h
ending_says b p (x ∷ bs) h e = undouble_dle b (p ∷ x ∷ bs) e ∙ h

pair_says : (b p : ℕ) (bs : List ℕ) → eqb b DLE ≡ true → Says (b ∷ p ∷ bs) (pair p bs)
pair_says b p bs e = go (eqb p DLE) refl (eqb p ETX) refl
  where
    go : (t : Bool) → eqb p DLE ≡ t → (u : Bool) → eqb p ETX ≡ u → Says (b ∷ p ∷ bs) (cond t Doubled (cond u (ending bs) Bad))
    go true f u g = pair_stands b p bs e f
    go false f true g = ending_says b p bs (undouble_end p bs f g) e
    go false f false g = undouble_dle b (p ∷ bs) e ∙ undouble_bad p bs f g

says : (bs : List ℕ) → Says bs (piece_of bs)
unfolding piece_of undouble
says [] = refl
says (b ∷ []) = go (eqb b DLE) refl
  where
    go : (t : Bool) → eqb b DLE ≡ t → Says (b ∷ []) (cond t Bad (Lone b))
    go true e = undouble_dle b [] e
    go false e = lone_stands b [] e
says (b ∷ p ∷ bs) = go (eqb b DLE) refl
  where
    go : (t : Bool) → eqb b DLE ≡ t → Says (b ∷ p ∷ bs) (cond t (pair p bs) (Lone b))
    go true e = pair_says b p bs e
    go false e = lone_stands b (p ∷ bs) e

-- A tally of no bytes, and one byte more.
pub tallies_none : (t : Tally) → (t.count ≡ 0) × ((t.sum ≡ 0) × (t.first ≡ 0)) → Tallies [] t
unfolding sum
tallies_none t e = record { count = e.0; total = e.1.0; first = e.1.1 }

pub tallies_more : (c : List ℕ) (b : ℕ) {t r : Tally} → Tallies c t → OneMore t b r → Tallies (c ++ b ∷ []) r
tallies_more c b {t} {r} w m =
    record {
      count = omega (arith, m.count, w.count, length-append c (b ∷ []));
      total = m.total c w.total;
      first = m.first ∙ go c w.count w.first;
    }
  where
    go : (c : List ℕ) → t.count ≡ length c → t.first ≡ get_or c 0 0 → cond (eqb t.count 0) b t.first ≡ get_or (c ++ b ∷ []) 0 0
    go [] n f = rw (eq-eqb t.count 0 n)
    go (x ∷ c) n f = rw (ne_eqb t.count 0 (λ e. omega (arith, e, n))) f

-- The pass over a string, at a place: the bytes passed are a content, doubled, and the tally is that content's.
pub record Scanning (s : List ℕ) (t : Tally) (i : ℕ) : Type 0 where
  pub content : List ℕ
  pub passed : drop 2 s ≡ double content ++ drop i s
  pub tally : Tallies content t
  pub within : i ≤ length s
  pub short : length content + 2 ≤ i

pub begins : (s : List ℕ) {t : Tally} → 2 ≤ length s → Tallies [] t → Scanning s t 2
unfolding double
begins s h w = record { content = []; passed = refl; tally = w; within = h; short = omega arith }

module _ (s : List ℕ) (i : ℕ) {t : Tally} (w : Scanning s t i) where
  says_at : {p : Piece} → p ≡ piece_of (drop i s) → Says (drop i s) p
  says_at e = subst (Says (drop i s)) (sym e) (says (drop i s))

  on : {r : Tally} (b k : ℕ) → Stands b k (drop i s) → 1 ≤ k → OneMore t b r → Scanning s r (i + k)
  on b k e h m =
      record {
        content = w.content ++ b ∷ [];
        passed =
            w.passed
            ∙ ap (λ l. double w.content ++ l) (e.front ∙ ap (λ l. doubled b ++ l) (drop-drop k i s))
            ∙ sym (append_assoc (double w.content) (doubled b) (drop (i + k) s))
            ∙ ap (λ l. l ++ drop (i + k) s) (sym (double_snoc w.content b));
        tally = tallies_more w.content b w.tally m;
        within =
            omega (
              arith,
              ap length e.front,
              length-append (doubled b) (drop k (drop i s)),
              e.width,
              w.within,
              length-drop i s,
            );
        short = omega (arith, h, w.short, length-append w.content (b ∷ []));
      }

  pub lone_on : {r : Tally} {b : ℕ} → Lone b ≡ piece_of (drop i s) → OneMore t b r → Scanning s r (i + 1)
  lone_on {b = b} e m = on b 1 (says_at e) (omega arith) m

  pub doubled-on : {r : Tally} → Doubled ≡ piece_of (drop i s) → OneMore t DLE r → Scanning s r (i + 2)
  doubled-on e m = on DLE 2 (says_at e) (omega arith) m

  -- How a pass ends.
  rest : undouble false (drop 2 s) ≡ prepend w.content (undouble false (drop i s))
  rest = ap (undouble false) w.passed ∙ undouble_behind w.content (drop i s)

  pub whole : End ≡ piece_of (drop i s) → ScanOf (undouble false (drop 2 s)) (Some t)
  whole e =
      rw (rest ∙ ap (prepend w.content) (says_at e)) (subst (λ l. Tallies l t) (sym (append-nil w.content)) w.tally)

  pub broken : Bad ≡ piece_of (drop i s) → ScanOf (undouble false (drop 2 s)) None
  broken e = rw (rest ∙ ap (prepend w.content) (says_at e)) tt

  pub unended : length s ≤ i → ScanOf (undouble false (drop 2 s)) None
  unfolding undouble
  unended h = rw (rest ∙ ap (λ l. prepend w.content (undouble false l)) (drop_of_length-le s h)) tt
