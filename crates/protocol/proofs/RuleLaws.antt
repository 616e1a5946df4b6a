-- Single rules of document 01, said once more in other words, so that a definition that is wrong in one of them fails here.
-- Assumes nothing.
use Prim.Native.Nat.{ℕ, zero, suc, ◌+◌, ◌-◌, ◌%◌, ◌^◌, ◌<◌, ◌≤◌}
use native.Mathlib.Omega.{arith}
use mathlib.Core.Path.{◌≡◌, refl, sym, ap, ◌∙◌}
use mathlib.Core.Bool.{Bool, true, false, cond, and-false, ◌&&◌}
use mathlib.Core.List.{List, [], ◌∷◌}
use mathlib.Core.Option.{none, some, none-ne-some, some-injective}
use borrow.Author.Tests.{ltb-true, ltb-false, le-leb, lt-leb}
use lib.ListN.{length, set}
use lib.Seq.{get_or-set_same, get_or-set_other}
use lib.Dec.{eqb, leb, ltb}
use lib.IntN.{pos, negsuc}
use lib.Signed.{le_z}
use mir.Syntax.{w32}
use mir.Val.{to_z}
use Rattle.protocol.specs.Numbers.{done, disabled, not_live, DISABLED, standard, enumeration, word_end}
use Rattle.protocol.specs.Bytes.{sum, ordered, at_most, every, text, texts}
use Rattle.protocol.specs.Frame.{checksum}
use Rattle.protocol.specs.Tree.{Property, Tree, Cell, can_read, is_signed, is_live, places_from, children_of, property_in, cell_in, readable, reading, unready, restored_cell, restored, posted, post, sound, nodes_sound, properties_sound, property_sound, parents_sound, parents_from, depths_sound, depths_after, live_sound, kind_sound, standard_sound, enumeration_sound, is_name, options_sound, cells_sound}
use Rattle.protocol.specs.Answer.{in_range, plain, refusal_code, answer_by, answer}
use Rattle.protocol.specs.Bench.{bench_tree, bench_cells}
use Rattle.protocol.proofs.TestLaws.{leb_same}

-- The checksum fills the sum of what it is taken of up to 255, mod 256.
pub checksum_fills : (bs : List ℕ) → (sum bs + checksum bs) % 2 ^ 8 ≡ 255
unfolding checksum
checksum_fills bs = omega arith

-- Words in order: unsigned as numbers, signed as the integers that a 32-bit machine reads in them.
pub unsigned_order : (m n : ℕ) → at_most false m n ≡ leb m n
unfolding at_most ordered
unsigned_order m n = refl

positive : (n : ℕ) → ltb n (2 ^ 31) ≡ true → to_z w32 n ≡ pos n
positive n e = rw e

negative : (n : ℕ) → ltb n (2 ^ 31) ≡ false → to_z w32 n ≡ negsuc (2 ^ 32 - suc n)
negative n e = rw e

pub signed_order : (m n : ℕ) → m < word_end → n < word_end → at_most true m n ≡ le_z (to_z w32 m) (to_z w32 n)
unfolding at_most ordered
signed_order m n h k = go (ltb m (2 ^ 31)) refl (ltb n (2 ^ 31)) refl
  where
    m' : ℕ
    m' = (m + 2 ^ 31) % 2 ^ 32

    n' : ℕ
    n' = (n + 2 ^ 31) % 2 ^ 32

    go : (t : Bool) → ltb m (2 ^ 31) ≡ t → (u : Bool) → ltb n (2 ^ 31) ≡ u → leb m' n' ≡ le_z (to_z w32 m) (to_z w32 n)
    go true e true f =
        let a : m < 2 ^ 31 = ltb-true m (2 ^ 31) e in
        let b : n < 2 ^ 31 = ltb-true n (2 ^ 31) f in
        rw (positive m e, positive n f) (leb_same m' n' m n (λ p. omega (arith, p)) (λ p. omega (arith, p)))
    go true e false f =
        let a : m < 2 ^ 31 = ltb-true m (2 ^ 31) e in
        let b : 2 ^ 31 ≤ n = ltb-false n (2 ^ 31) f in
        rw (positive m e, negative n f) (lt-leb m' n' (omega arith))
    go false e true f =
        let a : 2 ^ 31 ≤ m = ltb-false m (2 ^ 31) e in
        let b : n < 2 ^ 31 = ltb-true n (2 ^ 31) f in
        rw (negative m e, positive n f) (le-leb m' n' (omega arith))
    go false e false f =
        let a : 2 ^ 31 ≤ m = ltb-false m (2 ^ 31) e in
        let b : 2 ^ 31 ≤ n = ltb-false n (2 ^ 31) f in
        rw (negative m e, negative n f)
        (leb_same m' n' (2 ^ 32 - suc n) (2 ^ 32 - suc m) (λ p. omega (arith, p)) (λ p. omega (arith, p)))

-- The range rule: no range where min and max of type 1 are both 0, else both ends; type 2 is 0 to max and no more.
pub no_range : (p : Property) (v : ℕ) → p.kind ≡ standard → p.min ≡ 0 → p.max ≡ 0 → in_range p v ≡ true
unfolding in_range
no_range p v k low high = rw (k, low, high)

pub standard_range : (p : Property) (v : ℕ) → p.kind ≡ standard → (eqb p.min 0 && eqb p.max 0) ≡ false
    → in_range p v ≡ (at_most (is_signed p) p.min v && at_most (is_signed p) v p.max)
unfolding in_range
standard_range p v k e = rw (k, e)

pub enumeration_range : (p : Property) (v : ℕ) → p.kind ≡ enumeration → in_range p v ≡ leb v p.max
unfolding in_range
enumeration_range p v k = rw k

-- Posting: marked ready the word is the posted one, marked not ready every word stays, and no other cell is touched.
abbrev takes_posts : Tree → ℕ → Bool
takes_posts t place = ltb place (length t.properties) && is_live (property_in t place)

post_by : (t : Tree) (cs : List Cell) (place w : ℕ) (ready k : Bool) → takes_posts t place ≡ k
    → post t cs place w ready
    ≡ cond k
    (record { number = done; cells = set cs place (posted (cell_in cs place) w ready) })
    (record { number = not_live; cells = cs })
unfolding post
post_by t cs place w ready k e = rw e

pub post-refused : (t : Tree) (cs : List Cell) (place w : ℕ) (ready : Bool) → takes_posts t place ≡ false
    → post t cs place w ready ≡ record { number = not_live; cells = cs }
post-refused t cs place w ready e = post_by t cs place w ready false e

pub post_ready : (t : Tree) (cs : List Cell) (place w : ℕ) → takes_posts t place ≡ true → place < length cs
    → cell_in (post t cs place w true).cells place ≡ record { word = w; ready = true }
post_ready t cs place w e h =
    ap (λ p. cell_in p.cells place) (post_by t cs place w true true e)
    ∙ get_or-set_same cs place (posted (cell_in cs place) w true) _ h

pub post-unready : (t : Tree) (cs : List Cell) (place w : ℕ) → takes_posts t place ≡ true → place < length cs
    → cell_in (post t cs place w false).cells place ≡ record { word = (cell_in cs place).word; ready = false }
post-unready t cs place w e h =
    ap (λ p. cell_in p.cells place) (post_by t cs place w false true e)
    ∙ get_or-set_same cs place (posted (cell_in cs place) w false) _ h

pub post_others : (t : Tree) (cs : List Cell) (place w : ℕ) (ready : Bool) (k : ℕ) → (k ≡ place → ⊥)
    → cell_in (post t cs place w ready).cells k ≡ cell_in cs k
post_others t cs place w ready k h = go (takes_posts t place) refl
  where
    go : (t' : Bool) → takes_posts t place ≡ t' → cell_in (post t cs place w ready).cells k ≡ cell_in cs k
    go true e =
        ap (λ p. cell_in p.cells k) (post_by t cs place w ready true e)
        ∙ get_or-set_other cs place k (posted (cell_in cs place) w ready) _ h
    go false e = ap (λ p. cell_in p.cells k) (post_by t cs place w ready false e)

-- A reading: with read, and ready where it is live, the word of the cell; else none. An open probe has none.
pub reading-word : (p : Property) (c : Cell) → readable p c ≡ true → reading p c ≡ some c.word
unfolding reading
reading-word p c e = rw e

pub no_reading_lem : (p : Property) (c : Cell) → readable p c ≡ false → reading p c ≡ none
unfolding reading
no_reading_lem p c e = rw e

pub reading_some : (p : Property) (c : Cell) {n : ℕ} → reading p c ≡ some n → (readable p c ≡ true) × (c.word ≡ n)
unfolding reading
reading_some p c {n} = go (readable p c)
  where
    go : (t : Bool) → cond t (some c.word) none ≡ some n → (t ≡ true) × (c.word ≡ n)
    go true e = (refl, some-injective _ _ e)
    go false e = absurd (none-ne-some _ e)

pub reading_none : (p : Property) (c : Cell) → reading p c ≡ none → readable p c ≡ false
unfolding reading
reading_none p c = go (readable p c)
  where
    go : (t : Bool) → cond t (some c.word) none ≡ none → t ≡ false
    go true e = absurd (none-ne-some _ (sym e))
    go false e = refl

pub not_readable : (p : Property) (c : Cell) → is_live p ≡ true → c.ready ≡ false → readable p c ≡ false
unfolding readable
not_readable p c live unready = rw (live, unready) (and-false (can_read p))

-- Saved cells lent again, cell by cell.
abbrev pub property_at : List Property → ℕ → Property
property_at ps k = property_in (record { nodes = []; properties = ps }) k

no_cell : (p : Property) → record { word = 0; ready = false } ≡ restored_cell p (record { word = 0; ready = false })
no_cell p = go (is_live p)
  where
    go : (t : Bool) → ◌≡◌ {A = Cell} (record { word = 0; ready = false }) (cond t (record { word = 0; ready = false }) (record { word = 0; ready = false }))
    go true = refl
    go false = refl

restored-cell : (ps : List Property) (cs : List Cell) (k : ℕ) → cell_in (restored ps cs) k ≡ restored_cell (property_at ps k) (cell_in cs k)
unfolding restored
restored-cell [] cs zero = refl
restored-cell [] cs (suc k) = refl
restored-cell (p ∷ ps) [] zero = no_cell p
restored-cell (p ∷ ps) [] (suc k) = no_cell (property_at ps k)
restored-cell (p ∷ ps) (c ∷ cs) zero = refl
restored-cell (p ∷ ps) (c ∷ cs) (suc k) = restored-cell ps cs k

module _ (ps : List Property) (cs : List Cell) (k : ℕ) where
  pub restored_live : is_live (property_at ps k) ≡ true → cell_in (restored ps cs) k ≡ record { word = (cell_in cs k).word; ready = false }
  restored_live e = rw (restored-cell ps cs k, e)

  pub restored_others : is_live (property_at ps k) ≡ false → cell_in (restored ps cs) k ≡ cell_in cs k
  restored_others e = rw (restored-cell ps cs k, e)

pub restored-length : (ps : List Property) (cs : List Cell) → length (restored ps cs) ≡ length cs
unfolding restored
restored-length [] cs = refl
restored-length (p ∷ ps) [] = refl
restored-length (p ∷ ps) (c ∷ cs) = ap suc (restored-length ps cs)

-- The bench tree keeps every rule, and its cells fit it.
pub bench_sound : sound bench_tree ≡ true
unfolding sound nodes_sound properties_sound property_sound parents_sound parents_from depths_sound depths_after live_sound kind_sound standard_sound enumeration_sound is_name options_sound every texts text at_most ordered bench_tree
bench_sound = refl

-- The device's children, which are numbered from 1; it is no child of its own.
pub bench_children : children_of bench_tree 0 ≡ 1 ∷ 2 ∷ []
unfolding children_of places_from bench_tree
bench_children = refl

pub bench_cells_sound : cells_sound bench_tree bench_cells ≡ true
unfolding cells_sound every bench_tree bench_cells
bench_cells_sound = refl

-- With host functions off any data gets 57, and no cell changes.
pub host_off : (t : Tree) (cs : List Cell) (bs : List ℕ) → answer t cs false bs ≡ plain cs disabled (DISABLED ∷ [])
unfolding answer_by refusal_code
host_off t cs bs = refl
