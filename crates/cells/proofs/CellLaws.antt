-- Cells and their form: read back, checked, a word or a mark stored, and a posting.
-- Assumes nothing.
use Prim.Native.Nat.{ℕ, zero, suc, ◌+◌, ◌-◌, ◌*◌, ◌/◌, ◌%◌, ◌<◌, ◌≤◌}
use native.Mathlib.Omega.{arith}
use native.Mathlib.Nat.{not-suc-le-zero, zero-add, add-zero}
use native.Mathlib.Decide.{dec_lt}
use mathlib.Core.Path.{◌≡◌, refl, sym, ap, ap₂, subst, ◌∙◌}
use mathlib.Core.Bool.{Bool, true, false, cond, false≢true, and-false}
use mathlib.Core.List.{List, [], ◌∷◌, ◌++◌}
use mathlib.Core.Option.{some, some-injective}
use borrow.Author.Tests.{ltb-true, lt-ltb, le-ltb}
use lib.ListN.{length, get_or, take, drop, set, length-drop, length-set, get_or-eq_default}
use lib.Seq.{drop-drop, get_or-drop, get_or-append-add, set_out, set-set, get_or-set_same}
use lib.Dec.{eqb, ltb}
use Rattle.protocol.specs.Numbers.{word_end, done, unsound, not_live}
use Rattle.protocol.specs.Bytes.{Bytes, every, word}
use Rattle.protocol.specs.Buffer.{put_at}
use Rattle.protocol.specs.Tree.{Property, Tree, Cell, cell_in, cells_sound, is_live, property_in, posted, post}
use Rattle.protocol.proofs.TestLaws.{and_left, and_right, and_both}
use Rattle.protocol.proofs.ListLaws.{number_word, word_number, bytes_cons, bytes_drop, bytes_none, bytes_append}
use Rattle.protocol.proofs.BufferLaws.{set_put, put_behind}
use borrow.Rule.Slice.PartMut.{put_mid}
use mir.Val.{bool_byte}
use Rattle.protocol.specs.declared.Refusal.{Refusal}
use Rattle.std.specs.Bool.{MatchBool}
use Rattle.std.specs.List.{AllWithin, HoldsAt, range_with_len}
use Rattle.std.proofs.lemmas.List.FromFn.{length-range_with_len, get_or-range_with_len}
use Rattle.std.proofs.Common.{Result, Ok}
use Rattle.protocol.specs.Refusal.{refusal_number, number_told}
use Rattle.protocol.proofs.RefusalLaws.{refusal_some}
use Rattle.tree.specs.Seen.{word_at, records_from, same, seen}
use Rattle.soundness.specs.Sound.{is_tree}
use Rattle.cells.specs.Cells.{cell_size, mark_of, cell_form, cells_form, cell_seen, cells_in, has_cells, cells_of, with_word, with_mark}
use Rattle.cells.specs.Lent.{is_lent, lent_number, post_in, Updates}
use Rattle.tree.proofs.FoundLaws.{if_some}
use Rattle.tree.proofs.RecordLaws.{records_length, records_at}
use Rattle.tree.proofs.NumberLaws.{word_bytes, word_fits, word_behind}
use Rattle.tree.proofs.SameLaws.{same_eq, same_refl}

-- The words are of 32 bits.
abbrev pub in_width : List Cell → Bool
in_width cs = every (λ c. ltb c.word word_end) cs

-- A form takes five bytes for each cell, and all of it is bytes.
pub cells_size_lem : (cs : List Cell) → length (cells_form cs) ≡ length cs * cell_size
unfolding cells_form cell_form word
cells_size_lem [] = refl
cells_size_lem (c ∷ cs) = omega (arith, cells_size_lem cs)

cell_size_lem : (c : Cell) → length (cell_form c) ≡ cell_size
unfolding cell_form word
cell_size_lem c = refl

mark_byte : (t : Bool) → mark_of t ≤ 1
mark_byte true = omega arith
mark_byte false = omega arith

cell_bytes : (c : Cell) → Bytes (cell_form c)
unfolding cell_form
cell_bytes c =
    bytes_append (word c.word) (mark_of c.ready ∷ []) (word_bytes c.word)
    (bytes_cons (mark_of c.ready) [] (omega (arith, mark_byte c.ready)) bytes_none)

pub cells_form_bytes : (cs : List Cell) → Bytes (cells_form cs)
unfolding cells_form
cells_form_bytes [] = bytes_none
cells_form_bytes (c ∷ cs) = bytes_append (cell_form c) (cells_form cs) (cell_bytes c) (cells_form_bytes cs)

-- How many cells bytes have room for.
pub cells_count : (bs : List ℕ) → length (cells_in bs) ≡ length bs / cell_size
unfolding cells_in
cells_count bs = records_length cell_size cell_seen (length bs / cell_size) bs

-- A form read back.
mark_back : (t : Bool) → eqb (mark_of t) 1 ≡ t
mark_back true = refl
mark_back false = refl

cell_back : (c : Cell) (bs : List ℕ) → c.word < word_end → cell_seen (cell_form c ++ bs) ≡ c
unfolding cell_seen cell_form word word_at
cell_back c bs h = ap₂ (λ w r. record { word = w; ready = r }) (number_word c.word h) (mark_back c.ready)

behind : (c : Cell) (bs : List ℕ) → drop cell_size (cell_form c ++ bs) ≡ bs
unfolding cell_form word
behind c bs = refl

all_back : (cs : List Cell) → in_width cs ≡ true → records_from cell_size cell_seen (length cs) (cells_form cs) ≡ cs
unfolding every cells_form records_from
all_back [] h = refl
all_back (c ∷ cs) h =
    ap₂ (λ x xs. x ∷ xs)
    (cell_back c (cells_form cs) (ltb-true c.word word_end (and_left (ltb c.word word_end) (in_width cs) h)))
    (ap (records_from cell_size cell_seen (length cs)) (behind c (cells_form cs))
    ∙ all_back cs (and_right (ltb c.word word_end) (in_width cs) h))

pub cells_in_form : (cs : List Cell) → in_width cs ≡ true → cells_in (cells_form cs) ≡ cs
unfolding cells_in
cells_in_form cs h =
    let n : length (cells_form cs) / cell_size ≡ length cs = omega (arith, cells_size_lem cs) in
    ap (λ m. records_from cell_size cell_seen m (cells_form cs)) n ∙ all_back cs h

-- Every state of cells has a form, which reads back.
pub has_form_lem : (cs : List Cell) → in_width cs ≡ true → has_cells (cells_form cs) ≡ true
unfolding has_cells
has_form_lem cs h = ap (λ l. same (cells_form cs) (cells_form l)) (cells_in_form cs h) ∙ same_refl (cells_form cs)

pub cells_back : (cs : List Cell) → in_width cs ≡ true → cells_of (cells_form cs) ≡ some cs
unfolding cells_of
cells_back cs h = rw (has_form_lem cs h) (ap some (cells_in_form cs h))

pub cells_back_in : (t : Tree) (cs : List Cell) → cells_sound t cs ≡ true → cells_of (cells_form cs) ≡ some cs
unfolding cells_sound
cells_back_in t cs h = cells_back cs (and_right (eqb (length cs) (length t.properties)) (in_width cs) h)

-- Bytes that have a form are the form of the cells in them, and the words of these are of 32 bits.
pub form_of : (bs : List ℕ) → has_cells bs ≡ true → bs ≡ cells_form (cells_in bs)
unfolding has_cells
form_of bs h = same_eq bs (cells_form (cells_in bs)) h

records_fit : (n : ℕ) (bs : List ℕ) → Bytes bs → in_width (records_from cell_size cell_seen n bs) ≡ true
unfolding every records_from cell_seen
records_fit zero bs all = refl
records_fit (suc n) bs all =
    and_both (lt-ltb (word_at 0 bs) word_end (word_fits 0 bs all))
    (records_fit n (drop cell_size bs) (bytes_drop cell_size bs all))

pub cells_fit : (bs : List ℕ) → Bytes bs → in_width (cells_in bs) ≡ true
unfolding cells_in
cells_fit bs all = records_fit (length bs / cell_size) bs all

-- Nothing without a form is served.
pub cells_sound_lem : (bs : List ℕ) (cs : List Cell) → Bytes bs → cells_of bs ≡ some cs → (in_width cs ≡ true) × (bs ≡ cells_form cs)
unfolding cells_of
cells_sound_lem bs cs all h =
    let both = if_some (has_cells bs) h in
    let is : cells_in bs ≡ cs = some-injective _ _ both.1 in
    (ap in_width (sym is) ∙ cells_fit bs all, form_of bs both.0 ∙ ap cells_form is)

-- The check: whole cells, and marks of 0 and 1.
mark_at : (cs : List Cell) (k : ℕ) → get_or (cells_form cs) (k * cell_size + 4) 0 ≤ 1
unfolding cells_form cell_form word
mark_at [] k = omega arith
mark_at (c ∷ cs) zero = mark_byte c.ready
mark_at (c ∷ cs) (suc k) =
    let n : suc k * cell_size + 4 ≡ cell_size + (k * cell_size + 4) = omega arith in
    subst (λ m. m ≤ 1)
    (sym (ap (λ i. get_or (cells_form (c ∷ cs)) i 0) n ∙ get_or-append-add (cell_form c) (cells_form cs) (k * cell_size + 4) 0))
    (mark_at cs k)

seen-mark : (e : ℕ) → e ≤ 1 → mark_of (eqb e 1) ≡ e
seen-mark zero h = refl
seen-mark (suc zero) h = refl
seen-mark (suc (suc e)) h = absurd (omega (arith, h))

cell-seen : (bs : List ℕ) → Bytes bs → cell_size ≤ length bs → get_or bs 4 0 ≤ 1 → cell_form (cell_seen bs) ++ drop cell_size bs ≡ bs
unfolding cell_form cell_seen word_at
cell-seen [] all h k = absurd (omega (arith, h))
cell-seen (a ∷ []) all h k = absurd (omega (arith, h))
cell-seen (a ∷ b ∷ []) all h k = absurd (omega (arith, h))
cell-seen (a ∷ b ∷ c ∷ []) all h k = absurd (omega (arith, h))
cell-seen (a ∷ b ∷ c ∷ d ∷ []) all h k = absurd (omega (arith, h))
cell-seen (a ∷ b ∷ c ∷ d ∷ e ∷ bs) all h k =
    ap₂ (λ l m. (l ++ m ∷ []) ++ bs) (word_number a b c d (all 0) (all 1) (all 2) (all 3)) (seen-mark e k)

none_left : (bs : List ℕ) → length bs ≡ 0 → [] ≡ bs
none_left [] h = refl
none_left (b ∷ bs) h = absurd (omega (arith, h))

all_seen : (n : ℕ) (bs : List ℕ) → (0 < length bs → Bytes bs) → length bs ≡ n * cell_size → ((k : ℕ) → k < n → get_or bs (k * cell_size + 4) 0 ≤ 1)
    → cells_form (records_from cell_size cell_seen n bs) ≡ bs
unfolding cells_form records_from
all_seen zero bs all h marks = none_left bs (omega (arith, h))
all_seen (suc n) bs all h marks =
    ap (λ l. cell_form (cell_seen bs) ++ l)
    (all_seen n (drop cell_size bs) (λ _. bytes_drop cell_size bs (all (omega (arith, h)))) (omega (arith, h, length-drop cell_size bs))
    (λ k q.
    let i : suc k * cell_size + 4 ≡ cell_size + (k * cell_size + 4) = omega arith in
    subst (λ m. m ≤ 1) (ap (λ j. get_or bs j 0) i ∙ sym (get_or-drop cell_size bs (k * cell_size + 4) 0)) (marks (suc k) (omega (arith, q)))))
    ∙ cell-seen bs (all (omega (arith, h))) (omega (arith, h)) (marks 0 (omega arith))

-- Whole cells with their marks are the form of what is seen in them.
module _ (bs : List ℕ) where
  all_marked : Bytes bs → length bs % cell_size ≡ 0 → ((k : ℕ) → k < length bs / cell_size → get_or bs (k * cell_size + 4) 0 ≤ 1)
      → true ≡ has_cells bs
  unfolding has_cells cells_in
  all_marked all whole marks =
      let form : cells_form (records_from cell_size cell_seen (length bs / cell_size) bs) ≡ bs =
      all_seen (length bs / cell_size) bs (λ _. all) (omega (arith, whole)) marks in
      sym (ap (same bs) form ∙ same_refl bs)

  -- What has no form.
  refuted : (has_cells bs ≡ true → ⊥) → false ≡ has_cells bs
  refuted no-form = go (has_cells bs) refl
    where
      go : (t : Bool) → has_cells bs ≡ t → false ≡ has_cells bs
      go true e = absurd (no-form e)
      go false e = sym e

  pub not_whole : (length bs % cell_size ≡ 0 → ⊥) → false ≡ has_cells bs
  not_whole h =
      refuted (λ e. h (omega (arith, ap length (form_of bs e), cells_size_lem (cells_in bs))))

  pub not_marked : (k : ℕ) → 1 < get_or bs (k * cell_size + 4) 0 → false ≡ has_cells bs
  not_marked k h =
      refuted (λ e.
      let is : get_or bs (k * cell_size + 4) 0 ≡ get_or (cells_form (cells_in bs)) (k * cell_size + 4) 0 =
      ap (λ l. get_or l (k * cell_size + 4) 0) (form_of bs e) in
      omega (arith, h, is, mark_at (cells_in bs) k))

  -- What a look at every mark tells.
  module _ (n : ℕ) (e : n ≡ length bs / cell_size) where
    place_is : (k d : ℕ) → k < n → get_or (range_with_len 0 n) k d ≡ k
    place_is k d h = get_or-range_with_len 0 n k d h ∙ zero-add k

    pub marks_told : (r : Bool) → Bytes bs → length bs % cell_size ≡ 0
        → MatchBool r
        (AllWithin (λ k. get_or bs (k * cell_size + 4) 0 ≤ 1) (range_with_len 0 n) 0 (length (range_with_len 0 n)))
        ((k : ℕ) × (k < length (range_with_len 0 n)) × HoldsAt (λ k. 1 < get_or bs (k * cell_size + 4) 0) (range_with_len 0 n) k)
        → r ≡ has_cells bs
    marks_told true all whole m =
        all_marked all whole
        (λ k h.
        let below : k < n = omega (arith, e, h) in
        subst (λ i. get_or bs (i * cell_size + 4) 0 ≤ 1) (place_is k 0 below) (m k 0 (omega arith) (omega (arith, below, length-range_with_len 0 n))))
    marks_told false all whole m =
        let below : m.0 < n = omega (arith, m.1, length-range_with_len 0 n) in
        not_marked m.0 (subst (λ i. 1 < get_or bs (i * cell_size + 4) 0) (place_is m.0 0 below) (m.2 0))

-- A cell read by its place; a place past the end has the cell of zeros.
pub cell_at : (bs : List ℕ) (k : ℕ) → k < length bs / cell_size → cell_in (cells_in bs) k ≡ cell_seen (drop (k * cell_size) bs)
unfolding cells_in
cell_at bs k h = records_at cell_size cell_seen (length bs / cell_size) bs k (record { word = 0; ready = false }) h

pub no_cell : (bs : List ℕ) (k : ℕ) → length bs / cell_size ≤ k → cell_in (cells_in bs) k ≡ record { word = 0; ready = false }
no_cell bs k h =
    get_or-eq_default (cells_in bs) (record { word = 0; ready = false }) (omega (arith, h, cells_count bs))

pub read_word : (bs : List ℕ) (k : ℕ) → k < length bs / cell_size → word_at (k * cell_size) bs ≡ (cell_in (cells_in bs) k).word
unfolding cell_seen
read_word bs k h =
    sym (ap (λ c. c.word) (cell_at bs k h)
    ∙ word_behind (k * cell_size) bs 0
    ∙ ap (λ n. word_at n bs) (add-zero (k * cell_size)))

pub read_mark : (bs : List ℕ) (k : ℕ) → k < length bs / cell_size → eqb (get_or bs (k * cell_size + 4) 0) 1 ≡ (cell_in (cells_in bs) k).ready
unfolding cell_seen
read_mark bs k h =
    sym (ap (λ c. c.ready) (cell_at bs k h) ∙ ap (λ b. eqb b 1) (get_or-drop (k * cell_size) bs 4 0))

-- What changes a cell, put into its form, changes it in the form of all.
module _ (offset : ℕ) (bytes : List ℕ) (change : Cell → Cell)
    (here : (c : Cell) (bs : List ℕ) → put_at offset bytes (cell_form c ++ bs) ≡ cell_form (change c) ++ bs) where
  put_cell : (cs : List Cell) (k : ℕ) → k < length cs
      → put_at (k * cell_size + offset) bytes (cells_form cs) ≡ cells_form (set cs k (change (cell_in cs k)))
  unfolding cells_form
  put_cell [] k h = absurd (not-suc-le-zero h)
  put_cell (c ∷ cs) zero h =
      ap (λ n. put_at n bytes (cell_form c ++ cells_form cs)) (zero-add offset) ∙ here c (cells_form cs)
  put_cell (c ∷ cs) (suc k) h =
      let n : suc k * cell_size + offset ≡ length (cell_form c) + (k * cell_size + offset) = omega (arith, cell_size_lem c) in
      ap (λ m. put_at m bytes (cell_form c ++ cells_form cs)) n
      ∙ put_behind (cell_form c) (k * cell_size + offset) bytes (cells_form cs)
      ∙ ap (λ l. cell_form c ++ l) (put_cell cs k (omega (arith, h)))

  store_cell : (cs : List Cell) (k : ℕ)
      → cond (ltb k (length (cells_form cs) / cell_size)) (put_at (k * cell_size + offset) bytes (cells_form cs)) (cells_form cs)
      ≡ cells_form (set cs k (change (cell_in cs k)))
  store_cell cs k = go (dec_lt k (length cs))
    where
      n : length (cells_form cs) / cell_size ≡ length cs
      n = omega (arith, cells_size_lem cs)

      go : Dec (k < length cs)
          → cond (ltb k (length (cells_form cs) / cell_size)) (put_at (k * cell_size + offset) bytes (cells_form cs)) (cells_form cs)
          ≡ cells_form (set cs k (change (cell_in cs k)))
      go (yes h) = rw (n, lt-ltb k (length cs) h) (put_cell cs k h)
      go (no h) =
          rw (n, le-ltb k (length cs) (omega (arith, h)))
          (ap cells_form (sym (set_out cs k (change (cell_in cs k)) (omega (arith, h)))))

-- A cell with another word, and with another mark.
abbrev pub with_number : ℕ → Cell → Cell
with_number w c = record { word = w; ready = c.ready }

abbrev pub marked : Bool → Cell → Cell
marked t c = record { word = c.word; ready = t }

word_here : (w : ℕ) (c : Cell) (bs : List ℕ) → put_at 0 (word w) (cell_form c ++ bs) ≡ cell_form (with_number w c) ++ bs
unfolding put_at cell_form word
word_here w c bs = refl

mark_here : (t : Bool) (c : Cell) (bs : List ℕ) → put_at 4 (mark_of t ∷ []) (cell_form c ++ bs) ≡ cell_form (marked t c) ++ bs
unfolding put_at cell_form word
mark_here t c bs = refl

pub word-stored : (cs : List Cell) (k w : ℕ) → with_word k w (cells_form cs) ≡ cells_form (set cs k (with_number w (cell_in cs k)))
unfolding with_word
word-stored cs k w =
    ap (λ n. cond (ltb k (length (cells_form cs) / cell_size)) (put_at n (word w) (cells_form cs)) (cells_form cs))
    (sym (add-zero (k * cell_size)))
    ∙ store_cell 0 (word w) (with_number w) (word_here w) cs k

pub mark-stored : (cs : List Cell) (k : ℕ) (t : Bool) → with_mark k t (cells_form cs) ≡ cells_form (set cs k (marked t (cell_in cs k)))
unfolding with_mark
mark-stored cs k t = store_cell 4 (mark_of t ∷ []) (marked t) (mark_here t) cs k

-- A cell changed twice.
twice : (cs : List Cell) (k : ℕ) (x : Cell) (g : Cell → Cell) → set (set cs k x) k (g (cell_in (set cs k x) k)) ≡ set cs k (g x)
twice cs k x g = go (dec_lt k (length cs))
  where
    go : Dec (k < length cs) → set (set cs k x) k (g (cell_in (set cs k x) k)) ≡ set cs k (g x)
    go (yes h) =
        ap (λ y. set (set cs k x) k (g y)) (get_or-set_same cs k x (record { word = 0; ready = false }) h)
        ∙ set-set cs k x (g x)
    go (no h) =
        let short : length cs ≤ k = omega (arith, h) in
        set_out (set cs k x) k (g (cell_in (set cs k x) k)) (omega (arith, length-set cs k x))
        ∙ set_out cs k x short
        ∙ sym (set_out cs k (g x) short)

-- What a posting stores: the word, where it is ready, and then the mark.
pub worded : List ℕ → ℕ → ℕ → Bool → List ℕ
worded bs k w ready = cond ready (with_word k w bs) bs

module _ (bs : List ℕ) (k w : ℕ) (ready : Bool) {mid : List ℕ} where
  pub word_first : ready ≡ true → mid ≡ with_word k w bs → mid ≡ worded bs k w ready
  unfolding worded
  word_first e h = rw e h

  pub no_word : ready ≡ false → mid ≡ bs → mid ≡ worded bs k w ready
  unfolding worded
  no_word e h = rw e h

stored : (cs : List Cell) (k w : ℕ) (ready : Bool)
    → with_mark k ready (worded (cells_form cs) k w ready) ≡ cells_form (set cs k (posted (cell_in cs k) w ready))
unfolding worded
stored cs k w true =
    ap (with_mark k true) (word-stored cs k w)
    ∙ mark-stored (set cs k (with_number w (cell_in cs k))) k true
    ∙ ap cells_form (twice cs k (with_number w (cell_in cs k)) (marked true))
stored cs k w false = mark-stored cs k false

-- Bytes stored one by one.
pub word_kept : (bs : List ℕ) (k w : ℕ) → length bs / cell_size ≤ k → bs ≡ with_word k w bs
unfolding with_word
word_kept bs k w h = rw (le-ltb k (length bs / cell_size) h)

pub mark_kept : (bs : List ℕ) (k : ℕ) (t : Bool) → length bs / cell_size ≤ k → bs ≡ with_mark k t bs
unfolding with_mark
mark_kept bs k t h = rw (le-ltb k (length bs / cell_size) h)

pub word_set : (bs : List ℕ) (k w : ℕ) {at : ℕ} {new : List ℕ} → k < length bs / cell_size → at ≡ k * cell_size → new ≡ word w
    → put_mid at (at + 4 - at) bs new ≡ with_word k w bs
unfolding with_word word put_at
word_set bs k w h e f =
    let four : k * cell_size + 4 - k * cell_size ≡ 4 = omega arith in
    rw (lt-ltb k (length bs / cell_size) h)
    (ap₂ (λ n l. put_mid n (n + 4 - n) bs l) e f
    ∙ ap (λ m. put_mid (k * cell_size) m bs (word w)) four
    ∙ ap (λ l. take (k * cell_size) bs ++ (word w ++ l)) (drop-drop 4 (k * cell_size) bs))

pub mark_byte_is : (t : Bool) → bool_byte t ≡ mark_of t
mark_byte_is true = refl
mark_byte_is false = refl

pub mark_set : (bs : List ℕ) (k : ℕ) (t : Bool) → k < length bs / cell_size → set bs (k * cell_size + 4) (mark_of t) ≡ with_mark k t bs
unfolding with_mark
mark_set bs k t h = rw (lt-ltb k (length bs / cell_size) h) (set_put bs (k * cell_size + 4) (mark_of t) (omega (arith, h)))

-- A posting: to a live property, which is one that there is, and to another.
live_within : (ps : List Property) (k : ℕ) → is_live (property_in (record { nodes = []; properties = ps }) k) ≡ true → k < length ps
live_within [] k h = absurd (false≢true h)
live_within (p ∷ ps) zero h = omega arith
live_within (p ∷ ps) (suc k) h = omega (arith, live_within ps k h)

module _ (t : Tree) (cs : List Cell) (k w : ℕ) (ready : Bool) where
  post_live : is_live (property_in t k) ≡ true
      → post t cs k w ready ≡ record { number = done; cells = set cs k (posted (cell_in cs k) w ready) }
  unfolding post
  post_live h = rw (lt-ltb k (length t.properties) (live_within t.properties k h), h)

  post_other : is_live (property_in t k) ≡ false → post t cs k w ready ≡ record { number = not_live; cells = cs }
  unfolding post
  post_other h = rw (h, and-false (ltb k (length t.properties)))

-- Lent bytes that passed the check, or did not.
module _ (tree cells : List ℕ) where
  pub lent_done : {n : ℕ} → n ≡ lent_number tree cells → n ≡ done → is_lent tree cells ≡ true
  unfolding lent_number
  lent_done {n} e h = go (is_lent tree cells) refl
    where
      go : (t : Bool) → is_lent tree cells ≡ t → is_lent tree cells ≡ true
      go true q = q
      go false q = absurd (omega (arith, sym h ∙ e, ap (λ t. cond t done unsound) q))

  pub lent_passed : {r : Result (Unit {0}) Refusal} → number_told r ≡ lent_number tree cells → r ≡ Ok tt → is_lent tree cells ≡ true
  lent_passed e h = lent_done (sym (ap number_told h) ∙ e) refl

  pub lent_refused : {n : ℕ} → n ≡ lent_number tree cells → (n ≡ done → ⊥) → is_lent tree cells ≡ false
  unfolding lent_number
  lent_refused {n} e u = go (is_lent tree cells) refl
    where
      go : (t : Bool) → is_lent tree cells ≡ t → is_lent tree cells ≡ false
      go true q = absurd (u (e ∙ rw q))
      go false q = q

  pub refused_unsound : {n : ℕ} → n ≡ lent_number tree cells → (n ≡ done → ⊥) → n ≡ unsound
  unfolding lent_number
  refused_unsound e u = e ∙ rw (lent_refused e u)

  pub lent_form : is_lent tree cells ≡ true → cells ≡ cells_form (cells_in cells)
  unfolding is_lent
  lent_form e =
      let rest = and_right (is_tree tree) _ e in
      form_of cells (and_left (has_cells cells) _ rest)

module _ (tree cells : List ℕ) (k w : ℕ) (ready : Bool) where
  pub posts_refused : (e : Refusal) → refusal_number e ≡ lent_number tree cells → Updates (post_in tree cells k w ready) (refusal_number e) cells
  unfolding post_in
  posts_refused e h =
      rw (lent_refused tree cells h (refusal_some e)) (record { number = refused_unsound tree cells h (refusal_some e); bytes = refl })

  pub posts_other : is_lent tree cells ≡ true → is_live (property_in (seen tree) k) ≡ false → Updates (post_in tree cells k w ready) not_live cells
  unfolding post_in
  posts_other e h =
      let is = post_other (seen tree) (cells_in cells) k w ready h in
      rw e (record { number = sym (ap (λ p. p.number) is); bytes = lent_form tree cells e ∙ ap (λ p. cells_form p.cells) (sym is) })

  pub posts_live : {mid new : List ℕ} → is_lent tree cells ≡ true → is_live (property_in (seen tree) k) ≡ true
      → mid ≡ worded cells k w ready → new ≡ with_mark k ready mid → Updates (post_in tree cells k w ready) done new
  unfolding post_in
  posts_live e h f g =
      let is = post_live (seen tree) (cells_in cells) k w ready h in
      rw e
      (record {
        number = sym (ap (λ p. p.number) is);
        bytes =
            g
            ∙ ap (with_mark k ready) (f ∙ ap (λ l. worded l k w ready) (lent_form tree cells e))
            ∙ stored (cells_in cells) k w ready
            ∙ ap (λ p. cells_form p.cells) (sym is);
      })
