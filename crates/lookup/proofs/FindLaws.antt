-- Lookups: the records of a table that name a node, by their number and counted.
-- Assumes nothing.
use Prim.Native.Nat.{ℕ, zero, suc, ◌+◌, ◌-◌, ◌*◌, ◌<◌, ◌≤◌}
use native.Mathlib.Omega.{arith}
use native.Mathlib.Numerals.{add-one}
use mathlib.Core.Path.{◌≡◌, refl, sym, ap, ap₂, ◌∙◌}
use mathlib.Core.Bool.{Bool, true, false, cond}
use mathlib.Core.List.{List, [], ◌∷◌, ◌++◌}
use mathlib.Core.Option.{none, some}
use lib.ListN.{length, get_or, drop, length-append, drop_of_length-le}
use lib.Seq.{drop-cons}
use lib.Dec.{eqb}
use Rattle.protocol.specs.Tree.{places_from, numbered, children_of, properties_of}
use mir.Val.{bool_byte}
use Rattle.tree.specs.Form.{node_size, property_size, properties_start}
use Rattle.tree.specs.Seen.{records_from, seen, node_count, property_count, node_seen, property_seen}
use Rattle.tree.proofs.RecordLaws.{records_length, first_at, records_drop, records_places}
use Rattle.lookup.specs.declared.Table.{Table}
use Rattle.lookup.specs.Find.{belonging}

-- The first bytes of the records of a table, and the places from k on of those that name a node.
abbrev column : List ℕ → Table → List ℕ
column bs table = records_from table.size (λ r. get_or r 0 0) table.end (drop table.start bs)

abbrev places_on : List ℕ → Table → ℕ → ℕ → List ℕ
places_on bs table node k = places_from k (λ b. eqb b node) (drop k (column bs table))

-- Whether the record at a place names a node.
abbrev pub names : List ℕ → Table → ℕ → ℕ → Bool
names bs table node k = eqb (get_or bs (table.start + k * table.size) 0) node

module _ (bs : List ℕ) (table : Table) (node k : ℕ) where
  column_at : k < table.end → get_or (column bs table) k 0 ≡ get_or bs (table.start + k * table.size) 0
  column_at h = first_at table.size table.end table.start bs k h

  column_length : length (column bs table) ≡ table.end
  column_length = records_length table.size (λ r. get_or r 0 0) table.end (drop table.start bs)

  places_step : k < table.end
      → places_on bs table node k ≡ cond (names bs table node k) (k ∷ []) [] ++ places_on bs table node (k + 1)
  unfolding places_from
  places_step h =
      ap (places_from k (λ b. eqb b node)) (drop-cons (column bs table) k 0 (omega (arith, column_length)))
      ∙ ap₂ (λ b n. cond (eqb b node) (k ∷ []) [] ++ places_from n (λ x. eqb x node) (drop n (column bs table)))
      (column_at h) (sym (add-one k))

  places_end : table.end ≤ k → places_on bs table node k ≡ []
  unfolding places_from
  places_end h =
      ap (places_from k (λ b. eqb b node)) (drop_of_length-le (column bs table) {i = k} (omega (arith, column_length)))

-- What a record counts: 1 or 0.
hit_small : (t : Bool) → bool_byte t ≤ 1
hit_small true = omega arith
hit_small false = omega arith

-- A number is looked for: the number that is left counts from a place on.
pub record Seeking (bs : List ℕ) (table : Table) (node n left k : ℕ) : Type 0 where
  pub unchanged : numbered (belonging bs table node) n ≡ numbered (places_on bs table node k) left
  pub some_left : 1 ≤ left

numbered_here : (t : Bool) (k : ℕ) (xs : List ℕ) (left : ℕ) → left - bool_byte t ≡ 0 → 1 ≤ left → numbered (cond t (k ∷ []) [] ++ xs) left ≡ some k
unfolding numbered
numbered_here true k xs left q h = let one : left ≡ 1 = omega (arith, q, h) in ap (numbered (k ∷ xs)) one
numbered_here false k xs left q h = absurd (omega (arith, q, h))

numbered_past : (t : Bool) (k : ℕ) (xs : List ℕ) (left : ℕ) → (left - bool_byte t ≡ 0 → ⊥) → 1 ≤ left
    → numbered (cond t (k ∷ []) [] ++ xs) left ≡ numbered xs (left - bool_byte t)
unfolding numbered
numbered_past true k xs zero q h = absurd (omega (arith, h))
numbered_past true k xs (suc zero) q h = absurd (q (omega arith))
numbered_past true k xs (suc (suc n)) q h = let e : suc n ≡ suc (suc n) - 1 = omega arith in ap (numbered xs) e
numbered_past false k xs left q h = let e : left ≡ left - 0 = omega arith in ap (numbered xs) e

numbered_nil : (n : ℕ) → numbered [] n ≡ none
unfolding numbered
numbered_nil zero = refl
numbered_nil (suc n) = refl

module _ (bs : List ℕ) (table : Table) (node n : ℕ) where
  pub seek_none : n ≡ 0 → numbered (belonging bs table node) n ≡ none
  unfolding numbered
  seek_none h = ap (numbered (belonging bs table node)) h

  pub seek_begins : (n ≡ 0 → ⊥) → Seeking bs table node n n table.first
  unfolding belonging
  seek_begins h = record { unchanged = refl; some_left = omega (arith, h) }

  module _ {left k : ℕ} (s : Seeking bs table node n left k) where
    abbrev hit : ℕ
    hit = bool_byte (names bs table node k)

    pub seek_found : k < table.end → left - hit ≡ 0 → numbered (belonging bs table node) n ≡ some k
    seek_found h q =
        s.unchanged
        ∙ ap (λ xs. numbered xs left) (places_step bs table node k h)
        ∙ numbered_here (names bs table node k) k (places_on bs table node (k + 1)) left q s.some_left

    pub seek_more : k < table.end → (left - hit ≡ 0 → ⊥) → Seeking bs table node n (left - hit) (k + 1)
    seek_more h q =
        record {
          unchanged =
              s.unchanged
              ∙ ap (λ xs. numbered xs left) (places_step bs table node k h)
              ∙ numbered_past (names bs table node k) k (places_on bs table node (k + 1)) left q s.some_left;
          some_left = omega (arith, q);
        }

    pub seek_ends : table.end ≤ k → numbered (belonging bs table node) n ≡ none
    seek_ends h = s.unchanged ∙ ap (λ xs. numbered xs left) (places_end bs table node k h) ∙ numbered_nil left

-- Those that name a node are counted.
pub record Counting (bs : List ℕ) (table : Table) (node n k : ℕ) : Type 0 where
  pub all : n + length (places_on bs table node k) ≡ length (belonging bs table node)
  pub within : n ≤ k

length-one : (t : Bool) (k : ℕ) → length (cond t (k ∷ []) []) ≡ bool_byte t
length-one true k = refl
length-one false k = refl

module _ (bs : List ℕ) (table : Table) (node : ℕ) where
  pub count_begins : Counting bs table node 0 table.first
  unfolding belonging
  count_begins = record { all = omega arith; within = omega arith }

  pub count_more : {n k : ℕ} → Counting bs table node n k → k < table.end
      → Counting bs table node (n + bool_byte (names bs table node k)) (k + 1)
  count_more {n} {k} s h =
      let here : List ℕ = cond (names bs table node k) (k ∷ []) [] in
      let more : List ℕ = places_on bs table node (k + 1) in
      record {
        all =
            omega (
              arith,
              s.all,
              ap length (places_step bs table node k h) ∙ length-append here more,
              length-one (names bs table node k) k,
            );
        within = omega (arith, hit_small (names bs table node k), s.within);
      }

  pub count_ends : {n k : ℕ} → Counting bs table node n k → table.end ≤ k → n ≡ length (belonging bs table node)
  count_ends {n} {k} s h = omega (arith, s.all, ap length (places_end bs table node k h))

-- What names a node by its first byte stands in the table of its kind.
module _ {A : Type 0} (read : List ℕ → A) (f : A → Bool) (node : ℕ) (first : (r : List ℕ) → f (read r) ≡ eqb (get_or r 0 0) node) where
  belongs : (bs : List ℕ) (table : Table)
      → places_from table.first f
      (drop table.first (records_from table.size read table.end (drop table.start bs)))
      ≡ belonging bs table node
  unfolding belonging
  belongs bs table =
      ap (places_from table.first f) (records_drop table.size read table.end (drop table.start bs) table.first)
      ∙ records_places table.size read (λ r. get_or r 0 0) f (λ b. eqb b node) first (table.end - table.first)
      (drop (table.first * table.size) (drop table.start bs)) table.first
      ∙ ap (places_from table.first (λ b. eqb b node))
      (sym (records_drop table.size (λ r. get_or r 0 0) table.end (drop table.start bs) table.first))

module _ (bs : List ℕ) (node : ℕ) (table : Table) where
  pub children_in : table.start ≡ 2 → table.size ≡ node_size → table.first ≡ 1 → table.end ≡ node_count bs
      → belonging bs table node ≡ children_of (seen bs) node
  unfolding children_of seen node_seen
  children_in s z f e =
      sym (belongs (node_seen bs) (λ n. eqb n.parent node) node (λ r. refl) bs table) ∙ simp (s, z, f, e)

  pub properties_in : table.start ≡ properties_start (node_count bs) → table.size ≡ property_size → table.first ≡ 0 → table.end ≡ property_count bs
      → belonging bs table node ≡ properties_of (seen bs) node
  unfolding properties_of seen property_seen
  properties_in s z f e =
      sym (belongs (property_seen bs) (λ p. eqb p.node node) node (λ r. refl) bs table) ∙ simp (s, z, f, e)
