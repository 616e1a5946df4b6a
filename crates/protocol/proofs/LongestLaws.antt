-- No listing is longer than 17,664 bytes.
-- Assumes nothing.
use Prim.Native.Nat.{ℕ, suc, ◌+◌, ◌*◌, ◌<◌, ◌≤◌}
use native.Mathlib.Omega.{arith}
use mathlib.Core.Path.{◌≡◌, refl, sym, ap, ◌∙◌}
use mathlib.Core.Bool.{Bool, true, false, cond, ◌&&◌}
use mathlib.Core.List.{List, [], ◌∷◌, ◌++◌, append_assoc}
use borrow.Author.Tests.{eqb-true, leb-true, ltb-true, ltb-false, lt-ltb}
use lib.ListN.{length, get_or, drop, length-append, length-drop, get_or-append}
use lib.Seq.{get_or_at}
use lib.Dec.{eqb, leb, ltb}
use Rattle.protocol.specs.Numbers.{standard, enumeration, max_depth}
use Rattle.protocol.specs.Bytes.{every, sum}
use Rattle.protocol.specs.Tree.{Node, Property, Tree, places_from, children_of, properties_of, node_in, property_in, depths_after, depths_sound, widths_sound, live_sound, standard_sound, enumeration_sound, kind_sound, property_sound, sound}
use Rattle.protocol.specs.Text.{decimal_in, decimal, dotted_on, dotted, line}
use Rattle.protocol.specs.Listing.{Visit, Item, node, property, below, subtree, walk, property_items, items_at, items, entry_of, entry_text, path_key, name_key, children_key, properties_key, index_key, label_key, type_key, entries, listing}
use Rattle.protocol.specs.Listed.{All}
use Rattle.protocol.proofs.TestLaws.{and_left, and_right, every_at}
use Rattle.protocol.proofs.ListLaws.{sum_snoc}
use Rattle.protocol.proofs.DecimalLaws.{decimal_size}
use Rattle.protocol.proofs.AnswerLaws.{Texts, texts_short}
use Rattle.protocol.proofs.WalkLaws.{depths_stay}
use Rattle.protocol.proofs.OnceLaws.{Rules, rules, property_passes, all_append, all_each, each_size, total-map, total_least, sum_always, items-total}

-- One number more in a dotted path.
on-append : (ms ns : List ℕ) → dotted_on (ms ++ ns) ≡ dotted_on ms ++ dotted_on ns
unfolding dotted_on
on-append [] ns = refl
on-append (m ∷ ms) ns =
    ap (λ l. 46 ∷ l) (ap (λ l. decimal m ++ l) (on-append ms ns) ∙ sym (append_assoc (decimal m) (dotted_on ms) (dotted_on ns)))

number_size_lem : (n : ℕ) → 1 ≤ n → n < 100 → 9 * length (decimal n) ≤ 8 + n
number_size_lem n h k = go (ltb n 10) refl
  where
    go : (b : Bool) → ltb n 10 ≡ b → 9 * length (decimal n) ≤ 8 + n
    go true e = omega (arith, decimal_size 0 n (ltb-true n 10 e))
    go false e = omega (arith, decimal_size 1 n k, ltb-false n 10 e)

one_more : (ns : List ℕ) (n : ℕ) → length (dotted_on (ns ++ n ∷ [])) ≡ length (dotted_on ns) + suc (length (decimal n))
unfolding dotted_on
one_more ns n =
    ap length (on-append ns (n ∷ []))
    ∙ length-append (dotted_on ns) (46 ∷ (decimal n ++ []))
    ∙ omega (arith, length-append (decimal n) [])

-- Depths that are known, with that of a child of the node at a place.
abbrev deeper : List ℕ → ℕ → List ℕ
deeper known k = known ++ suc (get_or known k 0) ∷ []

-- A node's path, where the depths of the nodes from the first on are known: as long as the node is deep, its numbers together no
-- more than the node's place and one, and of each number n a dot and at most a ninth of 8 + n digits.
record Reached (known : List ℕ) (k : ℕ) (path : List ℕ) : Type 0 where
  inside : k < length known
  deep : length path ≡ get_or known k 0
  sums : sum path ≤ suc k
  text : 9 * length (dotted_on path) ≤ 17 * length path + sum path

reached_still : (known : List ℕ) (d k : ℕ) (path : List ℕ) → Reached known k path → Reached (known ++ d ∷ []) k path
reached_still known d k path r =
    record {
      inside = omega (arith, length-append known (d ∷ []), r.inside);
      deep = r.deep ∙ sym (get_or-append known (d ∷ []) 0 k r.inside);
      sums = r.sums;
      text = r.text;
    }

reached_child : (known : List ℕ) (j k : ℕ) (path : List ℕ) (n : ℕ) → length known ≡ j → Reached known k path → 1 ≤ n → k + n ≤ j
    → j < 64 → Reached (deeper known k) j (path ++ n ∷ [])
reached_child known j k path n e r h l m =
    let size : length (path ++ n ∷ []) ≡ suc (length path) = omega (arith, length-append path (n ∷ [])) in
    record {
      inside = omega (arith, e, length-append known (suc (get_or known k 0) ∷ []));
      deep = size ∙ ap suc r.deep ∙ sym (get_or_at known (suc (get_or known k 0)) [] 0 j e);
      sums = omega (arith, sum_snoc path n, r.sums);
      text = omega (arith, sum_snoc path n, size, one_more path n, r.text, number_size_lem n h (omega (arith, l, m)));
    }

abbrev shallow : ℕ → Bool
shallow d = leb d max_depth

-- A path has at most 36 characters: 16 numbers, 64 together.
abbrev Fits : Visit → Type 0
Fits v = length (dotted v.path) ≤ 36

dotted-fits : (path : List ℕ) → length path ≤ max_depth → sum path ≤ 64 → 9 * length (dotted_on path) ≤ 17 * length path + sum path
    → length (dotted path) ≤ 36
unfolding dotted dotted_on
dotted-fits [] h k l = omega arith
dotted-fits (n ∷ ns) h k l = omega (arith, h, k, l)

reached_fits : (xs : List Node) (known : List ℕ) (k : ℕ) (path : List ℕ) → every shallow (depths_after known xs) ≡ true → k < 64
    → Reached known k path → length (dotted path) ≤ 36
reached_fits xs known k path h l r =
    let deep : get_or (depths_after known xs) k 0 ≤ max_depth =
    leb-true _ _ (every_at shallow (depths_after known xs) 0 h refl k) in
    dotted-fits path (omega (arith, deep, depths_stay xs known k r.inside, r.deep)) (omega (arith, l, r.sums)) r.text

below-fits : (xs : List Node) (known : List ℕ) (j k : ℕ) (path : List ℕ) (n : ℕ) → length known ≡ j
    → every shallow (depths_after known xs) ≡ true → j + length xs ≤ 64 → Reached known k path → 1 ≤ n → k + n ≤ j → All Fits (below xs j k path n)
unfolding below depths_after
below-fits [] known j k path n e s h r l m = tt
below-fits (x ∷ xs) known j k path n e s h r l m =
    let size : length (deeper known x.parent) ≡ suc j =
    omega (arith, e, length-append known (suc (get_or known x.parent 0) ∷ [])) in
    let on = reached_still known (suc (get_or known x.parent 0)) k path r in
    go
    (λ c. below-fits xs (deeper known x.parent) (suc j) j (path ++ n ∷ []) 1 size s (omega (arith, h)) c (omega arith) (omega arith))
    (below-fits xs (deeper known x.parent) (suc j) k path (suc n) size s (omega (arith, h)) on (omega arith) (omega (arith, m)))
    (below-fits xs (deeper known x.parent) (suc j) k path n size s (omega (arith, h)) on l (omega (arith, m)))
    (eqb x.parent k)
    refl
  where
    go : (Reached (deeper known x.parent) j (path ++ n ∷ []) → All Fits (below xs (suc j) j (path ++ n ∷ []) 1))
        → All Fits (below xs (suc j) k path (suc n)) → All Fits (below xs (suc j) k path n)
        → (b : Bool) → eqb x.parent k ≡ b → All Fits (below (x ∷ xs) j k path n)
    go own on same true b =
        let child : Reached (deeper known x.parent) j (path ++ n ∷ []) =
        rw (eqb-true x.parent k b) (reached_child known j k path n e r l m (omega (arith, h))) in
        rw (b, below) (
          reached_fits xs (deeper known x.parent) j (path ++ n ∷ []) s (omega (arith, h)) child,
          all_append Fits (below xs (suc j) j (path ++ n ∷ []) 1) (below xs (suc j) k path (suc n)) (own child) on,
        )
    go own on same false b = rw (b, below) same

device_reached : Reached (1 ∷ []) 0 (1 ∷ [])
unfolding sum dotted_on decimal decimal_in
device_reached = record { inside = omega arith; deep = refl; sums = omega arith; text = omega arith }

depths_behind : (ns : List Node) → 1 ≤ length ns → depths_sound ns ≡ true → every shallow (depths_after (1 ∷ []) (drop 1 ns)) ≡ true
unfolding depths_sound depths_after
depths_behind [] l h = absurd (omega (arith, l))
depths_behind (n ∷ ns) l h = h

walk-fits : (t : Tree) → Rules t → All Fits (walk t)
unfolding walk subtree
walk-fits t r =
    let rest : List Node = drop 1 t.nodes in
    let deep = depths_behind t.nodes r.device r.depths in
    let few : 1 + length rest ≤ 64 = omega (arith, length-drop 1 t.nodes, r.few, r.device) in (
      reached_fits rest (1 ∷ []) 0 (1 ∷ []) deep (omega arith) device_reached,
      below-fits rest (1 ∷ []) 1 0 (1 ∷ []) 1 refl deep few device_reached (omega arith) (omega arith),
    )

-- No more entries pass a test than there are.
pub places_few : {A : Type 0} (k : ℕ) (f : A → Bool) (xs : List A) → length (places_from k f xs) ≤ length xs
unfolding places_from
places_few k f [] = omega arith
places_few k f (x ∷ xs) = go (f x) (places_few (suc k) f xs)
  where
    go : (b : Bool) → length (places_from (suc k) f xs) ≤ length xs
        → length (cond b (k ∷ []) [] ++ places_from (suc k) f xs) ≤ suc (length xs)
    go true l = omega (arith, l)
    go false l = omega (arith, l)

children_few : (t : Tree) → Rules t → (k : ℕ) → length (children_of t k) < 100
unfolding children_of
children_few t r k =
    omega (arith, places_few 1 (λ n. eqb n.parent k) (drop 1 t.nodes), length-drop 1 t.nodes, r.few)

properties_few : (t : Tree) → Rules t → (k : ℕ) → length (properties_of t k) ≤ 128
unfolding properties_of
properties_few t r k = omega (arith, places_few 0 (λ p. eqb p.node k) t.properties, r.fewer)

-- The length of a line, and of four.
pub line-length : (key value : List ℕ) → length (line key value) ≡ length key + length value + 2
unfolding line
line-length key value =
    omega (arith, length-append key (61 ∷ (value ++ 10 ∷ [])), length-append value (10 ∷ []))

lines_size : (a b c d v w x y : List ℕ)
    → length (line a v ++ (line b w ++ (line c x ++ line d y)))
    ≡ length a + length b + length c + length d + (length v + length w + length x + length y) + 8
lines_size a b c d v w x y =
    omega (
      arith,
      length-append (line a v) (line b w ++ (line c x ++ line d y)),
      length-append (line b w) (line c x ++ line d y),
      length-append (line c x) (line d y),
      line-length a v,
      line-length b w,
      line-length c x,
      line-length d y,
    )

-- What an item is listed with takes at most 98 bytes for a node, and 89 for a property.
most : Item → ℕ
most (node k path) = 98
most (property p path index) = 89

kind_small : (n : ℕ) (p : Property) → property_sound n p ≡ true → ltb p.kind 10 ≡ true
unfolding property_sound kind_sound
kind_small n p h =
    let sound =
    and_left (kind_sound p) _ (and_right (live_sound p) _ (and_right (widths_sound p) _ (and_right (ltb p.node n) _ h))) in
    lt-ltb p.kind 10 (go (eqb p.kind standard) refl sound)
  where
    go : (b : Bool) → eqb p.kind standard ≡ b
        → cond b (standard_sound p) (eqb p.kind enumeration && enumeration_sound p) ≡ true → p.kind < 10
    go true e s = omega (arith, eqb-true p.kind standard e)
    go false e s = omega (arith, eqb-true p.kind enumeration (and_left (eqb p.kind enumeration) _ s))

module _ (t : Tree) (r : Rules t) (x : Texts t) where
  Small : Item → Type 0
  Small i = length (entry_text (entry_of t i)) ≤ most i

  node_small : (k : ℕ) (path : List ℕ) → length (dotted path) ≤ 36 → Small (node k path)
  unfolding Small entry_text entry_of most
  node_small k path h =
      let children : ℕ = length (children_of t k) in
      let properties : ℕ = length (properties_of t k) in
      omega (
        arith,
        lines_size path_key name_key children_key properties_key (dotted path) (node_in t k).name (decimal children) (decimal properties),
        h,
        x.names k,
        decimal_size 1 children (children_few t r k),
        decimal_size 2 properties (omega (arith, properties_few t r k)),
      )

  property_small : (p : ℕ) (path : List ℕ) (index : ℕ) → length (dotted path) ≤ 36 → index < 1000 → Small (property p path index)
  unfolding Small entry_text entry_of most
  property_small p path index h l =
      let kind : ℕ = (property_in t p).kind in
      omega (
        arith,
        lines_size path_key index_key label_key type_key (dotted path) (decimal index) (property_in t p).label (decimal kind),
        h,
        decimal_size 2 index l,
        x.labels p,
        decimal_size 0 kind (ltb-true kind 10 (property_passes t r (λ q. ltb q.kind 10) (kind_small (length t.nodes)) refl p)),
      )

  properties_small : (path : List ℕ) (index : ℕ) (ps : List ℕ) → length (dotted path) ≤ 36 → index + length ps ≤ 1000
      → All Small (property_items path index ps)
  unfolding property_items
  properties_small path index [] h l = tt
  properties_small path index (p ∷ ps) h l =
      (property_small p path index h (omega (arith, l)), properties_small path (suc index) ps h (omega (arith, l)))

  visit_small : (v : Visit) → Fits v → All Small (items_at t v)
  unfolding items_at
  visit_small v h = (
    node_small v.place v.path h,
    properties_small v.path 1 (properties_of t v.place) h (omega (arith, properties_few t r v.place)),
  )

  items_small : All Small (items t)
  unfolding items
  items_small = all_each Small Fits (items_at t) visit_small (walk t) (walk-fits t r)

pub listing_longest : (t : Tree) → sound t ≡ true → length (listing t) ≤ 17664
unfolding listing entries Small most
listing_longest t h =
    let r = rules t h in
    omega (
      arith,
      each_size entry_text (entries t),
      total-map (λ e. length (entry_text e)) (entry_of t) (items t),
      total_least (λ i. length (entry_text (entry_of t i))) most (items t) (items_small t r (texts_short t h)),
      items-total most (λ k. 98) (λ p. 89) (λ k path. refl) (λ p path index. refl) t r,
      sum_always 98 (length t.nodes),
      sum_always 89 (length t.properties),
      r.few,
      r.fewer,
    )
