-- The listing of a sound tree: every node and every property stands in it exactly once, and its path and index lead to it.
-- Assumes nothing.
use Prim.Native.Nat.{ℕ, zero, suc, ◌+◌, ◌*◌, ◌<◌, ◌≤◌}
use native.Mathlib.Omega.{arith}
use native.Mathlib.Nat.{add-zero, zero-add, add-suc, suc-add}
use native.Mathlib.Numerals.{add-one, one-add}
use native.Mathlib.Decide.{dec_le}
use mathlib.Core.Path.{◌≡◌, refl, sym, ap, ap₂, ◌∙◌}
use mathlib.Core.Bool.{Bool, true, false, cond}
use mathlib.Core.List.{List, [], ◌∷◌, ◌++◌, map, head-eq_of_cons-eq}
use mathlib.Core.Option.{some}
use borrow.Author.Tests.{eq-eqb, ne_eqb, leb-true, ltb-true}
use lib.ListN.{length, get_elem?, drop, length-append, length-drop}
use lib.Seq.{drop-drop}
use lib.Dec.{eqb, ltb, leb}
use Rattle.protocol.specs.Numbers.{max_nodes, max_properties}
use Rattle.protocol.specs.Bytes.{every}
use Rattle.protocol.specs.Tree.{Node, Property, Tree, places_from, numbered, descend, node_at, children_of, properties_of, property_in, is_name, parents_from, parents_sound, depths_sound, property_sound, nodes_sound, properties_sound, sound}
use Rattle.protocol.specs.Text.{each}
use Rattle.protocol.specs.Listing.{Visit, Item, node, property, below, subtree, walk, property_items, items_at, items}
use Rattle.protocol.specs.Listed.{total, All, one, node_is, property_is, node_times, property_times, property_found, FindsItem, each_from}
use Rattle.protocol.proofs.TestLaws.{and_left, and_right, every_at, every_weaker}
use Rattle.protocol.proofs.PathLaws.{node_on}

-- The rules of a sound tree, one by one.
pub record Rules (t : Tree) : Type 0 where
  pub device : 1 ≤ length t.nodes
  pub few : length t.nodes ≤ max_nodes
  pub parents : parents_from 1 (drop 1 t.nodes) ≡ true
  pub depths : depths_sound t.nodes ≡ true
  pub names : every (λ n. is_name n.name) t.nodes ≡ true
  pub fewer : length t.properties ≤ max_properties
  pub owned : every (property_sound (length t.nodes)) t.properties ≡ true

parents_rule : (ns : List Node) → parents_sound ns ≡ true → (1 ≤ length ns) × (parents_from 1 (drop 1 ns) ≡ true)
unfolding parents_sound
parents_rule [] h = let z : ◌≡◌ {A = ℕ} 0 1 = cc in absurd (omega arith)
parents_rule (n ∷ ns) h = (omega arith, and_right (eqb n.parent 0) _ h)

pub rules : (t : Tree) → sound t ≡ true → Rules t
unfolding sound nodes_sound properties_sound
rules t h =
    let ns = and_left (nodes_sound t.nodes) _ h in
    let ps = and_right (nodes_sound t.nodes) _ h in
    let more = and_right (leb (length t.nodes) max_nodes) _ ns in
    let deep = and_right (parents_sound t.nodes) _ more in
    let first = parents_rule t.nodes (and_left (parents_sound t.nodes) _ more) in
    record {
      device = first.0;
      few = leb-true _ _ (and_left (leb (length t.nodes) max_nodes) _ ns);
      parents = first.1;
      depths = and_left (depths_sound t.nodes) _ deep;
      names = and_right (depths_sound t.nodes) _ deep;
      fewer = leb-true _ _ (and_left (leb (length t.properties) max_properties) _ ps);
      owned = and_right (leb (length t.properties) max_properties) _ ps;
    }

-- A test that every sound property passes, the property at any place does.
pub property_passes : (t : Tree) → Rules t → (f : Property → Bool) → ((p : Property) → property_sound (length t.nodes) p ≡ true → f p ≡ true)
    → f (property_in (record { nodes = []; properties = [] }) 0) ≡ true → (place : ℕ) → f (property_in t place) ≡ true
property_passes t r f w d place =
    every_at f t.properties _ (every_weaker (property_sound (length t.nodes)) f w t.properties r.owned) d place

-- Totals of lists joined, of what each entry gives, and with the same counts.
module _ {A : Type 0} (f : A → ℕ) where
  pub total-append : (xs ys : List A) → total f (xs ++ ys) ≡ total f xs + total f ys
  unfolding total
  total-append [] ys = omega arith
  total-append (x ∷ xs) ys = omega (arith, total-append xs ys)

  pub total-each : {B : Type 0} (g : B → List A) (xs : List B) → total f (each g xs) ≡ total (λ x. total f (g x)) xs
  unfolding total each
  total-each g [] = refl
  total-each g (x ∷ xs) = omega (arith, total-append (g x) (each g xs), total-each g xs)

  pub total-same : (g : A → ℕ) → ((x : A) → f x ≡ g x) → (xs : List A) → total f xs ≡ total g xs
  unfolding total
  total-same g e [] = refl
  total-same g e (x ∷ xs) = ap₂ (λ m n. m + n) (e x) (total-same g e xs)

-- The same through a map, and the length of what each entry gives.
pub total-map : {A B : Type 0} (f : B → ℕ) (g : A → B) (xs : List A) → total f (map g xs) ≡ total (λ x. f (g x)) xs
unfolding total
total-map f g [] = refl
total-map f g (x ∷ xs) = ap (λ n. f (g x) + n) (total-map f g xs)

pub each_size : {A B : Type 0} (f : A → List B) (xs : List A) → length (each f xs) ≡ total (λ x. length (f x)) xs
unfolding each total
each_size f [] = refl
each_size f (x ∷ xs) = omega (arith, length-append (f x) (each f xs), each_size f xs)

-- A fact of every entry, in lists joined and in what each entry gives.
module _ {A : Type 0} (P : A → Type 0) where
  pub all_append : (xs ys : List A) → All P xs → All P ys → All P (xs ++ ys)
  all_append [] ys h k = k
  all_append (x ∷ xs) ys h k = (h.0, all_append xs ys h.1 k)

  pub all_each : {B : Type 0} (Q : B → Type 0) (g : B → List A) → ((x : B) → Q x → All P (g x)) → (xs : List B) → All Q xs → All P (each g xs)
  unfolding each
  all_each Q g w [] h = tt
  all_each Q g w (x ∷ xs) h = all_append (g x) (each g xs) (w x h.0) (all_each Q g w xs h.1)

-- Where no entry counts for more, the total is no more.
pub total_least : {A : Type 0} (f g : A → ℕ) (xs : List A) → All (λ x. f x ≤ g x) xs → total f xs ≤ total g xs
unfolding total
total_least f g [] h = omega arith
total_least f g (x ∷ xs) h = omega (arith, h.0, total_least f g xs h.1)

-- The sum over the places before j.
pub sum_to : ℕ → (ℕ → ℕ) → ℕ
sum_to zero f = 0
sum_to (suc j) f = sum_to j f + f j

pub sum_add : (f g h : ℕ → ℕ) → ((k : ℕ) → h k ≡ f k + g k) → (j : ℕ) → sum_to j h ≡ sum_to j f + sum_to j g
unfolding sum_to
sum_add f g h e zero = refl
sum_add f g h e (suc j) = omega (arith, sum_add f g h e j, e j)

pub sum_always : (n : ℕ) (j : ℕ) → sum_to j (λ k. n) ≡ j * n
unfolding sum_to
sum_always n zero = omega arith
sum_always n (suc j) = omega (arith, sum_always n j)

-- One of the places before j adds a to its term.
record Adds (p a : ℕ) (f g : ℕ → ℕ) (j : ℕ) : Type 0 where
  past : j ≤ p → sum_to j g ≡ sum_to j f
  once : p < j → sum_to j g ≡ a + sum_to j f

one_adds : (p a : ℕ) (f g : ℕ → ℕ) → ((k : ℕ) → g k ≡ cond (eqb p k) a 0 + f k) → (j : ℕ) → Adds p a f g j
unfolding sum_to
one_adds p a f g e zero = record { past = λ h. refl; once = λ h. omega (arith, h) }
one_adds p a f g e (suc j) =
    let before = one_adds p a f g e j in
    record {
      past = λ h. omega (arith, before.past (omega (arith, h)), rw (ne_eqb p j (λ d. omega (arith, d, h))) at (e j));
      once = λ h. go before (dec_le (suc p) j) h;
    }
  where
    go : Adds p a f g j → Dec (p < j) → p < suc j → sum_to j g + g j ≡ a + (sum_to j f + f j)
    go before (yes l) h = omega (arith, before.once l, rw (ne_eqb p j (λ d. omega (arith, d, l))) at (e j))
    go before (no l) h = omega (arith, before.past (omega (arith, l)), rw (eq-eqb p j (omega (arith, l, h))) at (e j))

-- What the nodes below the node at place k count for, by their places alone.
weight_below : (ℕ → ℕ) → List Node → ℕ → ℕ → ℕ
weight_below f [] j k = 0
weight_below f (x ∷ xs) j k = cond (eqb x.parent k) (f j + weight_below f xs (suc j) j) 0 + weight_below f xs (suc j) k

below_total : (f : ℕ → ℕ) (xs : List Node) (j k : ℕ) (path : List ℕ) (n : ℕ)
    → total (λ v. f v.place) (below xs j k path n) ≡ weight_below f xs j k
unfolding total below weight_below
below_total f [] j k path n = refl
below_total f (x ∷ xs) j k path n =
    go (below_total f xs (suc j) j (path ++ n ∷ []) 1)
    (below_total f xs (suc j) k path (suc n))
    (below_total f xs (suc j) k path n)
    (eqb x.parent k)
    refl
  where
    w : Visit → ℕ
    w v = f v.place

    go : total w (below xs (suc j) j (path ++ n ∷ []) 1) ≡ weight_below f xs (suc j) j
        → total w (below xs (suc j) k path (suc n)) ≡ weight_below f xs (suc j) k
        → total w (below xs (suc j) k path n) ≡ weight_below f xs (suc j) k
        → (b : Bool) → eqb x.parent k ≡ b → total w (below (x ∷ xs) j k path n) ≡ weight_below f (x ∷ xs) j k
    go own on same true e =
        rw (e, below, weight_below)
        (omega (arith, own, on, total-append w (below xs (suc j) j (path ++ n ∷ []) 1) (below xs (suc j) k path (suc n))))
    go own on same false e = rw (e, below, weight_below) (omega (arith, same))

-- All nodes from place j on stand below those before it, each below one of them.
below-sum : (f : ℕ → ℕ) (xs : List Node) (j : ℕ) → parents_from j xs ≡ true
    → sum_to j f + sum_to j (weight_below f xs j) ≡ sum_to (j + length xs) f
unfolding parents_from sum_to weight_below
below-sum f [] j h = omega (arith, sum_always 0 j, ap (λ n. sum_to n f) (add-zero j))
below-sum f (x ∷ xs) j h =
    let later = below-sum f xs (suc j) (and_right (ltb x.parent j) _ h) in
    let before = ltb-true _ _ (and_left (ltb x.parent j) _ h) in
    let adds = one_adds x.parent (f j + weight_below f xs (suc j) j) (weight_below f xs (suc j)) (weight_below f (x ∷ xs) j) (λ k. refl) j in
    omega (arith, later, adds.once before, ap (λ n. sum_to n f) (suc-add j (length xs) ∙ sym (add-suc j (length xs))))

walk-total : (f : ℕ → ℕ) (t : Tree) → Rules t → total (λ v. f v.place) (walk t) ≡ sum_to (length t.nodes) f
unfolding walk subtree total sum_to
walk-total f t r =
    let rest : List Node = drop 1 t.nodes in
    let size : 1 + length rest ≡ length t.nodes = omega (arith, length-drop 1 t.nodes, r.device) in
    omega (arith, below_total f rest 1 0 (1 ∷ []) 1, below-sum f rest 1 r.parents, ap (λ n. sum_to n f) size)

-- All properties stand at the nodes before n, each at one of them.
places_sum : (g : ℕ → ℕ) (n : ℕ) (ps : List Property) (j : ℕ) → every (property_sound n) ps ≡ true
    → sum_to j g + sum_to n (λ k. total g (places_from j (λ p. eqb p.node k) ps)) ≡ sum_to (j + length ps) g
unfolding every property_sound places_from sum_to total
places_sum g n [] j h = omega (arith, sum_always 0 n, ap (λ n. sum_to n g) (add-zero j))
places_sum g n (p ∷ ps) j h =
    let later = places_sum g n ps (suc j) (and_right (property_sound n p) _ h) in
    let own = and_left (property_sound n p) (every (property_sound n) ps) h in
    let before = ltb-true _ _ (and_left (ltb p.node n) _ own) in
    let adds = one_adds p.node (g j) rest (λ k. total g (places_from j (λ q. eqb q.node k) (p ∷ ps))) (λ k. split k (eqb p.node k)) n in
    omega (arith, later, adds.once before, ap (λ n. sum_to n g) (suc-add j (length ps) ∙ sym (add-suc j (length ps))))
  where
    rest : ℕ → ℕ
    rest k = total g (places_from (suc j) (λ q. eqb q.node k) ps)

    split : (k : ℕ) (b : Bool)
        → total g (cond b (j ∷ []) [] ++ places_from (suc j) (λ q. eqb q.node k) ps)
        ≡ cond b (g j) 0 + rest k
    split k true = refl
    split k false = omega arith

-- What the items count for, where a node and a property count by their places alone.
properties_total : (w : Item → ℕ) (b : ℕ → ℕ) → ((p : ℕ) (path : List ℕ) (index : ℕ) → w (property p path index) ≡ b p)
    → (path : List ℕ) (index : ℕ) (ps : List ℕ) → total w (property_items path index ps) ≡ total b ps
unfolding total property_items
properties_total w b e path index [] = refl
properties_total w b e path index (p ∷ ps) = ap₂ (λ m n. m + n) (e p path index) (properties_total w b e path (suc index) ps)

pub items-total : (w : Item → ℕ) (a b : ℕ → ℕ) → ((k : ℕ) (path : List ℕ) → w (node k path) ≡ a k)
    → ((p : ℕ) (path : List ℕ) (index : ℕ) → w (property p path index) ≡ b p) → (t : Tree) → Rules t
    → total w (items t) ≡ sum_to (length t.nodes) a + sum_to (length t.properties) b
unfolding items items_at total properties_of sum_to
items-total w a b d e t r =
    let here : ℕ → ℕ = λ k. a k + total b (properties_of t k) in
    let by : (v : Visit) → total w (items_at t v) ≡ here v.place =
    λ v. ap₂ (λ m n. m + n) (d v.place v.path) (properties_total w b e v.path _ (properties_of t v.place)) in
    let nodes =
    total-each w (items_at t) (walk t)
    ∙ total-same (λ v. total w (items_at t v)) (λ v. here v.place) by (walk t)
    ∙ walk-total here t r
    ∙ sum_add a (λ k. total b (properties_of t k)) here (λ k. refl) (length t.nodes) in
    omega (arith, nodes, places_sum b (length t.nodes) t.properties 0 r.owned, ap (λ n. sum_to n b) (zero-add (length t.properties)))

sum_one : (x n : ℕ) → Adds x 1 (λ k. 0) (one x) n
sum_one x n = one_adds x 1 (λ k. 0) (one x) (λ k. omega arith) n

-- Every node and every property of the tree, exactly once, and nothing else.
module _ (t : Tree) (h : sound t ≡ true) where
  node_times_lem : (k : ℕ) → node_times k (items t) ≡ sum_to (length t.nodes) (one k)
  node_times_lem k =
      omega (
        arith,
        items-total (node_is k) (one k) (λ p. 0) (λ j path. refl) (λ p path index. refl) t (rules t h),
        sum_always 0 (length t.properties),
      )

  property_times_lem : (p : ℕ) → property_times p (items t) ≡ sum_to (length t.properties) (one p)
  property_times_lem p =
      omega (
        arith,
        items-total (property_is p) (λ k. 0) (one p) (λ k path. refl) (λ q path index. refl) t (rules t h),
        sum_always 0 (length t.nodes),
      )

  pub nodes_once : (k : ℕ) → k < length t.nodes → node_times k (items t) ≡ 1
  nodes_once k l = omega (arith, node_times_lem k, (sum_one k (length t.nodes)).once l, sum_always 0 (length t.nodes))

  pub nodes_none : (k : ℕ) → length t.nodes ≤ k → node_times k (items t) ≡ 0
  nodes_none k l = omega (arith, node_times_lem k, (sum_one k (length t.nodes)).past l, sum_always 0 (length t.nodes))

  pub properties_once : (p : ℕ) → p < length t.properties → property_times p (items t) ≡ 1
  properties_once p l =
      omega (arith, property_times_lem p, (sum_one p (length t.properties)).once l, sum_always 0 (length t.properties))

  pub properties_none : (p : ℕ) → length t.properties ≤ p → property_times p (items t) ≡ 0
  properties_none p l =
      omega (arith, property_times_lem p, (sum_one p (length t.properties)).past l, sum_always 0 (length t.properties))

-- All children of a node stand behind it.
later_only : (d : ℕ) (ns : List Node) (i k : ℕ) → parents_from i ns ≡ true → i + d ≤ suc k
    → places_from i (λ n. eqb n.parent k) ns ≡ places_from (i + d) (λ n. eqb n.parent k) (drop d ns)
unfolding places_from parents_from
later_only zero ns i k s h = ap (λ m. places_from m (λ n. eqb n.parent k) ns) (sym (add-zero i))
later_only (suc d) [] i k s h = refl
later_only (suc d) (n ∷ ns) i k s h =
    let before : n.parent < i = ltb-true _ _ (and_left (ltb n.parent i) _ s) in
    rw (ne_eqb n.parent k (λ e. omega (arith, e, h)))
    (later_only d ns (suc i) k (and_right (ltb n.parent i) _ s) (omega (arith, h))
    ∙ ap (λ m. places_from m (λ x. eqb x.parent k) (drop d ns)) (suc-add i d ∙ sym (add-suc i d)))

pub children_behind : (t : Tree) → Rules t → (k : ℕ)
    → children_of t k ≡ places_from (suc k) (λ n. eqb n.parent k) (drop (suc k) t.nodes)
unfolding children_of
children_behind t r k =
    later_only k (drop 1 t.nodes) 1 k r.parents (omega arith)
    ∙ ap₂ (λ m l. places_from m (λ n. eqb n.parent k) l)
    (one-add k)
    (drop-drop k 1 t.nodes ∙ ap (λ m. drop m t.nodes) (one-add k))

-- The nodes below a node are its children's subtrees, in the order of their numbers.
drop-next : {A : Type 0} (x : A) (xs ns : List A) (j : ℕ) → x ∷ xs ≡ drop j ns → xs ≡ drop (suc j) ns
drop-next x xs ns j e = ap (drop 1) e ∙ drop-drop 1 j ns ∙ ap (λ m. drop m ns) (add-one j)

below_each : (t : Tree) (xs : List Node) (j k : ℕ) (path : List ℕ) (n : ℕ) → xs ≡ drop j t.nodes
    → below xs j k path n ≡ each_from (λ c m. subtree t c (path ++ m ∷ [])) n (places_from j (λ x. eqb x.parent k) xs)
unfolding below places_from each_from subtree
below_each t [] j k path n e = refl
below_each t (x ∷ xs) j k path n e =
    let next = drop-next x xs t.nodes j e in
    go next (below_each t xs (suc j) k path (suc n) next) (below_each t xs (suc j) k path n next) (eqb x.parent k) refl
  where
    Gives : List Node → ℕ → ℕ → Type 0
    Gives ns i m = below ns i k path m ≡ each_from (λ c l. subtree t c (path ++ l ∷ [])) m (places_from i (λ y. eqb y.parent k) ns)

    go : xs ≡ drop (suc j) t.nodes → Gives xs (suc j) (suc n) → Gives xs (suc j) n → (b : Bool) → eqb x.parent k ≡ b
        → Gives (x ∷ xs) j n
    go next on same true h =
        rw (h, below)
        (ap₂ (λ l m. record { place = j; path = path ++ n ∷ [] } ∷ (below l (suc j) j (path ++ n ∷ []) 1 ++ m)) next on)
    go next on same false h = rw (h, below) same

pub subtree_is : (t : Tree) → sound t ≡ true → (k : ℕ) (path : List ℕ)
    → subtree t k path
    ≡ record { place = k; path = path } ∷ each_from (λ child number. subtree t child (path ++ number ∷ [])) 1 (children_of t k)
unfolding subtree
subtree_is t h k path =
    ap (λ l. record { place = k; path = path } ∷ l)
    (below_each t (drop (suc k) t.nodes) (suc k) k path 1 refl
    ∙ ap (each_from (λ c m. subtree t c (path ++ m ∷ [])) 1) (sym (children_behind t (rules t h) k)))

-- The first of what is left of a list.
drop_first : (cs : List ℕ) (m j : ℕ) (rest : List ℕ) → j ∷ rest ≡ drop m cs → get_elem? cs m ≡ some j
drop_first [] zero j rest e = cc
drop_first [] (suc m) j rest e = cc
drop_first (c ∷ cs) zero j rest e = ap some (sym (head-eq_of_cons-eq e))
drop_first (c ∷ cs) (suc m) j rest e = drop_first cs m j rest e

-- Every path of the walk leads to the place that the walk comes to there.
module _ (t : Tree) (r : Rules t) where
  abbrev Found : Visit → Type 0
  Found v = node_at t v.path ≡ some v.place

  below-found : (xs : List Node) (j k : ℕ) (path : List ℕ) (m : ℕ) → xs ≡ drop j t.nodes
      → places_from j (λ x. eqb x.parent k) xs ≡ drop m (children_of t k) → node_at t path ≡ some k
      → All Found (below xs j k path (suc m))
  unfolding below places_from numbered
  below-found [] j k path m e c h = tt
  below-found (x ∷ xs) j k path m e c h =
      let next = drop-next x xs t.nodes j e in
      let own = sym (children_behind t r j ∙ ap (places_from (suc j) (λ y. eqb y.parent j)) (sym next)) in
      go c (below-found xs (suc j) j (path ++ suc m ∷ []) 0 next own)
      (λ l. below-found xs (suc j) k path (suc m) next l h)
      (λ l. below-found xs (suc j) k path m next l h)
      (eqb x.parent k)
      refl
    where
      Rest : List ℕ
      Rest = places_from (suc j) (λ y. eqb y.parent k) xs

      go : cond (eqb x.parent k) (j ∷ []) [] ++ Rest ≡ drop m (children_of t k)
          → (node_at t (path ++ suc m ∷ []) ≡ some j → All Found (below xs (suc j) j (path ++ suc m ∷ []) 1))
          → (Rest ≡ drop (suc m) (children_of t k) → All Found (below xs (suc j) k path (suc (suc m))))
          → (Rest ≡ drop m (children_of t k) → All Found (below xs (suc j) k path (suc m)))
          → (b : Bool) → eqb x.parent k ≡ b → All Found (below (x ∷ xs) j k path (suc m))
      go c own on same true b =
          let first : j ∷ Rest ≡ drop m (children_of t k) = rw b at c in
          let child : node_at t (path ++ suc m ∷ []) ≡ some j =
          node_on t path k (suc m) h ∙ drop_first (children_of t k) m j Rest first in
          rw (b, below) (
            child,
            all_append Found (below xs (suc j) j (path ++ suc m ∷ []) 1) (below xs (suc j) k path (suc (suc m))) (own child)
                (on (drop-next j Rest (children_of t k) m first)),
          )
      go c own on same false b = rw (b, below) (same (rw b at c))

pub paths_found : (t : Tree) → sound t ≡ true → All (λ v. node_at t v.path ≡ some v.place) (walk t)
unfolding walk subtree node_at descend
paths_found t h =
    let r = rules t h in
    (refl, below-found t r (drop 1 t.nodes) 1 0 (1 ∷ []) 0 refl (sym (children_behind t r 0)) refl)

-- A node's properties from index m + 1 on: its path and the index of each lead to it.
properties_found : (ps : List ℕ) (t : Tree) (path : List ℕ) (k m : ℕ) → node_at t path ≡ some k → ps ≡ drop m (properties_of t k)
    → All (FindsItem t) (property_items path (suc m) ps)
unfolding property_items property_found numbered
properties_found [] t path k m h e = tt
properties_found (p ∷ ps) t path k m h e = (
  rw (h, property_found) (drop_first (properties_of t k) m p ps e),
  properties_found ps t path k (suc m) h (drop-next p ps (properties_of t k) m e),
)

items_at_found : (t : Tree) (v : Visit) → node_at t v.path ≡ some v.place → All (FindsItem t) (items_at t v)
unfolding items_at
items_at_found t v h = (h, properties_found (properties_of t v.place) t v.path v.place 0 h refl)

pub items-found : (t : Tree) → sound t ≡ true → All (FindsItem t) (items t)
unfolding items
items-found t h =
    all_each (FindsItem t) (λ v. node_at t v.path ≡ some v.place) (items_at t) (items_at_found t) (walk t) (paths_found t h)
