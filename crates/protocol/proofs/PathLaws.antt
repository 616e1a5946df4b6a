-- 02, section 7: the node of a path with one number more, and the first part of a path that no node has.
-- Assumes nothing.
use Prim.Native.Nat.{ℕ, zero, suc, ◌+◌, ◌<◌, ◌≤◌}
use native.Mathlib.Omega.{arith}
use mathlib.Core.Path.{◌≡◌, refl, sym, ap, subst, ◌∙◌}
use mathlib.Core.Bool.{Bool, true, false, cond}
use mathlib.Core.List.{List, [], ◌∷◌, ◌++◌, map}
use mathlib.Core.Option.{Option, none, some, none-ne-some, some-injective}
use borrow.Author.Tests.{leb-true, leb-false, ne_eqb}
use lib.ListN.{length, take, drop, take-append-drop}
use lib.Seq.{length-take-le, take-take, take_all}
use lib.Dec.{eqb, leb}
use Rattle.protocol.specs.Numbers.{disabled, unknown_command, bad_parameter, no_reading, no_such_node, no_such_property, ERROR, DISABLED, NAK, ILLEGAL}
use Rattle.protocol.specs.Tree.{Tree, places_from, numbered, children_of, child_of, descend, node_at}
use Rattle.protocol.specs.Path.{missing_from, missing_length, HasNode, FirstMissing, number01}
use Rattle.protocol.specs.Answer.{refusal_code}
use Rattle.protocol.specs.Bench.{bench_tree}

module _ (t : Tree) where
  -- A path with one number more leads to that child, or nowhere.
  descend-one : (place n : ℕ) → descend t place (n ∷ []) ≡ child_of t place (record { 0 = n })
  unfolding descend
  descend-one place n = go (child_of t place (record { 0 = n })) refl
    where
      go : (o : Option ℕ) → child_of t place (record { 0 = n }) ≡ o → descend t place (n ∷ []) ≡ o
      go none e = rw (e, descend)
      go (some child) e = rw (e, descend)

  descend-on : (ns : List ℕ) (place k n : ℕ) → descend t place ns ≡ some k
      → descend t place (ns ++ n ∷ []) ≡ child_of t k (record { 0 = n })
  unfolding descend
  descend-on [] place k n h = descend-one place n ∙ ap (λ p. child_of t p (record { 0 = n })) (some-injective _ _ h)
  descend-on (m ∷ ns) place k n h = go (child_of t place (record { 0 = m })) refl h (λ b. descend-on ns b k n)
    where
      go : (o : Option ℕ) → child_of t place (record { 0 = m }) ≡ o → descend t place (m ∷ ns) ≡ some k
          → ((b : ℕ) → descend t b ns ≡ some k → descend t b (ns ++ n ∷ []) ≡ child_of t k (record { 0 = n }))
          → descend t place (m ∷ ns ++ n ∷ []) ≡ child_of t k (record { 0 = n })
      go none d h on = absurd (none-ne-some _ (rw (d, descend) at h))
      go (some b) d h on = rw (d, descend) (on b (rw (d, descend) at h))

  pub node_on : (path : List ℕ) (k n : ℕ) → node_at t path ≡ some k → node_at t (path ++ n ∷ []) ≡ child_of t k (record { 0 = n })
  unfolding node_at
  node_on [] k n h = absurd (none-ne-some _ h)
  node_on (m ∷ ns) k n h = go (eqb m 1) h
    where
      go : (b : Bool) → cond b (descend t 0 ns) none ≡ some k
          → cond b (descend t 0 (ns ++ n ∷ [])) none ≡ child_of t k (record { 0 = n })
      go true h = descend-on ns 0 k n h
      go false h = absurd (none-ne-some _ h)

  -- No node lies behind a front part that no node has.
  descend_lost : (ns more : List ℕ) (place : ℕ) → descend t place ns ≡ none → descend t place (ns ++ more) ≡ none
  unfolding descend
  descend_lost [] more place h = absurd (none-ne-some _ (sym h))
  descend_lost (m ∷ ns) more place h = go (child_of t place (record { 0 = m })) refl h (descend_lost ns more)
    where
      go : (o : Option ℕ) → child_of t place (record { 0 = m }) ≡ o → descend t place (m ∷ ns) ≡ none
          → ((b : ℕ) → descend t b ns ≡ none → descend t b (ns ++ more) ≡ none) → descend t place (m ∷ ns ++ more) ≡ none
      go none d h on = rw (d, descend)
      go (some b) d h on = rw (d, descend) (on b (rw (d, descend) at h))

  node_lost : (front more : List ℕ) → 1 ≤ length front → node_at t front ≡ none → node_at t (front ++ more) ≡ none
  unfolding node_at
  node_lost [] more l h = absurd (omega (arith, l))
  node_lost (m ∷ ns) more l h = go (eqb m 1) h
    where
      go : (b : Bool) → cond b (descend t 0 ns) none ≡ none → cond b (descend t 0 (ns ++ more)) none ≡ none
      go true h = descend_lost ns more 0 h
      go false h = refl

  pub part_lost : (path : List ℕ) (len : ℕ) → 1 ≤ length (take len path) → node_at t (take len path) ≡ none → node_at t path ≡ none
  part_lost path len l h = ap (node_at t) (sym (take-append-drop len path)) ∙ node_lost (take len path) (drop len path) l h

-- The front parts of a path.
module _ (t : Tree) (path : List ℕ) where
  pub missing_here : (len left : ℕ) → node_at t (take (suc len) path) ≡ none → missing_from t path len (suc left) ≡ suc len
  unfolding missing_from
  missing_here len left e = rw (e, missing_from)

  pub missing_behind : (len left : ℕ) {place : ℕ} → node_at t (take (suc len) path) ≡ some place
      → missing_from t path len (suc left) ≡ missing_from t path (suc len) left
  unfolding missing_from
  missing_behind len left e = rw (e, missing_from)

  missing_most : (len left : ℕ) → missing_from t path len left ≤ len + left
  unfolding missing_from
  missing_most len zero = omega arith
  missing_most len (suc left) = go (node_at t (take (suc len) path)) refl (missing_most (suc len) left)
    where
      go : (o : Option ℕ) → node_at t (take (suc len) path) ≡ o → missing_from t path (suc len) left ≤ suc len + left
          → missing_from t path len (suc left) ≤ len + suc left
      go none e on = omega (arith, missing_here len left e)
      go (some place) e on = omega (arith, missing_behind len left e, on)

  pub missing_within : missing_length t path ≤ length path
  missing_within = omega (arith, missing_most 0 (length path))

  -- Up to a length the front parts have nodes; the path has none.
  module _ (lost : node_at t path ≡ none) (Some-number : 1 ≤ length path) where
    longer : (len : ℕ) → len < length path → node_at t (take (suc len) path) ≡ none → (k : ℕ) → suc len ≤ k → node_at t (take k path) ≡ none
    longer len l e k p =
        let same : take (suc len) (take k path) ≡ take (suc len) path = take-take (suc len) k path p in
        part_lost t (take k path) (suc len) (omega (arith, ap length same, length-take-le (suc len) path l)) (ap (node_at t) same ∙ e)

    first_here : (len : ℕ) → len < length path → ((k : ℕ) → 1 ≤ k → k ≤ len → HasNode t (take k path))
        → node_at t (take (suc len) path) ≡ none → FirstMissing t path (suc len)
    first_here len l has e =
        record {
          least = omega arith;
          most = omega arith;
          shorter = λ k p q. has k p (omega (arith, q));
          none_has = e;
          longer = longer len l e;
        }

    first_from : (len left : ℕ) → len + left ≡ length path → ((k : ℕ) → 1 ≤ k → k ≤ len → HasNode t (take k path))
        → FirstMissing t path (missing_from t path len left)
    first_from len zero e has =
        let whole = has len (omega (arith, e, Some-number)) (omega arith) in
        absurd (none-ne-some _ (sym lost ∙ ap (node_at t) (sym (take_all len path (omega (arith, e)))) ∙ whole.at))
    first_from len (suc left) e has =
        go (node_at t (take (suc len) path)) refl (first_from (suc len) left (omega (arith, e)))
      where
        up_to : (k place : ℕ) → node_at t (take (suc len) path) ≡ some place → 1 ≤ k → k ≤ suc len → (b : Bool) → leb k len ≡ b
            → HasNode t (take k path)
        up_to k place is p q true c = has k p (leb-true k len c)
        up_to k place is p q false c =
            let last : k ≡ suc len = omega (arith, q, leb-false k len c) in
            record { place = place; at = ap (λ n. node_at t (take n path)) last ∙ is }

        go : (o : Option ℕ) → node_at t (take (suc len) path) ≡ o
            → (((k : ℕ) → 1 ≤ k → k ≤ suc len → HasNode t (take k path)) → FirstMissing t path (missing_from t path (suc len) left))
            → FirstMissing t path (missing_from t path len (suc left))
        go none is on = subst (FirstMissing t path) (sym (missing_here len left is)) (first_here len (omega (arith, e)) has is)
        go (some place) is on =
            subst (FirstMissing t path) (sym (missing_behind len left is)) (on (λ k p q. up_to k place is p q (leb k len) refl))

    pub first_missing : FirstMissing t path (missing_length t path)
    first_missing = first_from 0 (length path) (omega arith) (λ k p q. absurd (omega (arith, p, q)))

-- The numbers below 15 are those of document 01.
pub number_kept : (n : ℕ) → n < no_such_node → number01 n ≡ n
unfolding number01
number_kept n h = rw (ne_eqb n no_such_node (λ e. omega (arith, e)), ne_eqb n no_such_property (λ e. omega (arith, e)))

-- The reply codes of rows 9 to 12, and those of 15 and 16.
pub codes : map refusal_code (disabled ∷ unknown_command ∷ bad_parameter ∷ no_reading ∷ no_such_node ∷ no_such_property ∷ [])
    ≡ DISABLED ∷ ILLEGAL ∷ ERROR ∷ NAK ∷ ERROR ∷ ERROR ∷ []
unfolding refusal_code
codes = refl

-- Paths of the bench tree, which has the nodes 1, 1.1 and 1.2.
pub bench_parts : map (missing_length bench_tree)
    ((2 ∷ []) ∷ (1 ∷ 3 ∷ []) ∷ (1 ∷ 3 ∷ 5 ∷ 7 ∷ []) ∷ (1 ∷ 1 ∷ 1 ∷ 1 ∷ []) ∷ (1 ∷ 2 ∷ []) ∷ [])
    ≡ 1 ∷ 2 ∷ 2 ∷ 3 ∷ 0 ∷ []
unfolding places_from numbered children_of descend node_at missing_from bench_tree
bench_parts = refl
