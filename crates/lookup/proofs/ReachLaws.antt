-- The node of a path, child after child, and the part of a path that no node has.
-- Assumes nothing.
use Prim.Native.Nat.{ℕ, suc, ◌+◌, ◌-◌, ◌<◌, ◌≤◌}
use native.Mathlib.Omega.{arith}
use native.Mathlib.Numerals.{add-one}
use mathlib.Core.Path.{◌≡◌, refl, sym, ap, ◌∙◌}
use mathlib.Core.Bool.{cond}
use mathlib.Core.List.{List, [], ◌∷◌}
use mathlib.Core.Option.{Option, none, some}
use borrow.Author.Tests.{eq-eqb, ne_eqb}
use lib.ListN.{length, get_or, take}
use lib.Seq.{length-take-le, take-suc, take_all}
use lib.Dec.{eqb}
use Rattle.protocol.specs.Tree.{Tree, child_of, descend, node_at}
use Rattle.protocol.specs.Path.{missing_from, missing_length}
use Rattle.protocol.proofs.PathLaws.{node_on, part_lost, missing_here, missing_behind}
use Rattle.std.proofs.Common.{Result, Ok, Err}
use Rattle.lookup.specs.declared.Missing.{Missing}
use Rattle.lookup.specs.Reach.{reached_of}

-- What a path leads to.
abbrev reach : Tree → List ℕ → Result ℕ Missing
reach t path = reached_of (node_at t path) (missing_length t path)

abbrev missing : ℕ → Result ℕ Missing
missing len = Err (record { 0 = len })

missing_is : (t : Tree) (path : List ℕ) {len : ℕ} → node_at t path ≡ none → missing_length t path ≡ len → missing len ≡ reach t path
missing_is t path e f = ap missing (sym f) ∙ ap (λ o. reached_of o (missing_length t path)) (sym e)

-- What was reached: a node, or a part that no node has.
pub reached_at : (o : Option ℕ) (len : ℕ) {place : ℕ} → Ok place ≡ reached_of o len → o ≡ some place
reached_at none len h = cc
reached_at (some n) len h = cc

pub reached_none : (o : Option ℕ) (len : ℕ) {part : Missing} → Err part ≡ reached_of o len → (o ≡ none) × (len ≡ part.0)
reached_none none len h = (refl, cc)
reached_none (some n) len h = (cc, cc)

pub walk_empty : (t : Tree) (path : List ℕ) → length path < 1 → missing 0 ≡ reach t path
unfolding node_at missing_from
walk_empty t [] h = refl
walk_empty t (n ∷ ns) h = absurd (omega (arith, h))

-- A path that does not begin with 1.
pub walk_other : (t : Tree) (path : List ℕ) → 1 ≤ length path → (get_or path 0 0 ≡ 1 → ⊥) → missing 1 ≡ reach t path
unfolding node_at
walk_other t [] l h = absurd (omega (arith, l))
walk_other t (n ∷ ns) l h =
    let nowhere : (o : Option ℕ) → cond (eqb n 1) o none ≡ none = λ o. ap (λ b. cond b o none) (ne_eqb n 1 h) in
    missing_is t (n ∷ ns) (nowhere (descend t 0 ns)) (missing_here t (n ∷ ns) 0 (length ns) (nowhere (descend t 0 [])))

-- A path is walked: its numbers so far lead to a node, and the part that no node has is looked for behind them.
pub record Walking (t : Tree) (path : List ℕ) (place i : ℕ) : Type 0 where
  pub reached : node_at t (take i path) ≡ some place
  pub parts : missing_length t path ≡ missing_from t path i (length path - i)

pub walk_begins : (t : Tree) (path : List ℕ) → get_or path 0 0 ≡ 1 → Walking t path 0 1
unfolding node_at descend
walk_begins t [] h = absurd (omega (arith, h))
walk_begins t (n ∷ ns) h =
    let device : node_at t (n ∷ []) ≡ some 0 = ap (λ b. cond b (some 0) none) (eq-eqb n 1 h) in
    let rest : length ns ≡ length (n ∷ ns) - 1 = omega arith in
    record { reached = device; parts = missing_behind t (n ∷ ns) 0 (length ns) device ∙ ap (missing_from t (n ∷ ns) 1) rest }

module _ (t : Tree) (path : List ℕ) {place i : ℕ} (w : Walking t path place i) where
  module _ (h : i < length path) where
    abbrev next_child : Option ℕ
    next_child = child_of t place (record { 0 = get_or path i 0 })

    -- The front part with one number more.
    longer : node_at t (take (suc i) path) ≡ next_child
    longer = ap (node_at t) (take-suc path i 0 h) ∙ node_on t (take i path) place (get_or path i 0) w.reached

    parts_left : missing_length t path ≡ missing_from t path i (suc (length path - suc i))
    parts_left = let one_more : length path - i ≡ suc (length path - suc i) = omega arith in w.parts ∙ ap (missing_from t path i) one_more

    pub walk_lost : next_child ≡ none → missing (i + 1) ≡ reach t path
    walk_lost e =
        missing_is t path
        (part_lost t path (suc i) (omega (arith, length-take-le (suc i) path h)) (longer ∙ e))
        (parts_left ∙ missing_here t path i (length path - suc i) (longer ∙ e) ∙ sym (add-one i))

    pub walk_more : {next : ℕ} → next_child ≡ some next → Walking t path next (i + 1)
    walk_more e =
        record {
          reached = ap (λ n. node_at t (take n path)) (add-one i) ∙ longer ∙ e;
          parts =
              parts_left
              ∙ missing_behind t path i (length path - suc i) (longer ∙ e)
              ∙ ap (λ n. missing_from t path n (length path - n)) (sym (add-one i));
        }

  pub walk_ends : length path ≤ i → Ok place ≡ reach t path
  walk_ends h =
      ap (λ o. reached_of o (missing_length t path)) (sym w.reached ∙ ap (node_at t) (take_all i path h))
