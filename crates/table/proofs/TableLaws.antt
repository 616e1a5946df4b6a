-- The table of requests: its operations, and what a path is.
-- Assumes nothing.
use Prim.Native.Nat.{ℕ, suc, ◌<◌, ◌≤◌}
use native.Mathlib.Omega.{arith}
use mathlib.Core.Path.{◌≡◌, refl, sym, ap₂, ◌∙◌}
use mathlib.Core.Bool.{Bool, true, false, true≢false, not, ◌&&◌, cond}
use mathlib.Core.List.{List, [], ◌∷◌}
use borrow.Author.Tests.{eqb-true, eqb-false, ltb-true, ltb-false, lt-ltb, le-leb, lt-leb}
use lib.ListN.{length}
use lib.Dec.{eqb, ltb, leb}
use Rattle.std.specs.List.{list_all}
use Rattle.std.proofs.Common.{Less, Equal, Greater, nat_cmp, is_le}
use Rattle.protocol.specs.declared.Op.{Op}
use Rattle.protocol.specs.declared.Op.TheVariants.{Detect, Node, Record, Read, Write, WriteExtended}
use Rattle.protocol.specs.Numbers.{op_write_extended, max_depth, byte_end}
use Rattle.protocol.specs.Refusal.{op_number}
use Rattle.protocol.specs.Bytes.{Bytes, every}
use Rattle.protocol.specs.Request.{nonzero, is_path}

-- The table has every operation.
pub known_op : (op : Op) → op_number op ≤ op_write_extended
known_op Detect = omega arith
known_op Node = omega arith
known_op Record = omega arith
known_op Read = omega arith
known_op Write = omega arith
known_op WriteExtended = omega arith

-- Bytes are nonzero, all of them.
nonzero_by : (b : ℕ) → b < byte_end → nonzero b ≡ not (eqb b 0)
nonzero_by b h = rw (lt-ltb b byte_end h) (go (ltb 0 b) refl (eqb b 0) refl)
  where
    go : (t : Bool) → ltb 0 b ≡ t → (u : Bool) → eqb b 0 ≡ u → (t && true) ≡ not u
    go true e true f = absurd (omega (arith, ltb-true 0 b e, eqb-true b 0 f))
    go true e false f = refl
    go false e true f = refl
    go false e false f = absurd (eqb-false b 0 f (omega (arith, ltb-false 0 b e)))

pub nonzeros : (bs : List ℕ) → Bytes bs → list_all (λ b. not (eqb b 0)) bs ≡ every nonzero bs
unfolding every
nonzeros [] all = refl
nonzeros (b ∷ bs) all = ap₂ (λ t u. t && u) (sym (nonzero_by b (all 0))) (nonzeros bs (λ i. all (suc i)))

-- What a range's test of a number comes to.
order_test : (x y : ℕ) → is_le (nat_cmp x y) ≡ leb x y
order_test x y = go (ltb x y) refl (eqb x y) refl
  where
    go : (t : Bool) → ltb x y ≡ t → (u : Bool) → eqb x y ≡ u → is_le (cond t Less (cond u Equal Greater)) ≡ leb x y
    go true e u f = sym (le-leb x y (omega (arith, ltb-true x y e)))
    go false e true f = sym (le-leb x y (omega (arith, eqb-true x y f)))
    go false e false f =
        sym (lt-leb x y (omega (arith, ltb-false x y e, eqb-false x y f)))

-- A path, by the test of its length and that of its bytes.
module _ (bs : List ℕ) where
  pub path_sized : {t : Bool} → t ≡ list_all (λ b. not (eqb b 0)) bs → is_le (nat_cmp 1 (length bs)) ≡ true → is_le (nat_cmp (length bs) max_depth) ≡ true → Bytes bs
      → t ≡ is_path bs
  unfolding is_path
  path_sized e h k all =
      e ∙ nonzeros bs all ∙ sym (rw (sym (order_test 1 (length bs)) ∙ h, sym (order_test (length bs) max_depth) ∙ k))

  pub path_other : (is_le (nat_cmp 1 (length bs)) && is_le (nat_cmp (length bs) max_depth)) ≡ false → false ≡ is_path bs
  unfolding is_path
  path_other h = go (leb 1 (length bs)) refl (leb (length bs) max_depth) refl
    where
      go : (t : Bool) → leb 1 (length bs) ≡ t → (u : Bool) → leb (length bs) max_depth ≡ u → false ≡ (t && (u && every nonzero bs))
      go true e true f =
          absurd (true≢false (sym (ap₂ (λ a b. a && b) (order_test 1 (length bs) ∙ e) (order_test (length bs) max_depth ∙ f)) ∙ h))
      go true e false f = refl
      go false e u f = refl
