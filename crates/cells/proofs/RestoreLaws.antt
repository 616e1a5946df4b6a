-- Saved cells lent again, property by property.
-- Assumes nothing.
use Prim.Native.Nat.{ℕ, zero, suc, ◌+◌, ◌<◌, ◌≤◌}
use native.Mathlib.Omega.{arith}
use native.Mathlib.Nat.{not-suc-le-zero}
use mathlib.Core.Path.{◌≡◌, refl, sym, ap, ◌∙◌}
use mathlib.Core.Bool.{true, false, cond}
use mathlib.Core.List.{List, [], ◌∷◌}
use lib.ListN.{length, take, set}
use lib.Seq.{take_all}
use Rattle.protocol.specs.Numbers.{done}
use Rattle.protocol.specs.Tree.{Property, Cell, is_live, property_in, cell_in, unready, restored_cell, restored}
use Rattle.protocol.proofs.RuleLaws.{property_at}
use Rattle.protocol.specs.declared.Refusal.{Refusal}
use Rattle.protocol.specs.Refusal.{refusal_number}
use Rattle.protocol.proofs.RefusalLaws.{refusal_some}
use Rattle.tree.specs.Seen.{seen}
use Rattle.cells.specs.Cells.{cells_form, cells_in, with_mark}
use Rattle.cells.specs.Lent.{is_lent, lent_number, restore_in, Updates}
use Rattle.cells.proofs.CellLaws.{lent_form, lent_refused, refused_unsound, mark-stored}

-- One property more.
step_live : (ps : List Property) (cs : List Cell) (k : ℕ) → k < length ps → is_live (property_at ps k) ≡ true
    → restored (take (suc k) ps) cs ≡ set (restored (take k ps) cs) k (unready (cell_in (restored (take k ps) cs) k))
unfolding restored
step_live [] cs k h live = absurd (not-suc-le-zero h)
step_live (p ∷ ps) [] zero h live = refl
step_live (p ∷ ps) [] (suc k) h live = refl
step_live (p ∷ ps) (c ∷ cs) zero h live = ap (λ t. cond t (unready c) c ∷ cs) live
step_live (p ∷ ps) (c ∷ cs) (suc k) h live = ap (λ l. restored_cell p c ∷ l) (step_live ps cs k (omega (arith, h)) live)

step_other : (ps : List Property) (cs : List Cell) (k : ℕ) → k < length ps → is_live (property_at ps k) ≡ false
    → restored (take (suc k) ps) cs ≡ restored (take k ps) cs
unfolding restored
step_other [] cs k h dead = absurd (not-suc-le-zero h)
step_other (p ∷ ps) [] zero h dead = refl
step_other (p ∷ ps) [] (suc k) h dead = refl
step_other (p ∷ ps) (c ∷ cs) zero h dead = ap (λ t. cond t (unready c) c ∷ cs) dead
step_other (p ∷ ps) (c ∷ cs) (suc k) h dead = ap (λ l. restored_cell p c ∷ l) (step_other ps cs k (omega (arith, h)) dead)

-- The first properties done.
pub record Restoring (tree old cells : List ℕ) (k : ℕ) : Type 0 where
  pub within : k ≤ length (seen tree).properties
  pub bytes : cells ≡ cells_form (restored (take k (seen tree).properties) (cells_in old))

module _ (tree old : List ℕ) where
  pub restore_begins : is_lent tree old ≡ true → Restoring tree old old 0
  unfolding restored
  restore_begins lent = record { within = omega arith; bytes = lent_form tree old lent }

  -- The first k and one more.
  counted : (k : ℕ)
      → cells_form (restored (take (suc k) (seen tree).properties) (cells_in old))
      ≡ cells_form (restored (take (k + 1) (seen tree).properties) (cells_in old))
  counted k =
      let one : suc k ≡ k + 1 = omega arith in
      ap (λ n. cells_form (restored (take n (seen tree).properties) (cells_in old))) one

  module _ {cells new : List ℕ} {k : ℕ} (r : Restoring tree old cells k) (h : k < length (seen tree).properties) where
    pub restore_live : is_live (property_in (seen tree) k) ≡ true → new ≡ with_mark k false cells → Restoring tree old new (k + 1)
    restore_live live e =
        record {
          within = omega (arith, h);
          bytes =
              e
              ∙ ap (with_mark k false) r.bytes
              ∙ mark-stored (restored (take k (seen tree).properties) (cells_in old)) k false
              ∙ ap cells_form (sym (step_live (seen tree).properties (cells_in old) k h live))
              ∙ counted k;
        }

    pub restore_other : is_live (property_in (seen tree) k) ≡ false → new ≡ cells → Restoring tree old new (k + 1)
    restore_other dead e =
        record {
          within = omega (arith, h);
          bytes =
              e
              ∙ r.bytes
              ∙ ap cells_form (sym (step_other (seen tree).properties (cells_in old) k h dead))
              ∙ counted k;
        }

  pub restore_ends : {cells : List ℕ} {k : ℕ} → is_lent tree old ≡ true → Restoring tree old cells k → length (seen tree).properties ≤ k
      → Updates (restore_in tree old) done cells
  unfolding restore_in
  restore_ends {k = k} lent r h =
      rw lent
      (record {
        number = refl;
        bytes = r.bytes ∙ ap (λ l. cells_form (restored l (cells_in old))) (take_all k (seen tree).properties h);
      })

  pub restore_refused : (e : Refusal) → refusal_number e ≡ lent_number tree old → Updates (restore_in tree old) (refusal_number e) old
  unfolding restore_in
  restore_refused e h =
      rw (lent_refused tree old h (refusal_some e)) (record { number = refused_unsound tree old h (refusal_some e); bytes = refl })
