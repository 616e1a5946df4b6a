-- Parts put one behind the other are a reply's body.
-- Assumes nothing.
use Prim.Native.Nat.{ℕ}
use mathlib.Core.Path.{◌≡◌}
use mathlib.Core.List.{List, [], ◌∷◌}
use borrow.Author.Tests.{ne_eqb}
use lib.ListN.{length}
use Rattle.protocol.specs.Numbers.{op_write}
use Rattle.protocol.specs.Bytes.{half, word, text}
use Rattle.protocol.specs.Buffer.{fitting, Put}
use Rattle.protocol.specs.Tree.{Property, Tree, children_of, properties_of, node_in}
use Rattle.protocol.specs.Answer.{Outcome, save_byte, reason, record_texts, node_body, record_body, write_body}
use Rattle.protocol.proofs.BufferLaws.{fit_as, fits_join}
use Rattle.tree.specs.declared.record.Fields.{Fields}
use Rattle.tree.specs.Lookup.{FieldsAre, numbers_of}
use Rattle.reply.specs.Steps.{numbers_in}

module _ {at n n' : ℕ} {old mid new : List ℕ} where
  pub put_node_body : (t : Tree) (place : ℕ) {a b : ℕ} → a ≡ length (children_of t place) → b ≡ length (properties_of t place)
      → Put at (fitting at (a ∷ b ∷ []) old) old n mid → Put n (fitting n (text (node_in t place).name) mid) mid n' new
      → Put at (fitting at (node_body t place) old) old n' new
  put_node_body t place {a} {b} e f p q =
      fit_as (simp (e, f)) (fits_join (a ∷ b ∷ []) (text (node_in t place).name) p q)

  pub put_record_body : (p : Property) {f : Fields} {ns : List ℕ} → FieldsAre p f → ns ≡ numbers_in (numbers_of f)
      → Put at (fitting at ns old) old n mid → Put n (fitting n (record_texts p) mid) mid n' new
      → Put at (fitting at (record_body p) old) old n' new
  unfolding numbers_in word half
  put_record_body p {ns = ns} w e q s =
      fit_as (simp (e, w.kind, w.min, w.max, w.attribute, w.format)) (fits_join ns (record_texts p) q s)

  -- Op 5 has a text behind the save byte.
  pub put_reasoned_body : (o : Outcome) {op save : ℕ} → (op ≡ op_write → ⊥) → save ≡ save_byte o
      → Put at (fitting at (save ∷ []) old) old n mid → Put n (fitting n (text (reason o)) mid) mid n' new
      → Put at (fitting at (write_body o op) old) old n' new
  put_reasoned_body o {op} {save} h e p q =
      fit_as (simp (e, ne_eqb op op_write h)) (fits_join (save ∷ []) (text (reason o)) p q)
