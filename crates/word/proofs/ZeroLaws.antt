-- Where the first zero stands.
-- Assumes nothing.
use Rattle.std.proofs.Common.{◌≡◌, ℕ, Bool, true, false, not, Some, None, sym, ◌∙◌, ltb-false, cond, eqb, ltb, List, length, refl, arith}
use Rattle.std.specs.List.{position_or_len, position}
use Rattle.std.specs.Option.{unwrap_or}
use Rattle.std.proofs.lemmas.List.Sums.{prefix_len-le-length}
use Rattle.std.proofs.lemmas.List.Recursion.{is_position_or_len}
use Rattle.protocol.specs.Request.{before_zero}

-- How many bytes stand before the first zero, as a place that is sought.
first_zero : (bs : List ℕ) → before_zero bs ≡ position_or_len (λ b. eqb b 0) bs
unfolding before_zero
first_zero bs = is_position_or_len before_zero (λ b. eqb b 0) refl (λ b bs. grind arith) bs

pub zero_position : (bs : List ℕ) → unwrap_or (position (λ b. eqb b 0) bs) (length bs) ≡ before_zero bs
zero_position bs = go (ltb (position_or_len (λ b. eqb b 0) bs) (length bs)) refl
  where
    go : (t : Bool) → ltb (position_or_len (λ b. eqb b 0) bs) (length bs) ≡ t
        → unwrap_or (cond t (Some (position_or_len (λ b. eqb b 0) bs)) None) (length bs) ≡ before_zero bs
    go true e = sym (first_zero bs)
    go false e =
        sym (first_zero bs ∙ omega (arith, prefix_len-le-length (λ b. not (eqb b 0)) bs, ltb-false (position_or_len (λ b. eqb b 0) bs) (length bs) e))
