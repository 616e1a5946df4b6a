-- The middle of a frame, written byte after byte.
-- Assumes nothing.
use Rattle.std.proofs.Common.{◌≡◌, ℕ, ◌+◌, ◌*◌, ◌^◌, ◌<◌, ◌≤◌, List, [], ◌∷◌, ◌++◌, length, get_or, take, sym, ap, ◌∙◌, subst, add-one, arith, length-take, take_all, take-suc}
use Rattle.protocol.specs.Bytes.{sum}
use Rattle.protocol.specs.Frame.{doubled, double}
use Rattle.protocol.specs.Buffer.{Put}
use Rattle.protocol.proofs.FrameLaws.{double_snoc, length-double}
use Rattle.protocol.proofs.BufferLaws.{put_nil, puts, length_put}
use Rattle.frame.specs.Steps.{byte_sum, Adds, PutBody}

-- A byte is what is kept of itself alone.
kept_alone : (b : ℕ) → b < 2 ^ 8 → b ≡ byte_sum (b ∷ [])
unfolding sum
kept_alone b h = omega arith

-- After i bytes of the data.
pub record Writing (bs old : List ℕ) (from address : ℕ) (out : List ℕ) (at total i : ℕ) : Type 0 where
  pub within : i ≤ length bs
  pub body : PutBody from address (take i bs) old at total out

module _ (bs old : List ℕ) (from address : ℕ) (room : from + 2 * length bs ≤ length old) where
  pub begins : address < 2 ^ 8 → Writing bs old from address old from address 0
  unfolding double
  begins h = record { within = omega arith; body = record { put = put_nil from old; summed = kept_alone address h } }

  pub more : {out out' : List ℕ} {at at' total total' i : ℕ} → Writing bs old from address out at total i → i < length bs
      → Put at (doubled (get_or bs i 0)) out at' out' → Adds total (get_or bs i 0) total'
      → Writing bs old from address out' at' total' (i + 1)
  more {out' = out'} {at' = at'} {i = i} w h p s =
      let next : take (i + 1) bs ≡ take i bs ++ get_or bs i 0 ∷ [] = ap (λ n. take n bs) (add-one i) ∙ take-suc bs i 0 h in
      record {
        within = omega arith;
        body =
            record {
              put =
                  subst (λ l. Put from l old at' out')
                  (sym (ap double next ∙ double_snoc (take i bs) (get_or bs i 0)))
                  (puts (omega arith) w.body.put p);
              summed = s (address ∷ take i bs) w.body.summed ∙ ap (λ l. byte_sum (address ∷ l)) (sym next);
            };
      }

  pub length_kept : {out : List ℕ} {at total i : ℕ} → Writing bs old from address out at total i → length out ≡ length old
  length_kept {i = i} w =
      ap length w.body.put.bytes
      ∙ length_put old from (double (take i bs))
      (omega (arith, room, length-double (take i bs), length-take i bs))

  pub room_left : {out : List ℕ} {at total i : ℕ} → Writing bs old from address out at total i → i < length bs
      → at + 2 ≤ length out
  room_left {i = i} w h =
      omega (arith, room, length_kept w, w.body.put.next, length-double (take i bs), length-take i bs)

  pub ends : {out : List ℕ} {at total i : ℕ} → Writing bs old from address out at total i → length bs ≤ i
      → PutBody from address bs old at total out
  ends {out} {at} {total} {i} w h = subst (λ l. PutBody from address l old at total out) (take_all i bs h) w.body
