-- Bytes, numbers and the data of a request, put into a buffer.
-- Assumes nothing.
use Prim.Native.Nat.{ℕ, ◌+◌, ◌<◌, ◌≤◌}
use native.Mathlib.Omega.{arith}
use mathlib.Core.Path.{◌≡◌, refl, sym, ap, subst, ◌∙◌}
use mathlib.Core.Bool.{Bool, true, false, cond}
use mathlib.Core.List.{List, [], ◌∷◌, ◌++◌, append-nil}
use borrow.Author.Tests.{eqb-true, eqb-false, ltb-false, eq-eqb, ne_eqb, lt-ltb, le-ltb}
use lib.ListN.{length, take, drop}
use lib.Seq.{take_at}
use lib.Dec.{eqb, ltb}
use Rattle.protocol.specs.declared.Op.{Op}
use Rattle.protocol.specs.Refusal.{op_number}
use Rattle.protocol.specs.Numbers.{done, no_room, unknown_command, bad_parameter, room_serial, room_udp, PDI, op_node, op_read, op_write_extended}
use Rattle.protocol.specs.Bytes.{word}
use Rattle.protocol.specs.Frame.{Received, received, refused, Sized, frame, datagram, if_sized, if_done, if_room, write_frame, write_datagram}
use Rattle.protocol.specs.Buffer.{put_at, Put, Emits}
use Rattle.protocol.specs.Request.{Request, request_of, fits, allowance, Allowed, data_of, serial_form, udp_form}
use Rattle.protocol.proofs.BufferLaws.{put_room, over_put, over_nil, emits_refused, emits_no_room, emits_in_room}
use Rattle.protocol.proofs.FrameLaws.{if_sized-sized}
use Rattle.protocol.proofs.RequestLaws.{data_of_size, data_of_sized}
use Rattle.table.proofs.TableLaws.{known_op}
use Rattle.compose.specs.Write.{write_request}

-- The data of a request by what its op asks for.
module _ (op : ℕ) (path : List ℕ) (index value : ℕ) where
  pub data-path : op ≤ op_node → PDI ∷ op ∷ path ≡ data_of (request_of op path index value)
  unfolding data_of
  data-path h =
      sym (rw (le-ltb op_node op h, le-ltb op_read op (omega (arith, h))) (ap (λ l. PDI ∷ op ∷ l) (append-nil path)))

  pub data-index : op_node < op → op ≤ op_read → PDI ∷ op ∷ (path ++ index ∷ []) ≡ data_of (request_of op path index value)
  unfolding data_of
  data-index h k = sym (rw (lt-ltb op_node op h, le-ltb op_read op k))

  pub data-value : op_read < op → PDI ∷ op ∷ (path ++ index ∷ 0 ∷ word value) ≡ data_of (request_of op path index value)
  unfolding data_of
  data-value h = sym (rw (lt-ltb op_node op (omega (arith, h)), lt-ltb op_read op h))

-- What writing answers for a request, test by test.
module _ (r : Request) where
  pub allow_unknown : op_write_extended < r.op → unknown_command ≡ allowance r
  unfolding allowance
  allow_unknown h = sym (rw (lt-ltb op_write_extended r.op h))

module _ (n : ℕ) (path : List ℕ) (index value : ℕ) (op : Op) (is : n ≡ op_number op) {t : Bool} (same : t ≡ fits (request_of n path index value)) where
  known : n ≤ op_write_extended
  known = omega (arith, is, known_op op)

  pub allow_unfit : t ≡ false → bad_parameter ≡ allowance (request_of n path index value)
  unfolding allowance
  allow_unfit h = sym (rw (le-ltb op_write_extended n known, sym same ∙ h))

  pub allow_fit : t ≡ true → done ≡ allowance (request_of n path index value)
  unfolding allowance
  allow_fit h = sym (rw (le-ltb op_write_extended n known, sym same ∙ h))

-- A request written out: with no room, what the table does not allow, and what it allows.
module _ (least room : ℕ) (form : Request → List ℕ) (r : Request) (old : List ℕ) where
  pub emits_unroomed : room < least → Emits (write_request least room form r) old no_room 0 old
  unfolding write_request
  emits_unroomed h = emits_no_room least room (if_done (allowance r) (received (form r))) old h

  pub emits_unallowed : least ≤ room → {n : ℕ} → n ≡ allowance r → (n ≡ done → ⊥) → Emits (write_request least room form r) old n 0 old
  unfolding write_request
  emits_unallowed h {n} e u =
      emits_in_room h
      (rw (ne_eqb (allowance r) done (λ d. u (e ∙ d)))
      (subst (λ m. Emits (refused m) old n 0 old) e (emits_refused n old)))

  pub emits_allowed : least ≤ room → Allowed r → {n size : ℕ} {new : List ℕ} → Emits (received (form r)) old n size new
      → Emits (write_request least room form r) old n size new
  unfolding write_request
  emits_allowed h k p = emits_in_room h (rw (eq-eqb (allowance r) done k) p)

-- What the data's number says of the request: a refusal is one in every form, and with 0 the data was put.
pub record PutFor (least room : ℕ) (r : Request) (old : List ℕ) (size : ℕ) (new : List ℕ) : Type 0 where
  pub roomy : least ≤ room
  pub allowed : Allowed r
  pub put : Put 0 (data_of r) old size new

module _ (least room : ℕ) (r : Request) {old new : List ℕ} {n size : ℕ} (e : Emits (write_request least room data_of r) old n size new) where
  pub refused_alike : (form : Request → List ℕ) (out : List ℕ) → (n ≡ done → ⊥) → Emits (write_request least room form r) out n size out
  unfolding write_request if_room
  refused_alike form out h = go (ltb room least) (eqb (allowance r) done) e
    where
      go : (t u : Bool) → Emits (cond t (refused no_room) (cond u (received (data_of r)) (refused (allowance r)))) old n size new
          → Emits (cond t (refused no_room) (cond u (received (form r)) (refused (allowance r)))) out n size out
      go true u f = record { number = f.number; len = f.len; bytes = sym (over_nil out) }
      go false true f = absurd (h f.number)
      go false false f = record { number = f.number; len = f.len; bytes = sym (over_nil out) }

  pub put_for : n ≡ done → PutFor least room r old size new
  unfolding write_request if_room
  put_for h = go (ltb room least) (eqb (allowance r) done) refl refl e
    where
      go : (t u : Bool) → ltb room least ≡ t → eqb (allowance r) done ≡ u
          → Emits (cond t (refused no_room) (cond u (received (data_of r)) (refused (allowance r)))) old n size new
          → PutFor least room r old size new
      go true u a b f = absurd (omega (arith, f.number, h))
      go false true a b f =
          record {
            roomy = ltb-false room least a;
            allowed = eqb-true (allowance r) done b;
            put = record { next = omega (arith, f.len); bytes = f.bytes ∙ sym (over_put (data_of r) old) };
          }
      go false false a b f = absurd (eqb-false (allowance r) done b (sym f.number ∙ h))

-- The part of a buffer that holds what was put from its front on.
pub put_front : {ys old new : List ℕ} {k : ℕ} → Put 0 ys old k new → take k new ≡ ys
unfolding put_at
put_front {ys} {old} {new} {k} p =
    ap (take k) p.bytes ∙ take_at ys (drop (0 + length ys) old) k (omega (arith, p.next))

pub put_within : {ys old new : List ℕ} {k : ℕ} → Put 0 ys old k new → length ys ≤ length old → k ≤ length new
put_within p h = omega (arith, put_room p 0 (omega (arith, h)))

pub put_for_within : {least room : ℕ} (r : Request) {old new : List ℕ} {size : ℕ} → PutFor least room r old size new → 24 ≤ length old
    → size ≤ length new
put_for_within r p h = put_within p.put (omega (arith, h, data_of_size r p.allowed))

-- Data of a good size is written in its form where there is room.
unroomed : {least room : ℕ} {w : Received} {old new : List ℕ} {n size : ℕ} → least ≤ room → Emits (if_room least room w) old n size new
    → Emits w old n size new
unfolding if_room
unroomed {least} {room} h e = rw (le-ltb room least h) at e

pub emits_formed : (form : List ℕ → List ℕ) (least : ℕ) (e : List ℕ) → Sized e → {d old new : List ℕ} {n size : ℕ} → d ≡ e → least ≤ length old
    → Emits (if_room least (length old) (if_sized d (received (form d)))) old n size new → Emits (received (form e)) old n size new
emits_formed form least e sized {d} {old} {new} {n} {size} is h w =
    subst (λ r. Emits r old n size new)
    (ap (λ l. if_sized l (received (form l))) is ∙ if_sized-sized e (received (form e)) sized)
    (unroomed h w)

module _ (r : Request) (allowed : Allowed r) {d old new : List ℕ} {n size : ℕ} (is : d ≡ data_of r) where
  pub emits_serial : (a : ℕ) → room_serial ≤ length old
      → Emits (if_room room_serial (length old) (write_frame a d)) old n size new → Emits (received (serial_form a r)) old n size new
  unfolding serial_form
  emits_serial a h e = emits_formed (frame a) room_serial (data_of r) (data_of_sized r allowed) is h e

  pub emits_udp : room_udp ≤ length old → Emits (if_room room_udp (length old) (write_datagram d)) old n size new
      → Emits (received (udp_form r)) old n size new
  unfolding udp_form
  emits_udp h e = emits_formed datagram room_udp (data_of r) (data_of_sized r allowed) is h e
