-- Demand 3 on requests, over what the exports promise: a string is read as a request exactly when it is that request's written
-- form, an allowed request is written in that form and nothing else is written, and no string is the form of two.
-- Assumes nothing.
use Prim.Native.Nat.{ℕ, ◌≤◌}
use mathlib.Core.Logic.{◌↔◌}
use mathlib.Core.Path.{◌≡◌, refl, sym, ap, ap₂, subst, ◌∙◌}
use mathlib.Core.Bool.{Bool, true, false, cond}
use mathlib.Core.List.{List}
use borrow.Author.Tests.{eq-eqb, ne_eqb, le-ltb}
use lib.ListN.{length, take, drop, take-append-drop}
use lib.Seq.{take_at, drop_at}
use lib.Dec.{eqb, ltb}
use Rattle.protocol.specs.Numbers.{done, unknown_command, bad_parameter, op_write_extended, room_serial, room_udp}
use Rattle.protocol.specs.Bytes.{Bytes}
use Rattle.protocol.specs.Frame.{if_room, if_done, received, refused}
use Rattle.protocol.specs.Buffer.{over, Emits}
use Rattle.protocol.specs.Request.{Request, request_of, Asked, Allowed, allowance, fits, serial_form, udp_form, read_serial, read_udp}
use Rattle.protocol.proofs.ListLaws.{bytes_left}
use Rattle.protocol.proofs.BufferLaws.{over_nil, over_front}
use Rattle.protocol.proofs.RequestLaws.{serial_exact, udp_exact, serial_form_injective, udp_form_injective}
use Rattle.request.specs.Asked.{found, padded}
use Rattle.compose.specs.Write.{write_request}
use Rattle.pualirqiq.specs.Calls.{Handed, fields_of, HandsBack}
use Rattle.demands.specs.Requests.{Wrote, WroteNothing, Requests}

-- The fields that are handed back tell the request.
padded_injective : (p q : List ℕ) → padded p ≡ padded q → length p ≡ length q → p ≡ q
unfolding padded over
padded_injective p q e n =
    sym (take_at p _ (length q) n) ∙ ap (take (length q)) e ∙ take_at q _ (length q) refl

fields_injective : (q r : Request) → fields_of q ≡ fields_of r → q ≡ r
fields_injective q r e =
    ap₂ (λ op path. request_of op path q.index q.value) (ap (λ h. h.op) e)
    (padded_injective q.path r.path (ap (λ h. h.path) e) (ap (λ h. h.path_len) e))
    ∙ ap₂ (λ index value. request_of r.op r.path index value) (ap (λ h. h.index) e) (ap (λ h. h.value) e)

-- Reading.
module _ (form : Request → List ℕ) (read : List ℕ → Asked)
    (exact : (s : List ℕ) → Bytes s → (q : Request) → (read s ≡ found q) ↔ (Allowed q × (s ≡ form q)))
    (s : List ℕ) (all : Bytes s) {old new : Handed} {n : ℕ} (h : HandsBack (read s) old n new) where
  found_when : n ≡ done → read s ≡ found (read s).request
  found_when d = ap (λ m. record { number = m; request = (read s).request }) (sym h.number ∙ d)

  reads : (q : Request) → ((n ≡ done) × (new ≡ fields_of q)) ↔ (Allowed q × (s ≡ form q))
  reads q = (
    λ p.
        let is : read s ≡ found (read s).request = found_when p.0 in
        let same_fields : fields_of (read s).request ≡ fields_of q =
        sym (ap (λ a. cond (eqb a.number done) (fields_of (read s).request) old) is) ∙ sym h.fields ∙ p.1 in
        (exact s all q).0 (is ∙ ap found (fields_injective (read s).request q same_fields)),
    λ w.
        let is : read s ≡ found q = (exact s all q).1 w in (
          h.number ∙ ap (λ a. a.number) is,
          h.fields ∙ ap (λ a. cond (eqb a.number done) (fields_of a.request) old) is,
        ),
  )

  reads_none : ((q : Request) → Allowed q → s ≡ form q → ⊥) → (n ≡ done → ⊥) × (new ≡ old)
  reads_none u =
      let bad : n ≡ done → ⊥ =
      λ d. let w = (exact s all (read s).request).0 (found_when d) in u (read s).request w.0 w.1 in (
        bad,
        h.fields ∙ ap (λ t. cond t (fields_of (read s).request) old) (ne_eqb (read s).number done (λ d. bad (h.number ∙ d))),
      )

-- What is no request: 10 or 11.
no_request_lem : (q : Request) → (Allowed q → ⊥) → allowance q ≡ cond (ltb op_write_extended q.op) unknown_command bad_parameter
unfolding allowance
no_request_lem q u = go (ltb op_write_extended q.op) (fits q) u
  where
    go : (t f : Bool) → (cond t unknown_command (cond f done bad_parameter) ≡ done → ⊥)
        → cond t unknown_command (cond f done bad_parameter) ≡ cond t unknown_command bad_parameter
    go true f u = refl
    go false true u = absurd (u refl)
    go false false u = refl

-- Writing, where there is room.
module _ (form : Request → List ℕ) (least : ℕ) (q : Request) {old new : List ℕ} {n size : ℕ} (room : least ≤ length old) where
  promise : Emits (write_request least (length old) form q) old n size new → Emits (if_done (allowance q) (received (form q))) old n size new
  unfolding write_request if_room
  promise e = rw (le-ltb (length old) least room) at e

  writes : Allowed q → Emits (write_request least (length old) form q) old n size new → Wrote (form q) old n size new
  unfolding over
  writes h e =
      let p : Emits (received (form q)) old n size new = rw (eq-eqb (allowance q) done h) at (promise e) in
      record {
        number = p.number;
        len = p.len;
        front = over_front (form q) old p.len p.bytes;
        rest =
            ap (drop size) p.bytes
            ∙ drop_at (form q) (drop (length (form q)) old) size (sym p.len)
            ∙ ap (λ k. drop k old) (sym p.len);
      }

  writes_none : (Allowed q → ⊥) → Emits (write_request least (length old) form q) old n size new → WroteNothing q old n size new
  writes_none u e =
      let p : Emits (refused (allowance q)) old n size new = rw (ne_eqb (allowance q) done u) at (promise e) in
      record { number = p.number ∙ no_request_lem q u; len = p.len; bytes = p.bytes ∙ over_nil old }

front_bytes : (k : ℕ) (bs : List ℕ) → Bytes bs → Bytes (take k bs)
front_bytes k bs all = bytes_left (take k bs) (drop k bs) (subst Bytes (sym (take-append-drop k bs)) all)

-- All of it, of a form that its reading knows exactly.
requests : (form : Request → List ℕ) (read : List ℕ → Asked) (least : ℕ)
    → ((s : List ℕ) → Bytes s → (q : Request) → (read s ≡ found q) ↔ (Allowed q × (s ≡ form q)))
    → ((q r : Request) → Allowed q → Allowed r → form q ≡ form r → q ≡ r) → Requests form read least
requests form read least exact one =
    record {
      read_exactly = λ s all old new n h q. reads form read exact s all h q;
      not_read = λ s all old new n h u. reads_none form read exact s all h u;
      written = λ q old new n size room h e. writes form least q room h e;
      not_written = λ q old new n size room u e. writes_none form least q room u e;
      read_back = λ q old new n size room all h e before after m b.
          (reads form read exact (take size new) (front_bytes size new all) b q).1 (h, (writes form least q room h e).front);
      once = one;
    }

-- By each transport.
pub serial_requests : (address : ℕ) → Requests (serial_form address) (read_serial address) room_serial
serial_requests address =
    requests (serial_form address) (read_serial address) room_serial (serial_exact address)
    (λ q r h k e. (serial_form_injective address address q r h k e).1)

pub udp_requests : Requests udp_form read_udp room_udp
udp_requests = requests udp_form read_udp room_udp udp_exact udp_form_injective
