-- Requests as they are read: what was found, from the inside out.
-- Assumes nothing.
use Prim.Native.Nat.{ℕ, suc, ◌-◌, ◌<◌, ◌≤◌}
use native.Mathlib.Omega.{arith}
use native.Mathlib.Numerals.{add-one}
use native.Mathlib.Decide.{dec_le}
use mathlib.Core.Path.{◌≡◌, refl, sym, ap, ap₂, subst, ◌∙◌}
use mathlib.Core.Bool.{Bool, true, false, ◌&&◌}
use mathlib.Core.List.{List, [], ◌∷◌}
use borrow.Author.Tests.{eqb-true, eq-eqb, ne_eqb, lt-ltb, le-leb, lt-leb}
use lib.ListN.{length, get_or, take, drop, length-take, length-drop, length-append}
use lib.Seq.{take_all, take-take, drop-drop}
use lib.Dec.{eqb, leb}
use Rattle.protocol.specs.Numbers.{done, bad_parameter, PDI, op_detect, op_node, op_write_extended, max_depth}
use Rattle.protocol.specs.Bytes.{number}
use Rattle.protocol.specs.Frame.{Received, read_frame, cut, read_datagram}
use Rattle.protocol.specs.Buffer.{over, Emits}
use Rattle.protocol.specs.Request.{Request, request_of, is_path, Allowed, Asked, asks_index, asks_value, fits, declined, asked_if, before_zero, read_indexed, read_valued, read_shape, read_request, read_payload, read_serial, read_udp}
use Rattle.protocol.proofs.BufferLaws.{over_front}
use Rattle.protocol.proofs.RefusalLaws.{refusal_some}
use Rattle.protocol.proofs.RequestLaws.{asked_if_by, allowed, read_valued_by, read_shape_by, read_request_by, read_request-one, read_payload_by, path_most}
use Rattle.std.specs.Prelude.{Result, Ok, Err}
use Rattle.protocol.specs.declared.Refusal.{Refusal}
use Rattle.protocol.specs.declared.Refusal.TheVariants.{BadParameter, UnknownCommand}
use Rattle.protocol.specs.declared.path.Path.{Path}
use Rattle.protocol.specs.declared.Op.{Op}
use Rattle.protocol.specs.Refusal.{refusal_number, op_number}
use Rattle.protocol.specs.KeptPath.{path_in, PathIs}
use Rattle.table.proofs.TableLaws.{known_op}
use Rattle.request.specs.declared.Request as declared
use Rattle.request.specs.Asked.{padded, AskedIs}

-- What is handed back for a reading, where two readings are the same.
carry : {a b : Asked} {x : Result declared.Request Refusal} → b ≡ a → AskedIs a x → AskedIs b x
carry {x = x} e h = subst (λ a. AskedIs a x) (sym e) h

-- What is handed back for a refusal.
refusal : (e : Refusal) {a : Asked} → a ≡ declined (refusal_number e) → AskedIs a (Err e)
refusal e h = carry h (record { is = refl; path = tt })

-- A request is judged by its op's number.
pub fits_numbered : (path : List ℕ) (i value : ℕ) {t : Bool} {n m : ℕ} → t ≡ fits (request_of n path i value) → n ≡ m → t ≡ fits (request_of m path i value)
fits_numbered path i value e k = e ∙ ap (λ o. fits (request_of o path i value)) k

-- A request that fits, and one that does not.
module _ (op : Op) (path : List ℕ) (i value : ℕ) {t : Bool} (same : t ≡ fits (request_of (op_number op) path i value)) where
  pub allowed_fit : t ≡ true → {p : Path} → PathIs path (length path) p → Allowed (request_of (op_number op) (path_in p) i value)
  allowed_fit h k =
      rw k.is (allowed (request_of (op_number op) path i value) (record { op = known_op op; rest = sym same ∙ h }))

  pub asked_fit : t ≡ true → (q : declared.Request) → op_number q.op ≡ op_number op → q.index.0 ≡ i → q.value ≡ value → PathIs path (length path) q.path
      → q.path.numbers ≡ padded path → AskedIs (asked_if (request_of (op_number op) path i value)) (Ok q)
  asked_fit h q o j v k z =
      carry (asked_if_by _ true (sym same ∙ h))
      (record {
        is = rw (o, j, v, k.is) refl;
        path = z;
      })

  pub asked_unfit : t ≡ false → AskedIs (asked_if (request_of (op_number op) path i value)) (Err BadParameter)
  asked_unfit h = refusal BadParameter (asked_if_by _ false (sym same ∙ h))

-- Path and index of no bytes.
pub indexed_none : (op value : ℕ) (bs : List ℕ) → op_node < op → length bs < 1 → AskedIs (read_indexed op value bs) (Err BadParameter)
unfolding read_indexed fits is_path
indexed_none op value [] a h = refusal BadParameter (asked_if_by (request_of op [] 0 value) false (rw (lt-ltb op_detect op (omega (arith, a))) refl))
indexed_none op value (b ∷ bs) a h = absurd (omega (arith, h))

-- Four bytes behind the first of five, one by one.
five : (bs : List ℕ) → length bs ≡ 5 → get_or bs 1 0 ∷ get_or bs 2 0 ∷ get_or bs 3 0 ∷ get_or bs 4 0 ∷ [] ≡ drop 1 bs
five [] h = absurd (omega (arith, h))
five (a ∷ []) h = absurd (omega (arith, h))
five (a ∷ b ∷ []) h = absurd (omega (arith, h))
five (a ∷ b ∷ c ∷ []) h = absurd (omega (arith, h))
five (a ∷ b ∷ c ∷ d ∷ []) h = absurd (omega (arith, h))
five (a ∷ b ∷ c ∷ d ∷ e ∷ []) h = refl
five (a ∷ b ∷ c ∷ d ∷ e ∷ f ∷ bs) h = absurd (omega (arith, h))

-- Ops 4 and 5, by the bytes from the first zero on: another count of them than five, and five.
module _ (op : ℕ) (bs : List ℕ) {end : ℕ} (e : end ≡ before_zero bs) where
  abbrev from_zero : List ℕ
  from_zero = take (length bs - end) (drop end bs)

  behind_zero : drop (suc (before_zero bs)) bs ≡ drop 1 from_zero
  behind_zero =
      ap (λ n. drop (suc n) bs) (sym e)
      ∙ ap (λ n. drop n bs) (sym (add-one end))
      ∙ sym (ap (drop 1) (take_all (length bs - end) (drop end bs) (omega (arith, length-drop end bs))) ∙ drop-drop 1 end bs)

  pub valued_other : (length from_zero ≡ 5 → ⊥) → AskedIs (read_valued op bs) (Err BadParameter)
  valued_other h =
      refusal BadParameter
      (read_valued_by op bs false
      (ne_eqb (length (drop (suc (before_zero bs)) bs)) 4 (λ f. h (omega (arith, f, ap length behind_zero, length-drop 1 from_zero)))))

  pub valued_whole : length from_zero ≡ 5
      → {v : ℕ} → v ≡ number (get_or from_zero 1 0 ∷ get_or from_zero 2 0 ∷ get_or from_zero 3 0 ∷ get_or from_zero 4 0 ∷ [])
      → {x : Result declared.Request Refusal} → AskedIs (read_indexed op v (take end bs)) x → AskedIs (read_valued op bs) x
  unfolding read_valued
  valued_whole h f a =
      let four : length (drop (suc (before_zero bs)) bs) ≡ 4 = omega (arith, h, ap length behind_zero, length-drop 1 from_zero) in
      carry
      (rw (eq-eqb (length (drop (suc (before_zero bs)) bs)) 4 four)
      (ap₂ (λ n l. read_indexed op n l)
      (ap number behind_zero ∙ sym (f ∙ ap number (five from_zero h)))
      (ap (λ n. take n bs) (sym e))))
      a

-- Data by its first two bytes.
pub data-none : (d : List ℕ) → length d < 1 → AskedIs (read_request d) (Err BadParameter)
unfolding read_request
data-none [] h = refusal BadParameter refl
data-none (c ∷ d) h = absurd (omega (arith, h))

pub data-one : (d : List ℕ) → 1 ≤ length d → length d < 2 → get_or d 0 0 ≡ PDI → AskedIs (read_request d) (Err BadParameter)
data-one [] h k e = absurd (omega (arith, h))
data-one (c ∷ []) h k e = refusal BadParameter (read_request-one c true (eq-eqb c PDI e))
data-one (c ∷ op ∷ d) h k e = absurd (omega (arith, k))

pub data-other : (d : List ℕ) → 1 ≤ length d → (get_or d 0 0 ≡ PDI → ⊥) → AskedIs (read_request d) (Err UnknownCommand)
data-other [] h e = absurd (omega (arith, h))
data-other (c ∷ []) h e = refusal UnknownCommand (read_request-one c false (ne_eqb c PDI e))
data-other (c ∷ op ∷ d) h e = refusal UnknownCommand (read_request_by c op d false (rw (ne_eqb c PDI e)))

pub data-unknown : (d : List ℕ) → 2 ≤ length d → get_or d 0 0 ≡ PDI → op_write_extended < get_or d 1 0
    → AskedIs (read_request d) (Err UnknownCommand)
data-unknown [] h e k = absurd (omega (arith, h))
data-unknown (c ∷ []) h e k = absurd (omega (arith, h))
data-unknown (c ∷ op ∷ d) h e k =
    refusal UnknownCommand (read_request_by c op d false (rw (eq-eqb c PDI e) (lt-leb op op_write_extended k)))

pub data-shape : (d : List ℕ) (op : Op) → 2 ≤ length d → get_or d 0 0 ≡ PDI → get_or d 1 0 ≡ op_number op
    → {x : Result declared.Request Refusal} → AskedIs (read_shape (op_number op) (take (length d - 2) (drop 2 d))) x → AskedIs (read_request d) x
data-shape [] op h e k a = absurd (omega (arith, h))
data-shape (c ∷ []) op h e k a = absurd (omega (arith, h))
data-shape (c ∷ b ∷ d) op h e k a =
    carry
    (read_request_by c b d true (rw (eq-eqb c PDI e) (le-leb b op_write_extended (omega (arith, k, known_op op))))
    ∙ ap₂ read_shape k (sym (take_all (length (c ∷ b ∷ d) - 2) d (omega arith))))
    a

-- Data of 25 bytes and more is never a request, and its first 25 bytes tell what it is.
long_path : (r : Request) → max_depth < length r.path → asked_if r ≡ declined bad_parameter
long_path r h = go (fits r) refl
  where
    go : (t : Bool) → fits r ≡ t → asked_if r ≡ declined bad_parameter
    go true e = absurd (omega (arith, h, path_most r e))
    go false e = asked_if_by r false e

long_value : (op : ℕ) (bs : List ℕ) → 23 ≤ length bs → read_valued op bs ≡ declined bad_parameter
long_value op bs h = go (eqb (length (drop (suc (before_zero bs)) bs)) 4) refl
  where
    front : List ℕ
    front = take (before_zero bs) bs

    go : (t : Bool) → eqb (length (drop (suc (before_zero bs)) bs)) 4 ≡ t → read_valued op bs ≡ declined bad_parameter
    go false e = read_valued_by op bs false e
    go true e =
        let four : length bs - suc (before_zero bs) ≡ 4 =
        sym (length-drop (suc (before_zero bs)) bs) ∙ eqb-true (length (drop (suc (before_zero bs)) bs)) 4 e in
        read_valued_by op bs true e
        ∙ long_path (request_of op (take (length front - 1) front) (get_or front (length front - 1) 0) (number (drop (suc (before_zero bs)) bs)))
        (omega (arith, h, four, length-take (before_zero bs) bs, length-take (length front - 1) front))

long_shape : (op : ℕ) (bs : List ℕ) → 23 ≤ length bs → read_shape op bs ≡ declined bad_parameter
long_shape op bs h = go (asks_value op) refl (asks_index op) refl
  where
    go : (t : Bool) → asks_value op ≡ t → (u : Bool) → asks_index op ≡ u → read_shape op bs ≡ declined bad_parameter
    go true e u f = read_shape_by op bs true u e f ∙ long_value op bs h
    go false e true f =
        read_shape_by op bs false true e f
        ∙ long_path (request_of op (take (length bs - 1) bs) (get_or bs (length bs - 1) 0) 0)
        (omega (arith, h, length-take (length bs - 1) bs))
    go false e false f = read_shape_by op bs false false e f ∙ long_path (request_of op bs 0 0) (omega (arith, h))

front_tells : (d : List ℕ) → 25 ≤ length d → read_request (take 25 d) ≡ read_request d
front_tells [] h = absurd (omega (arith, h))
front_tells (c ∷ []) h = absurd (omega (arith, h))
front_tells (c ∷ op ∷ d) h = go (eqb c PDI && leb op op_write_extended) refl
  where
    go : (t : Bool) → (eqb c PDI && leb op op_write_extended) ≡ t → read_request (c ∷ op ∷ take 23 d) ≡ read_request (c ∷ op ∷ d)
    go false e = read_request_by c op (take 23 d) false e ∙ sym (read_request_by c op d false e)
    go true e =
        read_request_by c op (take 23 d) true e
        ∙ long_shape op (take 23 d) (omega (arith, h, length-take 23 d))
        ∙ sym (read_request_by c op d true e ∙ long_shape op d (omega (arith, h)))

first_tell : (d : List ℕ) → read_request (take 25 d) ≡ read_request d
first_tell d = go (dec_le 25 (length d))
  where
    go : Dec (25 ≤ length d) → read_request (take 25 d) ≡ read_request d
    go (yes h) = front_tells d h
    go (no h) = ap read_request (take_all 25 d (omega (arith, h)))

-- So do its first bytes, where there is room for 25.
tells : (room : ℕ) (d : List ℕ) → 25 ≤ room → read_request (take room d) ≡ read_request d
tells room d h = sym (first_tell (take room d)) ∙ ap read_request (take-take 25 room d h) ∙ first_tell d

-- A string or a datagram that is refused, and one whose data is read.
payload_refused : (p : Received) (e : Refusal) → refusal_number e ≡ p.number → AskedIs (read_payload p) (Err e)
payload_refused p e h =
    refusal e (read_payload_by p false (ne_eqb p.number done (λ d. refusal_some e (h ∙ d))) ∙ ap declined (sym h))

payload_read : (p : Received) {x : Result declared.Request Refusal} → done ≡ p.number → AskedIs (read_request p.payload) x
    → AskedIs (read_payload p) x
payload_read p e a = carry (read_payload_by p true (eq-eqb p.number done (sym e))) a

-- A string's data was put at the front of some bytes, as far as there was room.
module _ (a : ℕ) (s : List ℕ) {old front : List ℕ} where
  pub serial_refused : (e : Refusal) → Emits (cut (length old) (read_frame a s)) old (refusal_number e) 0 front → AskedIs (read_serial a s) (Err e)
  unfolding read_serial
  serial_refused e m = payload_refused (read_frame a s) e m.number

  module _ {size : ℕ} (m : Emits (cut (length old) (read_frame a s)) old done size front) where
    pub serial_within : size ≤ length front
    unfolding over
    serial_within =
        let d : List ℕ = take (length old) (read_frame a s).payload in
        omega (arith, m.len, ap length m.bytes, length-append d (drop (length d) old))

    pub serial_read : {x : Result declared.Request Refusal} → 25 ≤ length old → AskedIs (read_request (take size front)) x → AskedIs (read_serial a s) x
    unfolding read_serial
    serial_read room f =
        let d : List ℕ = (read_frame a s).payload in
        let read : read_request d ≡ read_request (take size front) =
        sym (ap read_request (over_front (take (length old) d) old m.len m.bytes) ∙ tells (length old) d room) in
        payload_read (read_frame a s) m.number (carry read f)

-- A datagram.
module _ (d : List ℕ) where
  pub udp_refused : (e : Refusal) → refusal_number e ≡ (read_datagram d).number → AskedIs (read_udp d) (Err e)
  unfolding read_udp
  udp_refused e h = payload_refused (read_datagram d) e h

  pub udp_read : done ≡ (read_datagram d).number → {p : List ℕ} → p ≡ (read_datagram d).payload
      → {x : Result declared.Request Refusal} → AskedIs (read_request p) x → AskedIs (read_udp d) x
  unfolding read_udp
  udp_read h f g = payload_read (read_datagram d) h (carry (ap read_request (sym f)) g)
