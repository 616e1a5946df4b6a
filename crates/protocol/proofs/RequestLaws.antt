-- Requests: data is read as a request exactly when it is that request's data, and so are strings and datagrams.
-- Assumes nothing.
use Prim.Native.Nat.{ℕ, suc, ◌+◌, ◌-◌, ◌<◌, ◌≤◌}
use native.Mathlib.Omega.{arith}
use native.Mathlib.Nat.{not-suc-le-zero}
use native.Mathlib.Numerals.{add-one}
use mathlib.Core.Logic.{◌↔◌}
use mathlib.Core.Path.{◌≡◌, refl, sym, ap, ap₂, subst, ◌∙◌}
use mathlib.Core.Bool.{Bool, true, false, cond, ◌&&◌}
use mathlib.Core.List.{List, [], ◌∷◌, ◌++◌, append_assoc, append-nil}
use borrow.Author.Tests.{eqb-true, eqb-false, ltb-true, ltb-false, leb-true, eq-eqb, ne_eqb, lt-ltb, le-ltb, le-leb}
use lib.ListN.{length, get_or, take, drop, length-append, length-take, length-drop}
use lib.Seq.{take_at, drop-append-add, get_or_at}
use lib.Dec.{eqb, ltb, leb}
use Rattle.protocol.specs.Numbers.{done, unknown_command, bad_parameter, DLE, ETX, PDI, op_detect, op_node, op_read, op_write_extended, max_depth, byte_end, word_end}
use Rattle.protocol.specs.Bytes.{Bytes, every, word, number}
use Rattle.protocol.specs.Frame.{Received, double, checksum, content_of, wrap, frame, datagram, read_frame, read_datagram, received, Sized}
use Rattle.protocol.specs.Request.{Request, nonzero, is_path, asks_path, asks_index, asks_value, path_fits, index_fits, value_fits, fits, allowance, Allowed, index_part, value_part, data_of, serial_form, udp_form, Asked, declined, asked_if, before_zero, read_indexed, read_valued, read_shape, read_request, read_payload, read_serial, read_udp}
use Rattle.protocol.proofs.TestLaws.{and_left, and_right, every_append, every_one}
use Rattle.protocol.proofs.ListLaws.{init_last, number_word, word_of_four, bytes_drop, bytes_left}
use Rattle.protocol.proofs.FrameLaws.{bytes_undouble, read_frame-frame, read_frame_only, frame_injective, read_datagram-datagram, read_datagram_only, datagram_injective, Written}

-- What fits the table, part by part.
record Fit (r : Request) : Type 0 where
  path : path_fits r.op r.path ≡ true
  index : index_fits r.op r.index ≡ true
  value : value_fits r.op r.value ≡ true

fit : (r : Request) → fits r ≡ true → Fit r
unfolding fits
fit r h =
    let rest : (index_fits r.op r.index && value_fits r.op r.value) ≡ true =
    and_right (path_fits r.op r.path) _ h in
    record {
      path = and_left (path_fits r.op r.path) _ h;
      index = and_left (index_fits r.op r.index) _ rest;
      value = and_right (index_fits r.op r.index) _ rest;
    }

-- An allowed request: its op is one of the table's, and the rest fits.
pub record Fitting (r : Request) : Type 0 where
  pub op : r.op ≤ op_write_extended
  pub rest : fits r ≡ true

allowance_by : (r : Request) (t u : Bool) → ltb op_write_extended r.op ≡ t → fits r ≡ u
    → allowance r ≡ cond t unknown_command (cond u done bad_parameter)
unfolding allowance
allowance_by r t u e f = rw (e, f)

pub fitting : (r : Request) → Allowed r → Fitting r
fitting r h = go (ltb op_write_extended r.op) refl (fits r) refl
  where
    go : (t : Bool) → ltb op_write_extended r.op ≡ t → (u : Bool) → fits r ≡ u → Fitting r
    go true e u f = absurd (omega (arith, sym (allowance_by r true u e f) ∙ h))
    go false e false f = absurd (omega (arith, sym (allowance_by r false false e f) ∙ h))
    go false e true f = record { op = ltb-false op_write_extended r.op e; rest = f }

pub allowed : (r : Request) → Fitting r → Allowed r
allowed r h = allowance_by r false true (le-ltb op_write_extended r.op h.op) h.rest

-- The first zero of a list stands within it or at its end. Where there is one, it parts the list.
pub zero_within : (bs : List ℕ) → before_zero bs ≤ length bs
unfolding before_zero
zero_within [] = omega arith
zero_within (b ∷ bs) = go (eqb b 0) (zero_within bs)
  where
    go : (t : Bool) → before_zero bs ≤ length bs → cond t 0 (suc (before_zero bs)) ≤ suc (length bs)
    go true h = omega arith
    go false h = omega arith

zero_parts : (bs : List ℕ) → before_zero bs < length bs → bs ≡ take (before_zero bs) bs ++ 0 ∷ drop (suc (before_zero bs)) bs
unfolding before_zero
zero_parts [] h = absurd (not-suc-le-zero h)
zero_parts (b ∷ bs) h = go (eqb b 0) refl (zero_parts bs)
  where
    go : (t : Bool) → eqb b 0 ≡ t
        → (before_zero bs < length bs → bs ≡ take (before_zero bs) bs ++ 0 ∷ drop (suc (before_zero bs)) bs)
        → b ∷ bs ≡ take (before_zero (b ∷ bs)) (b ∷ bs) ++ 0 ∷ drop (suc (before_zero (b ∷ bs))) (b ∷ bs)
    go true e ih = rw e (ap (λ x. x ∷ bs) (eqb-true b 0 e))
    go false e ih =
        let k : suc (before_zero bs) < length (b ∷ bs) = rw e at h in
        rw e (ap (λ l. b ∷ l) (ih (omega (arith, k))))

-- The bytes after B4 and the op, as a request has them.
abbrev body : Request → List ℕ
body r = r.path ++ (index_part r ++ value_part r)

-- Bytes after an op that are read as a request.
record Shape (op : ℕ) (bs : List ℕ) (r : Request) : Type 0 where
  same_op : r.op ≡ op
  rest : fits r ≡ true
  bytes : bs ≡ body r

abbrev asked : Request → Asked
asked r = record { number = done; request = r }

pub asked_if_by : (r : Request) (t : Bool) → fits r ≡ t → asked_if r ≡ cond t (asked r) (declined bad_parameter)
unfolding asked_if
asked_if_by r t e = rw e

-- A refusal is no 0.
declines : {n : ℕ} {a : Asked} → ltb 0 n ≡ true → a ≡ declined n → a.number ≡ done → ⊥
declines {n} l e h = omega (arith, ltb-true 0 n l, sym (ap (λ a. a.number) e) ∙ h)

asked_if_only : (r : Request) → (asked_if r).number ≡ done → (asked_if r ≡ asked r) × (fits r ≡ true)
asked_if_only r h = go (fits r) refl
  where
    go : (t : Bool) → fits r ≡ t → (asked_if r ≡ asked r) × (fits r ≡ true)
    go true e = (asked_if_by r true e, e)
    go false e = absurd (declines refl (asked_if_by r false e) h)

-- The three shapes, as requests.
abbrev on_path : ℕ → List ℕ → Request
on_path op bs = record { op = op; path = bs; index = 0; value = 0 }

abbrev on_index : ℕ → ℕ → List ℕ → Request
on_index op value bs = record { op = op; path = take (length bs - 1) bs; index = get_or bs (length bs - 1) 0; value = value }

path_shape : (op : ℕ) (bs : List ℕ) → asks_index op ≡ false → asks_value op ≡ false → fits (on_path op bs) ≡ true
    → Shape op bs (on_path op bs)
path_shape op bs i v h = record { same_op = refl; rest = h; bytes = rw (i, v) (sym (append-nil bs)) }

-- What a path is, part by part.
pub record IsPath (bs : List ℕ) : Type 0 where
  pub least : 1 ≤ length bs
  pub most : length bs ≤ max_depth
  pub nonzeros : every nonzero bs ≡ true

pub is_path_lem : (bs : List ℕ) → is_path bs ≡ true → IsPath bs
unfolding is_path
is_path_lem bs h =
    let rest : (leb (length bs) max_depth && every nonzero bs) ≡ true = and_right (leb 1 (length bs)) _ h in
    record {
      least = leb-true 1 (length bs) (and_left (leb 1 (length bs)) _ h);
      most = leb-true (length bs) max_depth (and_left (leb (length bs) max_depth) _ rest);
      nonzeros = and_right (leb (length bs) max_depth) _ rest;
    }

asks_path_lem : (op : ℕ) → asks_index op ≡ true → asks_path op ≡ true
asks_path_lem op h = lt-ltb op_detect op (omega (arith, ltb-true op_node op h))

index_bytes : (op value : ℕ) (bs : List ℕ) → asks_index op ≡ true → fits (on_index op value bs) ≡ true
    → bs ≡ take (length bs - 1) bs ++ get_or bs (length bs - 1) 0 ∷ []
index_bytes op value bs i h =
    let p : is_path (take (length bs - 1) bs) ≡ true = rw (asks_path_lem op i) at (fit (on_index op value bs) h).path in
    init_last bs (omega (arith, (is_path_lem (take (length bs - 1) bs) p).least, length-take (length bs - 1) bs))

index_shape : (op : ℕ) (bs : List ℕ) → asks_index op ≡ true → asks_value op ≡ false → fits (on_index op 0 bs) ≡ true
    → Shape op bs (on_index op 0 bs)
index_shape op bs i v h = record { same_op = refl; rest = h; bytes = rw (i, v) (index_bytes op 0 bs i h) }

asks_index_lem : (op : ℕ) → asks_value op ≡ true → asks_index op ≡ true
asks_index_lem op h = lt-ltb op_node op (omega (arith, ltb-true op_read op h))

value_shape : (op : ℕ) (bs front back : List ℕ) → asks_value op ≡ true → bs ≡ front ++ 0 ∷ back → word (number back) ≡ back
    → fits (on_index op (number back) front) ≡ true → Shape op bs (on_index op (number back) front)
value_shape op bs front back v parted whole h =
    let i : asks_index op ≡ true = asks_index_lem op v in
    let split : front ≡ take (length front - 1) front ++ get_or front (length front - 1) 0 ∷ [] =
    index_bytes op (number back) front i h in
    record {
      same_op = refl;
      rest = h;
      bytes =
          parted
          ∙ ap₂ (λ x y. x ++ 0 ∷ y) split (sym whole)
          ∙ append_assoc (take (length front - 1) front) (get_or front (length front - 1) 0 ∷ []) (0 ∷ word (number back))
          ∙ rw (i, v);
    }

-- The bytes after an op, read.
record Read (op : ℕ) (bs : List ℕ) (a : Asked) : Type 0 where
  is : a ≡ asked a.request
  shape : Shape op bs a.request

read : (op : ℕ) (bs : List ℕ) (r : Request) (a : Asked) → a ≡ asked_if r → a.number ≡ done → (fits r ≡ true → Shape op bs r)
    → Read op bs a
read op bs r a e h shape =
    let p : (asked_if r ≡ asked r) × (fits r ≡ true) = asked_if_only r (sym (ap (λ a. a.number) e) ∙ h) in
    rw (e ∙ p.0) (record { is = refl; shape = shape p.1 })

pub read_valued_by : (op : ℕ) (bs : List ℕ) (t : Bool) → eqb (length (drop (suc (before_zero bs)) bs)) 4 ≡ t
    → read_valued op bs
    ≡ cond t (asked_if (on_index op (number (drop (suc (before_zero bs)) bs)) (take (before_zero bs) bs))) (declined bad_parameter)
unfolding read_valued read_indexed
read_valued_by op bs t e = rw e refl

read_valued_only : (op : ℕ) (bs : List ℕ) → Bytes bs → asks_value op ≡ true → (read_valued op bs).number ≡ done
    → Read op bs (read_valued op bs)
read_valued_only op bs all v h = go (eqb (length back) 4) refl
  where
    back : List ℕ
    back = drop (suc (before_zero bs)) bs

    front : List ℕ
    front = take (before_zero bs) bs

    go : (t : Bool) → eqb (length back) 4 ≡ t → Read op bs (read_valued op bs)
    go false e = absurd (declines refl (read_valued_by op bs false e) h)
    go true e =
        let four : length back ≡ 4 = eqb-true (length back) 4 e in
        let parted : bs ≡ front ++ 0 ∷ back = zero_parts bs (omega (arith, four, length-drop (suc (before_zero bs)) bs)) in
        read op bs (on_index op (number back) front) (read_valued op bs) (read_valued_by op bs true e) h
        (value_shape op bs front back v parted (word_of_four back four (bytes_drop (suc (before_zero bs)) bs all)))

pub read_shape_by : (op : ℕ) (bs : List ℕ) (t u : Bool) → asks_value op ≡ t → asks_index op ≡ u
    → read_shape op bs ≡ cond t (read_valued op bs) (cond u (asked_if (on_index op 0 bs)) (asked_if (on_path op bs)))
unfolding read_shape read_indexed
read_shape_by op bs t u e f = rw (e, f)

read_shape_only : (op : ℕ) (bs : List ℕ) → Bytes bs → (read_shape op bs).number ≡ done → Read op bs (read_shape op bs)
read_shape_only op bs all h = go (asks_value op) refl (asks_index op) refl
  where
    go : (t : Bool) → asks_value op ≡ t → (u : Bool) → asks_index op ≡ u → Read op bs (read_shape op bs)
    go true e u f =
        let is : read_shape op bs ≡ read_valued op bs = read_shape_by op bs true u e f in
        rw is (read_valued_only op bs all e (sym (ap (λ a. a.number) is) ∙ h))
    go false e true f =
        read op bs (on_index op 0 bs) (read_shape op bs) (read_shape_by op bs false true e f) h (index_shape op bs f e)
    go false e false f =
        read op bs (on_path op bs) (read_shape op bs) (read_shape_by op bs false false e f) h (path_shape op bs f e)

-- Data read as a request is allowed, and is that request's data.
pub record Says (form : Request → List ℕ) (s : List ℕ) (a : Asked) : Type 0 where
  pub is : a ≡ record { number = done; request = a.request }
  pub allowed : Allowed a.request
  pub written : s ≡ form a.request

-- The test on B4 and the op.
abbrev is_command : ℕ → ℕ → Bool
is_command c op = eqb c PDI && leb op op_write_extended

pub read_request_by : (c op : ℕ) (bs : List ℕ) (t : Bool) → is_command c op ≡ t
    → read_request (c ∷ op ∷ bs) ≡ cond t (read_shape op bs) (declined unknown_command)
unfolding read_request
read_request_by c op bs t e = rw e

pub read_request-one : (c : ℕ) (t : Bool) → eqb c PDI ≡ t
    → read_request (c ∷ []) ≡ cond t (declined bad_parameter) (declined unknown_command)
unfolding read_request
read_request-one c t e = rw e

says : (c op : ℕ) (bs : List ℕ) (a : Asked) → is_command c op ≡ true → Read op bs a → Says data_of (c ∷ op ∷ bs) a
unfolding data_of
says c op bs a e r =
    let known : leb op op_write_extended ≡ true = and_right (eqb c PDI) (leb op op_write_extended) e in
    let first : c ≡ PDI = eqb-true c PDI (and_left (eqb c PDI) (leb op op_write_extended) e) in
    record {
      is = r.is;
      allowed =
          allowed a.request
          (record { op = rw r.shape.same_op (leb-true op op_write_extended known); rest = r.shape.rest });
      written =
          ap₂ (λ x y. x ∷ y ∷ bs) first (sym r.shape.same_op)
          ∙ ap (λ l. PDI ∷ a.request.op ∷ l) r.shape.bytes;
    }

pub read_request_only : (bs : List ℕ) → Bytes bs → (read_request bs).number ≡ done → Says data_of bs (read_request bs)
unfolding read_request
read_request_only [] all h = absurd (omega (arith, h))
read_request_only (c ∷ []) all h = go (eqb c PDI) refl
  where
    go : (t : Bool) → eqb c PDI ≡ t → Says data_of (c ∷ []) (read_request (c ∷ []))
    go true e = absurd (declines refl (read_request-one c true e) h)
    go false e = absurd (declines refl (read_request-one c false e) h)
read_request_only (c ∷ op ∷ bs) all h = go (is_command c op) refl
  where
    go : (t : Bool) → is_command c op ≡ t → Says data_of (c ∷ op ∷ bs) (read_request (c ∷ op ∷ bs))
    go false e = absurd (declines refl (read_request_by c op bs false e) h)
    go true e =
        let is : read_request (c ∷ op ∷ bs) ≡ read_shape op bs = read_request_by c op bs true e in
        subst (Says data_of (c ∷ op ∷ bs)) (sym is)
        (says c op bs (read_shape op bs) e (read_shape_only op bs (λ i. all (suc (suc i))) (sym (ap (λ a. a.number) is) ∙ h)))

-- The other way: the data of an allowed request is read as that request.
not_zero : (b : ℕ) → nonzero b ≡ true → eqb b 0 ≡ false
not_zero b h = ne_eqb b 0 (λ e. omega (arith, e, ltb-true 0 b (and_left (ltb 0 b) (ltb b byte_end) h)))

zero_at_lem : (x y : List ℕ) → every nonzero x ≡ true → before_zero (x ++ 0 ∷ y) ≡ length x
unfolding before_zero every
zero_at_lem [] y h = refl
zero_at_lem (b ∷ x) y h =
    rw (not_zero b (and_left (nonzero b) (every nonzero x) h))
    (ap suc (zero_at_lem x y (and_right (nonzero b) (every nonzero x) h)))

-- Path and index, put together and taken apart.
index_back : (op v : ℕ) (path : List ℕ) (index : ℕ)
    → on_index op v (path ++ index ∷ []) ≡ record { op = op; path = path; index = index; value = v }
index_back op v path index =
    let n : length path ≡ length (path ++ index ∷ []) - 1 = omega (arith, length-append path (index ∷ [])) in
    ap₂ (λ p i. record { op = op; path = p; index = i; value = v })
    (take_at path (index ∷ []) (length (path ++ index ∷ []) - 1) n)
    (get_or_at path index [] 0 (length (path ++ index ∷ []) - 1) n)

value_back : (op v : ℕ) (front : List ℕ) → every nonzero front ≡ true → v < word_end
    → read_valued op (front ++ 0 ∷ word v) ≡ asked_if (on_index op v front)
unfolding word
value_back op v front h k =
    let s : List ℕ = front ++ 0 ∷ word v in
    let at : before_zero s ≡ length front = zero_at_lem front (word v) h in
    let back : drop (suc (before_zero s)) s ≡ word v =
    ap (λ n. drop n s) (ap suc at ∙ sym (add-one (length front))) ∙ drop-append-add front (0 ∷ word v) 1 in
    read_valued_by op s true (eq-eqb (length (drop (suc (before_zero s)) s)) 4 (ap length back))
    ∙ ap₂ (λ b f. asked_if (on_index op (number b) f)) back (take_at front (0 ∷ word v) (before_zero s) (sym at))
    ∙ ap (λ n. asked_if (on_index op n front)) (number_word v k)

asked_back : (r : Request) → fits r ≡ true → asked_if r ≡ asked r
asked_back r h = asked_if_by r true h

-- By what the op asks for.
valued_back : (r : Request) → fits r ≡ true → asks_value r.op ≡ true → read_valued r.op (body r) ≡ asked r
valued_back r h v =
    let i : asks_index r.op ≡ true = asks_index_lem r.op v in
    let f : Fit r = fit r h in
    let path : is_path r.path ≡ true = rw (asks_path_lem r.op i) at f.path in
    let index : nonzero r.index ≡ true = rw i at f.index in
    let value : ltb r.value word_end ≡ true = rw v at f.value in
    let front : List ℕ = r.path ++ r.index ∷ [] in
    let nonzeros : every nonzero front ≡ true =
    every_append nonzero r.path (r.index ∷ []) (is_path_lem r.path path).nonzeros (every_one nonzero r.index index) in
    let bytes : body r ≡ front ++ 0 ∷ word r.value =
    rw (i, v) (sym (append_assoc r.path (r.index ∷ []) (0 ∷ word r.value))) in
    ap (read_valued r.op) bytes
    ∙ value_back r.op r.value front nonzeros (ltb-true r.value word_end value)
    ∙ ap asked_if (index_back r.op r.value r.path r.index)
    ∙ asked_back r h

no_value : (r : Request) → fits r ≡ true → asks_value r.op ≡ false → r.value ≡ 0
no_value r h v = let e : eqb r.value 0 ≡ true = rw v at (fit r h).value in eqb-true r.value 0 e

no_index : (r : Request) → fits r ≡ true → asks_index r.op ≡ false → r.index ≡ 0
no_index r h i = let e : eqb r.index 0 ≡ true = rw i at (fit r h).index in eqb-true r.index 0 e

indexed_back : (r : Request) → fits r ≡ true → asks_index r.op ≡ true → asks_value r.op ≡ false
    → asked_if (on_index r.op 0 (body r)) ≡ asked r
indexed_back r h i v =
    let bytes : body r ≡ r.path ++ r.index ∷ [] = rw (i, v) in
    ap (λ l. asked_if (on_index r.op 0 l)) bytes
    ∙ ap asked_if (index_back r.op 0 r.path r.index)
    ∙ ap (λ n. asked_if (record { op = r.op; path = r.path; index = r.index; value = n })) (sym (no_value r h v))
    ∙ asked_back r h

path_back : (r : Request) → fits r ≡ true → asks_index r.op ≡ false → asks_value r.op ≡ false
    → asked_if (on_path r.op (body r)) ≡ asked r
path_back r h i v =
    let bytes : body r ≡ r.path = rw (i, v) (append-nil r.path) in
    ap (λ l. asked_if (on_path r.op l)) bytes
    ∙ ap₂ (λ k n. asked_if (record { op = r.op; path = r.path; index = k; value = n }))
    (sym (no_index r h i))
    (sym (no_value r h v))
    ∙ asked_back r h

shape_back : (r : Request) → fits r ≡ true → read_shape r.op (body r) ≡ asked r
shape_back r h = go (asks_value r.op) refl (asks_index r.op) refl
  where
    go : (t : Bool) → asks_value r.op ≡ t → (u : Bool) → asks_index r.op ≡ u → read_shape r.op (body r) ≡ asked r
    go true v u i = read_shape_by r.op (body r) true u v i ∙ valued_back r h v
    go false v true i = read_shape_by r.op (body r) false true v i ∙ indexed_back r h i v
    go false v false i = read_shape_by r.op (body r) false false v i ∙ path_back r h i v

pub read_request_data_of : (r : Request) → Allowed r → read_request (data_of r) ≡ record { number = done; request = r }
unfolding data_of
read_request_data_of r h =
    let f : Fitting r = fitting r h in
    read_request_by PDI r.op (body r) true (le-leb r.op op_write_extended f.op) ∙ shape_back r f.rest

-- No data is that of two allowed requests.
pub data_of_injective : (r r' : Request) → Allowed r → Allowed r' → data_of r ≡ data_of r' → r ≡ r'
data_of_injective r r' h h' e =
    ap (λ a. a.request) (sym (read_request_data_of r h) ∙ ap read_request e ∙ read_request_data_of r' h')

pub value-fits : (r : Request) → fits r ≡ true → op_read < r.op → r.value < word_end
unfolding fits
value-fits r h w =
    let both = and_right (path_fits r.op r.path) _ h in
    let value = and_right (index_fits r.op r.index) _ both in
    ltb-true r.value word_end (sym (ap (λ t. cond t (ltb r.value word_end) (eqb r.value 0)) (lt-ltb op_read r.op w)) ∙ value)

pub path_most : (r : Request) → fits r ≡ true → length r.path ≤ max_depth
path_most r h = go (asks_path r.op) refl
  where
    go : (t : Bool) → asks_path r.op ≡ t → length r.path ≤ max_depth
    go true e = let p : is_path r.path ≡ true = rw e at (fit r h).path in (is_path_lem r.path p).most
    go false e =
        let p : eqb (length r.path) 0 ≡ true = rw e at (fit r h).path in
        omega (arith, eqb-true (length r.path) 0 p)

pub path_some : (r : Request) → fits r ≡ true → op_detect < r.op → 1 ≤ length r.path
path_some r h op =
    let p : is_path r.path ≡ true = rw (lt-ltb op_detect r.op op) at (fit r h).path in (is_path_lem r.path p).least

part_most : (t : Bool) (bs : List ℕ) → length (cond t bs []) ≤ length bs
part_most true bs = omega arith
part_most false bs = omega arith

value_most : (r : Request) → length (value_part r) ≤ 5
unfolding word
value_most r = part_most (asks_value r.op) (0 ∷ word r.value)

-- The data of an allowed request has 2 to 24 bytes.
pub data_of_size : (r : Request) → Allowed r → (2 ≤ length (data_of r)) × (length (data_of r) ≤ 24)
unfolding data_of
data_of_size r h =
    let path : length r.path ≤ max_depth = path_most r (fitting r h).rest in
    let index : length (index_part r) ≤ 1 = part_most (asks_index r.op) (r.index ∷ []) in
    let value : length (value_part r) ≤ 5 = value_most r in
    let joined : length (body r) ≡ length r.path + (length (index_part r) + length (value_part r)) =
    length-append r.path (index_part r ++ value_part r)
    ∙ ap (λ n. length r.path + n) (length-append (index_part r) (value_part r)) in
    (omega arith, omega (arith, joined))

pub data_of_sized : (r : Request) → Allowed r → Sized (data_of r)
data_of_sized r h = record { least = omega (arith, data_of_size r h); most = omega (arith, data_of_size r h) }

-- Serial and UDP alike: a form of data, and a reading of strings that gives back exactly what was written in that form.
record Carrier (form : List ℕ → List ℕ) (reads : List ℕ → Received) : Type 0 where
  back : (d : List ℕ) → Sized d → reads (form d) ≡ received d
  only : (s : List ℕ) → (reads s).number ≡ done → Written form s (reads s).payload
  bytes : (d : List ℕ) → Bytes (form d) → Bytes d

pub read_payload_by : (p : Received) (t : Bool) → eqb p.number done ≡ t
    → read_payload p ≡ cond t (read_request p.payload) (declined p.number)
unfolding read_payload
read_payload_by p t e = rw e

module _ (form : List ℕ → List ℕ) (reads : List ℕ → Received) (carrier : Carrier form reads) where
  carried_back : (r : Request) → Allowed r → read_payload (reads (form (data_of r))) ≡ asked r
  unfolding read_payload
  carried_back r h = ap read_payload (carrier.back (data_of r) (data_of_sized r h)) ∙ read_request_data_of r h

  carried_only : (s : List ℕ) → Bytes s → (read_payload (reads s)).number ≡ done
      → Says (λ r. form (data_of r)) s (read_payload (reads s))
  carried_only s all h = go (eqb (reads s).number done) refl
    where
      go : (t : Bool) → eqb (reads s).number done ≡ t → Says (λ r. form (data_of r)) s (read_payload (reads s))
      go false e =
          let n : (reads s).number ≡ done = sym (ap (λ a. a.number) (read_payload_by (reads s) false e)) ∙ h in
          absurd (eqb-false (reads s).number done e n)
      go true e =
          let is : read_payload (reads s) ≡ read_request (reads s).payload = read_payload_by (reads s) true e in
          let w : Written form s (reads s).payload = carrier.only s (eqb-true (reads s).number done e) in
          let all' : Bytes (reads s).payload = carrier.bytes (reads s).payload (subst Bytes w.written all) in
          let d : Says data_of (reads s).payload (read_request (reads s).payload) =
          read_request_only (reads s).payload all' (sym (ap (λ a. a.number) is) ∙ h) in
          subst (Says (λ r. form (data_of r)) s) (sym is)
          (record { is = d.is; allowed = d.allowed; written = w.written ∙ ap form d.written })

  exact : (s : List ℕ) → Bytes s → (r : Request) → (read_payload (reads s) ≡ asked r) ↔ (Allowed r × (s ≡ form (data_of r)))
  exact s all r = (
    λ h.
        let says : Says (λ r. form (data_of r)) s (read_payload (reads s)) = carried_only s all (ap (λ a. a.number) h) in
        let request_is : (read_payload (reads s)).request ≡ r = ap (λ a. a.request) h in
        (subst Allowed request_is says.allowed, says.written ∙ ap (λ r. form (data_of r)) request_is),
    λ h. ap (λ s. read_payload (reads s)) h.1 ∙ carried_back r h.0,
  )

-- The data of a frame or a datagram of bytes is bytes.
frame_bytes : (a : ℕ) (d : List ℕ) → Bytes (frame a d) → Bytes d
unfolding frame wrap content_of
frame_bytes a d all =
    let c : List ℕ = a ∷ (d ++ checksum (a ∷ d) ∷ []) in
    let content : Bytes c = bytes_undouble c (bytes_left (double c) (DLE ∷ ETX ∷ []) (λ i. all (suc (suc i)))) in
    bytes_left d (checksum (a ∷ d) ∷ []) (λ i. content (suc i))

serial : (a : ℕ) → Carrier (frame a) (read_frame a)
serial a = record { back = read_frame-frame a; only = read_frame_only a; bytes = frame_bytes a }

udp : Carrier datagram read_datagram
unfolding datagram
udp = record { back = read_datagram-datagram; only = read_datagram_only; bytes = λ d all i. all (suc (suc (suc (suc i)))) }

-- Demand 3 on definitions: a string is read as r exactly when it is r's written form, serial and UDP.
pub serial_exact : (a : ℕ) (s : List ℕ) → Bytes s → (r : Request)
    → (read_serial a s ≡ record { number = done; request = r }) ↔ (Allowed r × (s ≡ serial_form a r))
unfolding read_serial serial_form
serial_exact a s all r = exact (frame a) (read_frame a) (serial a) s all r

pub udp_exact : (s : List ℕ) → Bytes s → (r : Request)
    → (read_udp s ≡ record { number = done; request = r }) ↔ (Allowed r × (s ≡ udp_form r))
unfolding read_udp udp_form
udp_exact s all r = exact datagram read_datagram udp s all r

-- No string is the written form of two requests, nor of one for two addresses.
pub serial_form_injective : (a a' : ℕ) (r r' : Request) → Allowed r → Allowed r' → serial_form a r ≡ serial_form a' r'
    → (a ≡ a') × (r ≡ r')
unfolding serial_form
serial_form_injective a a' r r' h h' e =
    let p : (a ≡ a') × (data_of r ≡ data_of r') = frame_injective a a' (data_of r) (data_of r') e in
    (p.0, data_of_injective r r' h h' p.1)

pub udp_form_injective : (r r' : Request) → Allowed r → Allowed r' → udp_form r ≡ udp_form r' → r ≡ r'
unfolding udp_form
udp_form_injective r r' h h' e = data_of_injective r r' h h' (datagram_injective (data_of r) (data_of r') e)
