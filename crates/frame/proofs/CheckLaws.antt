-- A serial string checked, and its data copied out of it.
-- Assumes nothing.
use Rattle.std.proofs.Common.{Some, None, Result, Ok, Err, min, ◌≡◌, ℕ, zero, suc, ◌+◌, ◌-◌, ◌<◌, ◌≤◌, Bool, true, false, cond, ◌&&◌, eqb, ltb, List, [], ◌∷◌, ◌++◌, length, get_or, take, drop, sym, refl, ap, ◌∙◌, subst, ap₂, append_assoc, append-nil, le_of_suc-le-suc, not-suc-le-zero, arith, length-append, drop_of_length-le, length-take, take_all, drop-cons, drop-drop, ltb-false, ltb-true, le-ltb, lt-ltb, eq-eqb, ne_eqb, eqb-true}
use native.Mathlib.Decide.{dec_le}
use native.Mathlib.Nat.{sub-zero}
use mathlib.Core.Option as math
use borrow.Author.Tests.{eqb-false}
use lib.Seq.{take-nil, drop-append_seam}
use Rattle.protocol.specs.Numbers.{done, bad_checksum, other_address, DLE, STX, ETX, max_data, max_content, byte_end}
use Rattle.protocol.specs.Bytes.{Bytes, sum}
use Rattle.protocol.specs.Frame.{refused, received, doubled, double, checksum, content_of, wrap, frame, undouble, judge, judge_whole, read_frame, cut, address_in, data_in, checksum_in}
use Rattle.protocol.specs.Buffer.{over, Put, Emits}
use Rattle.protocol.proofs.TestLaws.{eqb_same}
use Rattle.protocol.proofs.ListLaws.{init_last, sum_snoc, bytes_left, bytes_drop}
use Rattle.protocol.proofs.FrameLaws.{double_snoc, bytes_undouble, double-undouble, parts, is_summed, judge_by, judge_whole_by, is_opened, read_frame_by, read_frame_only, read_frame-refused}
use Rattle.protocol.proofs.BufferLaws.{put_emits, put_nil, puts, over_nil}
use Rattle.protocol.specs.declared.Refusal.{Refusal}
use Rattle.protocol.specs.declared.Refusal.TheVariants.{NoPreamble, BadPair, TooShort, TooLong, BadChecksum, OtherAddress}
use Rattle.protocol.specs.Refusal.{refusal_number}
use Rattle.frame.specs.declared.read.Tally.{Tally}
use Rattle.frame.specs.Steps.{byte_sum, Tallies, ScanOf, judged, content_from, Checks}

-- One content byte more, of a list that begins with it.
content_step : (n b : ℕ) (l : List ℕ) → l ≡ b ∷ drop 1 l → content_from (suc n) l ≡ b ∷ content_from n (drop (length (doubled b)) l)
unfolding content_from
content_step n b l e =
    ap (content_from (suc n)) e ∙ ap (λ m. b ∷ content_from n (drop (length (doubled b)) m)) (sym e)

content_none : (n : ℕ) → content_from n [] ≡ []
unfolding content_from
content_none zero = refl
content_none (suc n) = refl

content_zero : (l : List ℕ) → content_from 0 l ≡ []
unfolding content_from
content_zero l = refl

-- The first of the content bytes.
content_take : (n m : ℕ) (s : List ℕ) → n ≤ m → content_from n s ≡ take n (content_from m s)
unfolding content_from
content_take zero m s h = refl
content_take (suc n) zero s h = absurd (not-suc-le-zero h)
content_take (suc n) (suc m) [] h = refl
content_take (suc n) (suc m) (b ∷ s) h =
    ap (λ l. b ∷ l) (content_take n m (drop (length (doubled b)) (b ∷ s)) (le_of_suc-le-suc h))

content_most : (n : ℕ) (s : List ℕ) → length (content_from n s) ≤ n
content_most n s =
    omega (arith, ap length (content_take n n s (omega arith)), length-take n (content_from n s))

-- Content bytes copied into the room that there is.
pub content_min : (n room : ℕ) (s : List ℕ) → content_from (min n room) s ≡ take room (content_from n s)
content_min n room s = go (dec_le n room)
  where
    go : Dec (n ≤ room) → content_from (min n room) s ≡ take room (content_from n s)
    go (yes h) =
        let all : min n room ≡ n = omega (arith, h) in
        ap (λ k. content_from k s) all ∙ sym (take_all room (content_from n s) (omega (arith, h, content_most n s)))
    go (no h) =
        let some : min n room ≡ room = omega (arith, h) in
        ap (λ k. content_from k s) some ∙ content_take room n s (omega (arith, h))

-- Doubled bytes give their content back.
doubled_head : (b : ℕ) (x : List ℕ) → doubled b ++ x ≡ b ∷ drop 1 (doubled b ++ x)
doubled_head b x = go (eqb b DLE) refl
  where
    go : (t : Bool) → eqb b DLE ≡ t
        → cond t (DLE ∷ DLE ∷ []) (b ∷ []) ++ x ≡ b ∷ drop 1 (cond t (DLE ∷ DLE ∷ []) (b ∷ []) ++ x)
    go true e = ap (λ a. a ∷ DLE ∷ x) (sym (eqb-true b DLE e))
    go false e = refl

pub content_double : (d rest : List ℕ) → content_from (length d) (double d ++ rest) ≡ d
unfolding double
content_double [] rest = content_zero rest
content_double (b ∷ d) rest =
    ap (content_from (suc (length d))) (append_assoc (doubled b) (double d) rest)
    ∙ content_step (length d) b (doubled b ++ (double d ++ rest)) (doubled_head b (double d ++ rest))
    ∙ ap (λ l. b ∷ content_from (length d) l) (drop-append_seam (doubled b) (double d ++ rest))
    ∙ ap (λ l. b ∷ l) (content_double d rest)

-- Where the data of a frame stands.
frame_data_lem : (a : ℕ) (d : List ℕ)
    → drop (2 + length (doubled a)) (frame a d) ≡ double d ++ (doubled (checksum (a ∷ d)) ++ DLE ∷ ETX ∷ [])
unfolding frame wrap content_of double
frame_data_lem a d =
    let k : ℕ = checksum (a ∷ d) in
    let n : 2 + length (doubled a) ≡ suc (suc (length (doubled a))) = omega arith in
    ap (λ m. drop m (frame a d)) n
    ∙ ap (drop (length (doubled a))) (append_assoc (doubled a) (double (d ++ k ∷ [])) (DLE ∷ ETX ∷ []))
    ∙ drop-append_seam (doubled a) (double (d ++ k ∷ []) ++ DLE ∷ ETX ∷ [])
    ∙ ap (λ l. l ++ DLE ∷ ETX ∷ []) (double_snoc d k)
    ∙ append_assoc (double d) (doubled k) (DLE ∷ ETX ∷ [])

frame_content : (a : ℕ) (d : List ℕ) → content_from (length d) (drop (2 + length (doubled a)) (frame a d)) ≡ d
frame_content a d =
    ap (content_from (length d)) (frame_data_lem a d) ∙ content_double d (doubled (checksum (a ∷ d)) ++ DLE ∷ ETX ∷ [])

-- Copying, at a place of the string and of the output.
pub record Copying (s : List ℕ) (from n : ℕ) (old out : List ℕ) (i k : ℕ) : Type 0 where
  pub bytes : List ℕ
  pub rest : content_from n (drop from s) ≡ bytes ++ content_from (n - k) (drop i s)
  pub put : Put 0 bytes old k out
  pub within : k ≤ n

module _ (s : List ℕ) (from n : ℕ) (old : List ℕ) (room : n ≤ length old) where
  pub copy_begins : Copying s from n old old from 0
  copy_begins =
      record {
        bytes = [];
        rest = ap (λ m. content_from m (drop from s)) (sym (sub-zero n));
        put = put_nil 0 old;
        within = omega arith;
      }

  copy_more : {out out' : List ℕ} {i k k' w : ℕ} → Copying s from n old out i k → k < n → i < length s
      → Put k (get_or s i 0 ∷ []) out k' out' → w ≡ length (doubled (get_or s i 0)) → Copying s from n old out' (i + w) k'
  copy_more {i = i} {k = k} {k' = k'} {w = w} c h l p e =
      let b : ℕ = get_or s i 0 in
      let first : drop i s ≡ b ∷ drop (suc i) s = drop-cons s i 0 l in
      let left : n - k ≡ suc (n - k') = omega (arith, p.next) in
      record {
        bytes = c.bytes ++ b ∷ [];
        rest =
            c.rest
            ∙ ap (λ m. c.bytes ++ content_from m (drop i s)) left
            ∙ ap (λ x. c.bytes ++ x)
            (content_step (n - k') b (drop i s) (first ∙ sym (ap (λ x. b ∷ drop 1 x) first))
            ∙ ap (λ x. b ∷ content_from (n - k') x)
            (drop-drop (length (doubled b)) i s ∙ ap (λ m. drop (i + m) s) (sym e)))
            ∙ sym (append_assoc c.bytes (b ∷ []) (content_from (n - k') (drop (i + w) s)));
        put = puts (omega arith) c.put p;
        within = omega (arith, p.next);
      }

  -- A byte other than 10h; and a 10h, behind which a byte is passed over.
  pub copy_lone : {out out' : List ℕ} {i k k' : ℕ} → Copying s from n old out i k → k < n → i < length s
      → Put k (get_or s i 0 ∷ []) out k' out' → (get_or s i 0 ≡ DLE → ⊥) → Copying s from n old out' (i + 1) k'
  copy_lone {i = i} c h l p u =
      copy_more c h l p (sym (ap (λ t. length (cond t (DLE ∷ DLE ∷ []) (get_or s i 0 ∷ []))) (ne_eqb (get_or s i 0) DLE u)))

  pub copy_doubled : {out out' : List ℕ} {i k k' : ℕ} → Copying s from n old out i k → k < n → i < length s
      → Put k (get_or s i 0 ∷ []) out k' out' → get_or s i 0 ≡ DLE → Copying s from n old out' (i + 1 + 1) k'
  copy_doubled {out' = out'} {i = i} {k' = k'} c h l p e =
      let two : i + 2 ≡ i + 1 + 1 = omega arith in
      subst (λ m. Copying s from n old out' m k') two
      (copy_more c h l p (sym (ap (λ t. length (cond t (DLE ∷ DLE ∷ []) (get_or s i 0 ∷ []))) (eq-eqb (get_or s i 0) DLE e))))

  pub copy_all : {out : List ℕ} {i k : ℕ} → Copying s from n old out i k → n ≤ k → Put 0 (content_from n (drop from s)) old k out
  copy_all {out} {i} {k} c h =
      let none_left : n - k ≡ 0 = omega arith in
      let is : content_from n (drop from s) ≡ c.bytes =
      c.rest
      ∙ ap (λ m. c.bytes ++ content_from m (drop i s)) none_left
      ∙ ap (λ l. c.bytes ++ l) (content_zero (drop i s))
      ∙ append-nil c.bytes in
      subst (λ l. Put 0 l old k out) (sym is) c.put

  pub copy_short : {out : List ℕ} {i k : ℕ} → Copying s from n old out i k → length s ≤ i → Put 0 (content_from n (drop from s)) old k out
  copy_short {out} {i} {k} c h =
      let is : content_from n (drop from s) ≡ c.bytes =
      c.rest
      ∙ ap (λ l. c.bytes ++ content_from (n - k) l) (drop_of_length-le s h)
      ∙ ap (λ l. c.bytes ++ l) (content_none (n - k))
      ∙ append-nil c.bytes in
      subst (λ l. Put 0 l old k out) (sym is) c.put

-- A string that does not begin with 10 02.
checks_unopened : (a : ℕ) (s : List ℕ) → is_opened s ≡ false → Checks a s (Err NoPreamble)
checks_unopened a s h = read_frame_by a s false h

and-false : (t : Bool) → (t && false) ≡ false
and-false true = refl
and-false false = refl

pub checks_one : (a : ℕ) (s : List ℕ) → length s < 2 → Checks a s (Err NoPreamble)
checks_one a [] h = checks_unopened a [] refl
checks_one a (x ∷ []) h = checks_unopened a (x ∷ []) (and-false (eqb x DLE))
checks_one a (x ∷ y ∷ s) h = absurd (omega (arith, h))

pub checks_first : (a : ℕ) (s : List ℕ) → (get_or s 0 0 ≡ DLE → ⊥) → Checks a s (Err NoPreamble)
checks_first a s h = checks_unopened a s (ap (λ t. t && eqb (get_or s 1 0) STX) (ne_eqb (get_or s 0 0) DLE h))

pub checks_second : (a : ℕ) (s : List ℕ) → (get_or s 1 0 ≡ STX → ⊥) → Checks a s (Err NoPreamble)
checks_second a s h =
    checks_unopened a s
    (ap (λ t. eqb (get_or s 0 0) DLE && t) (ne_eqb (get_or s 1 0) STX h) ∙ and-false (eqb (get_or s 0 0) DLE))

pub both_open : (s : List ℕ) → get_or s 0 0 ≡ DLE → get_or s 1 0 ≡ STX → is_opened s ≡ true
both_open s p q = ap₂ ◌&&◌ (eq-eqb (get_or s 0 0) DLE p) (eq-eqb (get_or s 1 0) STX q)

pub checks_broken : (a : ℕ) (s : List ℕ) → is_opened s ≡ true → ScanOf (undouble false (drop 2 s)) None → Checks a s (Err BadPair)
unfolding judge_whole
checks_broken a s h = go (undouble false (drop 2 s)) refl
  where
    go : (o : math.Option (List ℕ)) → undouble false (drop 2 s) ≡ o → ScanOf o None → Checks a s (Err BadPair)
    go math.none e w = read_frame_by a s true h ∙ ap (judge_whole a) e
    go (math.some c) e w = absurd w

-- The checksum is right exactly where all bytes of the content sum up to 255.
summed_same : (c : List ℕ) → 1 ≤ length c → checksum_in c < byte_end → is_summed c ≡ eqb (byte_sum c) 255
unfolding checksum
summed_same c h k =
    let front : List ℕ = take (length c - 1) c in
    let total : sum c ≡ sum front + checksum_in c = ap sum (init_last c h) ∙ sum_snoc front (checksum_in c) in
    eqb_same (checksum_in c) (255 - byte_sum front) (byte_sum c) 255
    (λ e. omega (arith, e, total))
    (λ e. omega (arith, e, total, k))

judged_by : (a : ℕ) (t : Tally) (p q u v : Bool) → ltb t.count 3 ≡ p → ltb max_content t.count ≡ q → eqb t.sum 255 ≡ u
    → eqb t.first a ≡ v
    → judged a t
    ≡ cond p (Err TooShort) (cond q (Err TooLong) (cond u (cond v (Ok (t.count - 2)) (Err OtherAddress)) (Err BadChecksum)))
unfolding judged
judged_by a t p q u v e f g h = rw (e, f, g, h)

-- A string whose content passes every test: its data stands behind the address.
checks_passed : (a : ℕ) (s c : List ℕ) → read_frame a s ≡ received (data_in c) → 3 ≤ length c → Checks a s (Ok (length c - 2))
checks_passed a s c e h =
    let size : length (data_in c) ≡ length c - 2 =
    omega (arith, ap length (parts c (omega arith)), length-append (data_in c) (checksum_in c ∷ [])) in
    let written : s ≡ frame a (data_in c) =
    (read_frame_only a s (ap (λ r. r.number) e)).written ∙ ap (λ r. frame a r.payload) e in
    e
    ∙ ap received
    (sym
    (ap₂ (λ n l. content_from n (drop (2 + length (doubled a)) l)) (sym size) written ∙ frame_content a (data_in c)))

-- A content and its tally are judged alike: both refused with a number, or both passed.
pub data Alike (a : ℕ) (c : List ℕ) (t : Tally) : Type 0 where
  both_refused : (e : Refusal) → judge_whole a (math.some c) ≡ refused (refusal_number e) → judged a t ≡ Err e → Alike a c t
  both_passed : 3 ≤ length c → length c ≤ max_content → judge_whole a (math.some c) ≡ received (data_in c)
      → judged a t ≡ Ok (length c - 2)
      → Alike a c t

module _ (a : ℕ) (c : List ℕ) (t : Tally) (w : Tallies c t) (all : Bytes c) where
  module _ (most : length c ≤ max_content) where
    long? : ltb max_content t.count ≡ false
    long? = le-ltb max_content t.count (omega (arith, most, w.count))

    long_enough : ltb t.count 3 ≡ false → 3 ≤ length c
    long_enough e = omega (arith, ltb-false t.count 3 e, w.count)

    whole_is : judge_whole a (math.some c) ≡ judge a c
    whole_is = judge_whole_by a c false (le-ltb max_content (length c) most)

    content_by : ltb t.count 3 ≡ false → (u v : Bool) → eqb t.sum 255 ≡ u → eqb t.first a ≡ v
        → judge_whole a (math.some c) ≡ cond u (cond v (received (data_in c)) (refused other_address)) (refused bad_checksum)
    content_by e u v g h =
        whole_is
        ∙ judge_by a c false u v
        (le-ltb (length c) 3 (long_enough e))
        (summed_same c (omega (arith, long_enough e)) (all (length c - 1)) ∙ ap (λ n. eqb n 255) (sym w.total) ∙ g)
        (ap (λ n. eqb n a) (sym w.first) ∙ h)

    short_alike : Alike a c t
    short_alike = go (ltb t.count 3) refl (eqb t.sum 255) refl (eqb t.first a) refl
      where
        go : (p : Bool) → ltb t.count 3 ≡ p → (u : Bool) → eqb t.sum 255 ≡ u → (v : Bool) → eqb t.first a ≡ v → Alike a c t
        go true e u g v h =
            both_refused TooShort
            (whole_is ∙ judge_by a c true (is_summed c) (eqb (address_in c) a) (ap (λ n. ltb n 3) (sym w.count) ∙ e) refl refl)
            (judged_by a t true false u v e long? g h)
        go false e false g v h =
            both_refused BadChecksum (content_by e false v g h) (judged_by a t false false false v e long? g h)
        go false e true g false h =
            both_refused OtherAddress (content_by e true false g h) (judged_by a t false false true false e long? g h)
        go false e true g true h =
            both_passed (long_enough e) most (content_by e true true g h)
            (judged_by a t false false true true e long? g h ∙ ap (λ n. Ok (n - 2)) w.count)

  long_alike : max_content < length c → Alike a c t
  long_alike h =
      both_refused TooLong
      (judge_whole_by a c true (lt-ltb max_content (length c) h))
      (judged_by a t false true (eqb t.sum 255) (eqb t.first a)
      (le-ltb t.count 3 (omega (arith, h, w.count)))
      (lt-ltb max_content t.count (omega (arith, h, w.count)))
      refl
      refl)

  pub alike : Alike a c t
  alike = go (ltb max_content (length c)) refl
    where
      go : (q : Bool) → ltb max_content (length c) ≡ q → Alike a c t
      go true e = long_alike (ltb-true max_content (length c) e)
      go false e = short_alike (ltb-false max_content (length c) e)

module _ (a : ℕ) (s c : List ℕ) (t : Tally) (open? : is_opened s ≡ true) (is : undouble false (drop 2 s) ≡ math.some c)
    (w : Tallies c t) (all : Bytes s) where
  reads : read_frame a s ≡ judge_whole a (math.some c)
  reads = read_frame_by a s true open? ∙ ap (judge_whole a) is

  content_bytes : Bytes c
  content_bytes =
      bytes_undouble c
      (bytes_left (double c) (DLE ∷ ETX ∷ [])
      (subst Bytes (double-undouble (drop 2 s) false c is) (bytes_drop 2 s all)))

  checks_tally : Checks a s (judged a t)
  checks_tally = go (alike a c t w content_bytes)
    where
      go : Alike a c t → Checks a s (judged a t)
      go (both_refused n e f) = rw f (reads ∙ e)
      go (both_passed l m e f) = rw f (checks_passed a s c (reads ∙ e) l)

-- What a pass over an opened string finds decides what is known of it.
pub checks_whole : (a : ℕ) (s : List ℕ) (t : Tally) → is_opened s ≡ true → Bytes s → ScanOf (undouble false (drop 2 s)) (Some t)
    → {r : Result ℕ Refusal} → r ≡ judged a t → Checks a s r
checks_whole a s t h all w {r} e = subst (Checks a s) (sym e) (go (undouble false (drop 2 s)) refl w)
  where
    go : (o : math.Option (List ℕ)) → undouble false (drop 2 s) ≡ o → ScanOf o (Some t) → Checks a s (judged a t)
    go math.none is w = absurd w
    go (math.some c) is w = checks_tally a s c t h is w all

-- What `read_front` emits: nothing on a refusal, and else the data that was copied.
pub front_refused : (a : ℕ) (s old : List ℕ) (e : Refusal) → Checks a s (Err e)
    → Emits (cut (length old) (read_frame a s)) old (refusal_number e) 0 old
front_refused a s old e h =
    let nothing : take (length old) [] ≡ [] = take-nil (length old) in
    rw h (record {
      number = refl;
      len = sym (ap length nothing);
      bytes = sym (ap (λ l. over l old) nothing ∙ over_nil old);
    })

pub front_data : (a : ℕ) (s : List ℕ) (n : ℕ) {w : ℕ} {old new : List ℕ} {size : ℕ} → Checks a s (Ok n) → w ≡ length (doubled a)
    → Put 0 (take (length old) (content_from n (drop (2 + w) s))) old size new
    → Emits (cut (length old) (read_frame a s)) old done size new
front_data a s n {w} {old} {new} {size} h e p =
    rw h (put_emits (subst (λ w. Put 0 (take (length old) (content_from n (drop (2 + w) s))) old size new) e p))

-- Where there is room for all data, nothing is cut off.
data-short : (a : ℕ) (s : List ℕ) → length (read_frame a s).payload ≤ max_data
data-short a s = go (eqb (read_frame a s).number done) refl
  where
    go : (t : Bool) → eqb (read_frame a s).number done ≡ t → length (read_frame a s).payload ≤ max_data
    go true e = (read_frame_only a s (eqb-true (read_frame a s).number done e)).size.most
    go false e = omega (arith, ap length (read_frame-refused a s (eqb-false (read_frame a s).number done e)))

pub front_whole : (a : ℕ) (s : List ℕ) {old new : List ℕ} {n size : ℕ} → max_data ≤ length old
    → Emits (cut (length old) (read_frame a s)) old n size new → Emits (read_frame a s) old n size new
front_whole a s {old} {new} {n} {size} h e =
    let all : take (length old) (read_frame a s).payload ≡ (read_frame a s).payload =
    take_all (length old) (read_frame a s).payload (omega (arith, data-short a s, h)) in
    record { number = e.number; len = e.len ∙ ap length all; bytes = e.bytes ∙ ap (λ l. over l old) all }
