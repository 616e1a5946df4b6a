-- Frames and datagrams: reading what was written gives it back, and only what was written is read.
-- Assumes nothing.
use Prim.Native.Nat.{ℕ, suc, ◌+◌, ◌-◌, ◌*◌, ◌≤◌}
use native.Mathlib.Omega.{arith}
use mathlib.Core.Path.{◌≡◌, refl, sym, ap, ap₂, subst, ◌∙◌}
use mathlib.Core.Bool.{Bool, true, false, cond, ◌&&◌, false≢true}
use mathlib.Core.List.{List, [], ◌∷◌, ◌++◌, append_assoc, append-nil}
use mathlib.Core.Option.{Option, none, some, none-ne-some, some-injective}
use borrow.Author.Tests.{eqb-true, eqb-false, ltb-true, ltb-false, eq-eqb, ne_eqb, le-ltb, le-leb}
use native.Mathlib.Nat.{not-suc-le-zero, le_of_suc-le-suc}
use lib.ListN.{length, get_or, take, drop, length-append}
use lib.Seq.{take_at, get_or_at}
use lib.Dec.{eqb, ltb, leb}
use Rattle.protocol.specs.Numbers.{done, no_preamble, bad_pair, too_short, too_long, bad_checksum, other_address, max_data, max_content, DLE, STX, ETX}
use Rattle.protocol.specs.Bytes.{Bytes, every}
use Rattle.protocol.proofs.TestLaws.{and_left, and_right, if_both, every_at}
use Rattle.protocol.proofs.ListLaws.{init_last, bytes_cons}
use Rattle.protocol.specs.Frame.{Received, doubled, double, undouble, push, at_end, checksum, content_of, address_in, data_in, checksum_in, received, refused, judge, judge_whole, read_frame, frame, wrap, Sized, size_number, if_sized, datagram, read_datagram, four_zeros}

pub double_nil : double [] ≡ []
unfolding double
double_nil = refl

-- One byte more, doubled or not.
pub double_dle : (b : ℕ) (bs : List ℕ) → eqb b DLE ≡ true → double (b ∷ bs) ≡ DLE ∷ DLE ∷ double bs
unfolding double
double_dle b bs e = rw e

pub double_lone : (b : ℕ) (bs : List ℕ) → eqb b DLE ≡ false → double (b ∷ bs) ≡ b ∷ double bs
unfolding double
double_lone b bs e = rw e

-- Bytes joined, and one byte more at the end.
pub double-append : (c d : List ℕ) → double (c ++ d) ≡ double c ++ double d
unfolding double
double-append [] d = refl
double-append (b ∷ c) d =
    ap (λ l. doubled b ++ l) (double-append c d) ∙ sym (append_assoc (doubled b) (double c) (double d))

pub double_snoc : (c : List ℕ) (b : ℕ) → double (c ++ b ∷ []) ≡ double c ++ doubled b
unfolding double
double_snoc c b = double-append c (b ∷ []) ∙ ap (λ l. double c ++ l) (append-nil (doubled b))

-- Doubled bytes take at most twice the room.
pub length-doubled : (b : ℕ) → length (doubled b) ≤ 2
length-doubled b = go (eqb b DLE)
  where
    go : (t : Bool) → length (cond t (DLE ∷ DLE ∷ []) (b ∷ [])) ≤ 2
    go true = omega arith
    go false = omega arith

pub length-double : (c : List ℕ) → length (double c) ≤ 2 * length c
unfolding double
length-double [] = omega arith
length-double (b ∷ c) = omega (arith, length-doubled b, length-double c, length-append (doubled b) (double c))

-- What bytes are the doubling of is bytes.
pub bytes_undouble : (c : List ℕ) → Bytes (double c) → Bytes c
bytes_undouble [] all = λ i. omega arith
bytes_undouble (b ∷ c) all = go (eqb b DLE) refl (bytes_undouble c)
  where
    go : (t : Bool) → eqb b DLE ≡ t → (Bytes (double c) → Bytes c) → Bytes (b ∷ c)
    go true e ih =
        let doubled : Bytes (DLE ∷ DLE ∷ double c) = subst Bytes (double_dle b c e) all in
        bytes_cons b c (rw (eqb-true b DLE e) (omega arith)) (ih (λ i. doubled (suc (suc i))))
    go false e ih =
        let alone : Bytes (b ∷ double c) = subst Bytes (double_lone b c e) all in
        bytes_cons b c (alone 0) (ih (λ i. alone (suc i)))

-- One byte read: alone, the first of a pair, and the second of one.
undouble_lone : (b : ℕ) (bs : List ℕ) → eqb b DLE ≡ false → undouble false (b ∷ bs) ≡ push b (undouble false bs)
unfolding undouble
undouble_lone b bs e = rw (e, undouble)

pub undouble_dle : (b : ℕ) (bs : List ℕ) → eqb b DLE ≡ true → undouble false (b ∷ bs) ≡ undouble true bs
unfolding undouble
undouble_dle b bs e = rw (e, undouble)

undouble-pair : (b : ℕ) (bs : List ℕ) → eqb b DLE ≡ true → undouble true (b ∷ bs) ≡ push DLE (undouble false bs)
unfolding undouble
undouble-pair b bs e = rw (e, undouble)

pub undouble_end : (b : ℕ) (bs : List ℕ) → eqb b DLE ≡ false → eqb b ETX ≡ true → undouble true (b ∷ bs) ≡ at_end bs
unfolding undouble
undouble_end b bs e h = rw (e, h, undouble)

pub undouble_bad : (b : ℕ) (bs : List ℕ) → eqb b DLE ≡ false → eqb b ETX ≡ false → undouble true (b ∷ bs) ≡ none
unfolding undouble
undouble_bad b bs e h = rw (e, h, undouble)

-- A content in front of what is still to be read.
abbrev pub prepend : List ℕ → Option (List ℕ) → Option (List ℕ)
prepend c none = none
prepend c (some d) = some (c ++ d)

prepend_nil : (o : Option (List ℕ)) → prepend [] o ≡ o
prepend_nil none = refl
prepend_nil (some d) = refl

prepend_cons : (b : ℕ) (c : List ℕ) (o : Option (List ℕ)) → push b (prepend c o) ≡ prepend (b ∷ c) o
prepend_cons b c none = refl
prepend_cons b c (some d) = refl

-- Doubled bytes read as what was doubled, in front of what the bytes behind them read as.
pub undouble_behind : (c r : List ℕ) → undouble false (double c ++ r) ≡ prepend c (undouble false r)
unfolding undouble double
undouble_behind [] r = sym (prepend_nil (undouble false r))
undouble_behind (b ∷ bs) r = go (undouble_behind bs r) (eqb b DLE) refl
  where
    go : undouble false (double bs ++ r) ≡ prepend bs (undouble false r) → (t : Bool) → eqb b DLE ≡ t
        → undouble false (double (b ∷ bs) ++ r) ≡ prepend (b ∷ bs) (undouble false r)
    go ih true e =
        rw (double_dle b bs e)
        (ap (push DLE) ih
        ∙ prepend_cons DLE bs (undouble false r)
        ∙ ap (λ x. prepend (x ∷ bs) (undouble false r)) (sym (eqb-true b DLE e)))
    go ih false e =
        rw (double_lone b bs e)
        (undouble_lone b (double bs ++ r) e ∙ ap (push b) ih ∙ prepend_cons b bs (undouble false r))

-- What ends with 10 03 reads as what was doubled before it.
pub undouble-double : (c : List ℕ) → undouble false (double c ++ DLE ∷ ETX ∷ []) ≡ some c
unfolding undouble
undouble-double c = undouble_behind c (DLE ∷ ETX ∷ []) ∙ ap some (append-nil c)

push_some : (b : ℕ) (o : Option (List ℕ)) (c : List ℕ) → push b o ≡ some c → (d : List ℕ) × (o ≡ some d) × (c ≡ b ∷ d)
push_some b none c h = absurd (none-ne-some _ h)
push_some b (some d) c h = (d, refl, sym (some-injective _ _ h))

at_end_some : (bs c : List ℕ) → at_end bs ≡ some c → (bs ≡ []) × (c ≡ [])
at_end_some [] c h = (refl, sym (some-injective _ _ h))
at_end_some (b ∷ bs) c h = absurd (none-ne-some _ h)

-- A 10h that waits stands in front of the bytes still to be read.
abbrev pub waiting : Bool → List ℕ → List ℕ
waiting true bs = DLE ∷ bs
waiting false bs = bs

-- The bytes of a content, as they stand before the end of a frame.
abbrev pub closing : List ℕ → List ℕ
closing l = l ++ DLE ∷ ETX ∷ []

abbrev pub ended : List ℕ → List ℕ
ended c = closing (double c)

-- What reads as a content is that content doubled, and 10 03.
pub double-undouble : (s : List ℕ) (w : Bool) (c : List ℕ) → undouble w s ≡ some c → waiting w s ≡ ended c
unfolding undouble
double-undouble [] true c h = absurd (none-ne-some _ h)
double-undouble [] false c h = absurd (none-ne-some _ h)
double-undouble (b ∷ bs) true c h = go (eqb b DLE) refl (eqb b ETX) refl (double-undouble bs false)
  where
    go : (t : Bool) → eqb b DLE ≡ t → (u : Bool) → eqb b ETX ≡ u
        → ((d : List ℕ) → undouble false bs ≡ some d → bs ≡ ended d) → DLE ∷ b ∷ bs ≡ ended c
    go true e u f ih =
        let p : (d : List ℕ) × (undouble false bs ≡ some d) × (c ≡ DLE ∷ d) =
        push_some DLE _ c (sym (undouble-pair b bs e) ∙ h) in
        ap (λ x. DLE ∷ x ∷ bs) (eqb-true b DLE e)
        ∙ ap (λ l. DLE ∷ DLE ∷ l) (ih p.0 p.1)
        ∙ sym (ap ended p.2 ∙ ap closing (double_dle DLE p.0 refl))
    go false e true f ih =
        let p : (bs ≡ []) × (c ≡ []) = at_end_some bs c (sym (undouble_end b bs e f) ∙ h) in
        ap (λ x. DLE ∷ x ∷ bs) (eqb-true b ETX f)
        ∙ ap (λ l. DLE ∷ ETX ∷ l) p.0
        ∙ sym (ap ended p.1 ∙ ap closing double_nil)
    go false e false f ih = absurd (none-ne-some _ (sym (undouble_bad b bs e f) ∙ h))
double-undouble (b ∷ bs) false c h = go (eqb b DLE) refl (double-undouble bs true) (double-undouble bs false)
  where
    go : (t : Bool) → eqb b DLE ≡ t → ((d : List ℕ) → undouble true bs ≡ some d → DLE ∷ bs ≡ ended d)
        → ((d : List ℕ) → undouble false bs ≡ some d → bs ≡ ended d) → b ∷ bs ≡ ended c
    go true e ih₁ ih₂ = ap (λ x. x ∷ bs) (eqb-true b DLE e) ∙ ih₁ c (sym (undouble_dle b bs e) ∙ h)
    go false e ih₁ ih₂ =
        let p : (d : List ℕ) × (undouble false bs ≡ some d) × (c ≡ b ∷ d) = push_some b _ c (sym (undouble_lone b bs e) ∙ h) in
        ap (λ l. b ∷ l) (ih₂ p.0 p.1) ∙ sym (ap ended p.2 ∙ ap closing (double_lone b p.0 e))

-- A content of at least two bytes is its address, its data and its checksum.
pub parts : (c : List ℕ) → 2 ≤ length c → c ≡ address_in c ∷ (data_in c ++ checksum_in c ∷ [])
parts [] h = absurd (not-suc-le-zero h)
parts (x ∷ []) h = absurd (not-suc-le-zero (le_of_suc-le-suc h))
parts (x ∷ y ∷ ys) h =
    let data_end : length (y ∷ ys) - 1 ≡ length (x ∷ y ∷ ys) - 2 = omega arith in
    let sum_at : suc (length (y ∷ ys) - 1) ≡ length (x ∷ y ∷ ys) - 1 = omega arith in
    ap (λ l. x ∷ l)
    (init_last (y ∷ ys) (omega arith)
    ∙ ap₂ (λ i j. take i (y ∷ ys) ++ get_or (x ∷ y ∷ ys) j 0 ∷ []) data_end sum_at)

-- A refusal is no 0.
pub never_done : {n : ℕ} {r : Received} → ltb 0 n ≡ true → r ≡ refused n → r.number ≡ done → ⊥
never_done {n} l e h = omega (arith, ltb-true 0 n l, sym (ap (λ r. r.number) e) ∙ h)

-- The parts of a content that is put together.
module _ (a : ℕ) (d : List ℕ) where
  pub length-content_of : length (content_of a d) ≡ length d + 2
  unfolding content_of
  length-content_of = omega (arith, length-append d (checksum (a ∷ d) ∷ []))

  data_in-content_of : data_in (content_of a d) ≡ d
  unfolding content_of
  data_in-content_of = take_at d (checksum (a ∷ d) ∷ []) (length (content_of a d) - 2) (omega (arith, length-content_of))

  checksum_in-content_of : checksum_in (content_of a d) ≡ checksum (a ∷ d)
  unfolding content_of
  checksum_in-content_of = get_or_at (a ∷ d) (checksum (a ∷ d)) [] 0 (length (content_of a d) - 1) (omega (arith, length-content_of))

  summed_content_of : take (length (content_of a d) - 1) (content_of a d) ≡ a ∷ d
  unfolding content_of
  summed_content_of = take_at (a ∷ d) (checksum (a ∷ d) ∷ []) (length (content_of a d) - 1) (omega (arith, length-content_of))

  address_in-content_of : address_in (content_of a d) ≡ a
  unfolding content_of
  address_in-content_of = refl

  -- A good content for its own address is judged 0, with its data.
  pub judge-content_of : 1 ≤ length d → judge a (content_of a d) ≡ received d
  unfolding judge
  judge-content_of h =
      let long : ltb (length (content_of a d)) 3 ≡ false = le-ltb (length (content_of a d)) 3 (omega (arith, length-content_of)) in
      let summed : eqb (checksum_in (content_of a d)) (checksum (take (length (content_of a d) - 1) (content_of a d))) ≡ true =
      eq-eqb _ _ (checksum_in-content_of ∙ sym (ap checksum summed_content_of)) in
      let ours : eqb (address_in (content_of a d)) a ≡ true = eq-eqb _ _ address_in-content_of in
      rw (long, summed, ours, data_in-content_of)

-- A content judged 0 is that of the address and of the data handed back with it.
pub record Good (a : ℕ) (c d : List ℕ) : Type 0 where
  pub content : c ≡ content_of a d
  pub least : 1 ≤ length d

-- The tests of `judge`, by name.
abbrev pub is_short : List ℕ → Bool
is_short c = ltb (length c) 3

abbrev pub is_summed : List ℕ → Bool
is_summed c = eqb (checksum_in c) (checksum (take (length c - 1) c))

-- What the checksum is taken of: address and data.
pub front : (c : List ℕ) → 2 ≤ length c → take (length c - 1) c ≡ address_in c ∷ data_in c
front [] h = absurd (not-suc-le-zero h)
front (x ∷ xs) h =
    let e : length (x ∷ xs) - 1 ≡ suc (length (x ∷ xs) - 2) = omega arith in
    ap (λ n. take n (x ∷ xs)) e

-- The parts of a content whose tests pass make it up again.
good : (a : ℕ) (c : List ℕ) → 3 ≤ length c → checksum_in c ≡ checksum (take (length c - 1) c) → address_in c ≡ a
    → Good a c (data_in c)
unfolding content_of
good a c h s e =
    let long : 2 ≤ length c = omega arith in
    record {
      content =
          parts c long
          ∙ ap₂ (λ p k. p ∷ (data_in c ++ k ∷ [])) e (s ∙ ap checksum (front c long ∙ ap (λ p. p ∷ data_in c) e));
      least = omega (arith, ap length (parts c long), length-append (data_in c) (checksum_in c ∷ []));
    }

-- `judge`, by the outcome of its tests.
pub judge_by : (a : ℕ) (c : List ℕ) (t u v : Bool) → is_short c ≡ t → is_summed c ≡ u → eqb (address_in c) a ≡ v
    → judge a c ≡ cond t (refused too_short) (cond u (cond v (received (data_in c)) (refused other_address)) (refused bad_checksum))
unfolding judge
judge_by a c t u v s p q = rw (s, p, q)

pub judge_only : (a : ℕ) (c : List ℕ) → (judge a c).number ≡ done → Good a c (judge a c).payload
judge_only a c h = go (is_short c) refl (is_summed c) refl (eqb (address_in c) a) refl
  where
    go : (t : Bool) → is_short c ≡ t → (u : Bool) → is_summed c ≡ u → (v : Bool) → eqb (address_in c) a ≡ v
        → Good a c (judge a c).payload
    go true s u p v q = absurd (never_done refl (judge_by a c true u v s p q) h)
    go false s false p v q = absurd (never_done refl (judge_by a c false false v s p q) h)
    go false s true p false q = absurd (never_done refl (judge_by a c false true false s p q) h)
    go false s true p true q =
        rw (judge_by a c false true true s p q) (good a c (ltb-false _ _ s) (eqb-true _ _ p) (eqb-true _ _ q))

-- The whole string. Its reading, by the outcome of the test on its first two bytes.
pub read_frame-wrap : (a : ℕ) (c : List ℕ) → read_frame a (wrap c) ≡ judge_whole a (some c)
unfolding read_frame wrap
read_frame-wrap a c = ap (judge_whole a) (undouble-double c)

-- The frame of data of 1 to 256 bytes is read, for its own address, as that data.
pub read_frame-frame : (a : ℕ) (d : List ℕ) → Sized d → read_frame a (frame a d) ≡ received d
unfolding frame judge_whole
read_frame-frame a d h =
    let fits : ltb max_content (length (content_of a d)) ≡ false =
    le-ltb max_content (length (content_of a d)) (omega (arith, length-content_of a d)) in
    read_frame-wrap a (content_of a d) ∙ rw fits (judge-content_of a d h.least)

-- A string or datagram that is read as data is the written form of that data, whose size is right.
pub record Written (form : List ℕ → List ℕ) (s d : List ℕ) : Type 0 where
  pub written : s ≡ form d
  pub size : Sized d

pub judge_whole_by : (a : ℕ) (c : List ℕ) (t : Bool) → ltb max_content (length c) ≡ t
    → judge_whole a (some c) ≡ cond t (refused too_long) (judge a c)
unfolding judge_whole
judge_whole_by a c t e = rw e

-- The content that a string stands for, where its rows 3 to 7 all pass.
pub record Whole (a : ℕ) (o : Option (List ℕ)) (d : List ℕ) : Type 0 where
  pub content : List ℕ
  pub is : o ≡ some content
  pub good : Good a content d
  pub most : length content ≤ max_content

judge_whole_only : (a : ℕ) (o : Option (List ℕ)) → (judge_whole a o).number ≡ done → Whole a o (judge_whole a o).payload
unfolding judge_whole
judge_whole_only a none h = absurd (omega (arith, h))
judge_whole_only a (some c) h = go (ltb max_content (length c)) refl
  where
    go : (t : Bool) → ltb max_content (length c) ≡ t → Whole a (some c) (judge_whole a (some c)).payload
    go true e = absurd (never_done refl (judge_whole_by a c true e) h)
    go false e =
        record {
          content = c;
          is = refl;
          good = rw e (judge_only a c (sym (ap (λ r. r.number) (judge_whole_by a c false e)) ∙ h));
          most = ltb-false max_content (length c) e;
        }

-- The test on the first two bytes.
abbrev pub is_opened : List ℕ → Bool
is_opened s = eqb (get_or s 0 0) DLE && eqb (get_or s 1 0) STX

pub opened : (s : List ℕ) → is_opened s ≡ true → s ≡ DLE ∷ STX ∷ drop 2 s
opened [] h = absurd (false≢true h)
opened (x ∷ []) h = absurd (false≢true (and_right (eqb x DLE) false h))
opened (x ∷ y ∷ ys) h =
    ap₂ (λ p q. p ∷ q ∷ ys)
    (eqb-true x DLE (and_left (eqb x DLE) (eqb y STX) h))
    (eqb-true y STX (and_right (eqb x DLE) (eqb y STX) h))

pub read_frame_by : (a : ℕ) (s : List ℕ) (t : Bool) → is_opened s ≡ t
    → read_frame a s ≡ cond t (judge_whole a (undouble false (drop 2 s))) (refused no_preamble)
unfolding read_frame
read_frame_by a s t e = rw e

-- A string that is read for an address with 0 is the frame, for that address, of the data read.
pub read_frame_only : (a : ℕ) (s : List ℕ) → (read_frame a s).number ≡ done → Written (frame a) s (read_frame a s).payload
unfolding frame wrap
read_frame_only a s h = go (is_opened s) refl
  where
    go : (t : Bool) → is_opened s ≡ t → Written (frame a) s (read_frame a s).payload
    go false e = absurd (never_done refl (read_frame_by a s false e) h)
    go true e =
        let o : Option (List ℕ) = undouble false (drop 2 s) in
        let w : Whole a o (judge_whole a o).payload =
        judge_whole_only a o (sym (ap (λ r. r.number) (read_frame_by a s true e)) ∙ h) in
        let most : length (judge_whole a o).payload ≤ max_data =
        omega (arith, w.most, ap length w.good.content, length-content_of a (judge_whole a o).payload) in
        rw (read_frame_by a s true e)
        (record {
          written =
              opened s e
              ∙ ap (λ l. DLE ∷ STX ∷ l) (double-undouble (drop 2 s) false w.content w.is)
              ∙ ap wrap w.good.content;
          size = record { least = w.good.least; most = most };
        })

-- No string is the frame of two contents, nor of two addresses or two data.
pub wrap_injective : (c c' : List ℕ) → wrap c ≡ wrap c' → c ≡ c'
unfolding wrap
wrap_injective c c' h =
    some-injective _ _
    (sym (undouble-double c) ∙ ap (λ s. undouble false (drop 2 s)) h ∙ undouble-double c')

pub frame_injective : (a a' : ℕ) (d d' : List ℕ) → frame a d ≡ frame a' d' → (a ≡ a') × (d ≡ d')
unfolding frame
frame_injective a a' d d' h =
    let c : content_of a d ≡ content_of a' d' = wrap_injective (content_of a d) (content_of a' d') h in (
      sym (address_in-content_of a d) ∙ ap address_in c ∙ address_in-content_of a' d',
      sym (data_in-content_of a d) ∙ ap data_in c ∙ data_in-content_of a' d',
    )

-- Rows 4 and 5 of data.
pub size_done : (d : List ℕ) → Sized d → size_number (length d) ≡ done
unfolding size_number
size_done d h =
    rw (ne_eqb (length d) 0 (λ e. omega (arith, h.least, e)), le-ltb max_data (length d) h.most)

pub if_sized-sized : (d : List ℕ) (r : Received) → Sized d → if_sized d r ≡ r
unfolding if_sized
if_sized-sized d r h = rw (size_done d h)

size_number_by : (n : ℕ) (t u : Bool) → eqb n 0 ≡ t → ltb max_data n ≡ u → size_number n ≡ cond t too_short (cond u too_long done)
unfolding size_number
size_number_by n t u e f = rw (e, f)

pub size_only : (d : List ℕ) → size_number (length d) ≡ done → Sized d
size_only d h = go (eqb (length d) 0) refl (ltb max_data (length d)) refl
  where
    go : (t : Bool) → eqb (length d) 0 ≡ t → (u : Bool) → ltb max_data (length d) ≡ u → Sized d
    go true e u f = absurd (omega (arith, sym (size_number_by (length d) true u e f) ∙ h))
    go false e true f = absurd (omega (arith, sym (size_number_by (length d) false true e f) ∙ h))
    go false e false f =
        record { least = omega (arith, eqb-false (length d) 0 e); most = ltb-false max_data (length d) f }

if_sized_only : (d : List ℕ) (r : Received) → (if_sized d r).number ≡ done → (if_sized d r ≡ r) × Sized d
unfolding if_sized
if_sized_only d r h = go (eqb (size_number (length d)) done) refl
  where
    go : (t : Bool) → eqb (size_number (length d)) done ≡ t → (if_sized d r ≡ r) × Sized d
    go true e = (rw e, size_only d (eqb-true (size_number (length d)) done e))
    go false e = let n : size_number (length d) ≡ done = rw e at h in absurd (eqb-false (size_number (length d)) done e n)

-- Datagrams: the same of four zeros and the data.
pub read_datagram-datagram : (d : List ℕ) → Sized d → read_datagram (datagram d) ≡ received d
unfolding read_datagram datagram every
read_datagram-datagram d h = rw (le-leb 4 (length (datagram d)) (omega arith)) (if_sized-sized d (received d) h)

zeros : (s : List ℕ) → four_zeros s ≡ true → s ≡ datagram (drop 4 s)
unfolding datagram every
zeros [] h = absurd (false≢true h)
zeros (a ∷ []) h = absurd (false≢true h)
zeros (a ∷ b ∷ []) h = absurd (false≢true h)
zeros (a ∷ b ∷ c ∷ []) h = absurd (false≢true h)
zeros (a ∷ b ∷ c ∷ d ∷ bs) h =
    let all : every (λ x. eqb x 0) (a ∷ b ∷ c ∷ d ∷ []) ≡ true = and_right (leb 4 (length (a ∷ b ∷ c ∷ d ∷ bs))) _ h in
    let zero_at_lem : (k : ℕ) → get_or (a ∷ b ∷ c ∷ d ∷ []) k 0 ≡ 0 =
    λ k. eqb-true _ 0 (every_at (λ x. eqb x 0) (a ∷ b ∷ c ∷ d ∷ []) 0 all refl k) in
    cc (zero_at_lem 0, zero_at_lem 1, zero_at_lem 2, zero_at_lem 3)

pub read_datagram_by : (s : List ℕ) (t : Bool) → four_zeros s ≡ t → read_datagram s ≡ cond t (if_sized (drop 4 s) (received (drop 4 s))) (refused no_preamble)
unfolding read_datagram
read_datagram_by s t e = rw e

pub read_datagram_only : (s : List ℕ) → (read_datagram s).number ≡ done → Written datagram s (read_datagram s).payload
read_datagram_only s h = go (four_zeros s) refl
  where
    go : (t : Bool) → four_zeros s ≡ t → Written datagram s (read_datagram s).payload
    go false e = absurd (never_done refl (read_datagram_by s false e) h)
    go true e =
        let d : List ℕ = drop 4 s in
        let p : (if_sized d (received d) ≡ received d) × Sized d =
        if_sized_only d (received d) (sym (ap (λ r. r.number) (read_datagram_by s true e)) ∙ h) in
        rw (read_datagram_by s true e ∙ p.0) (record { written = zeros s e; size = p.1 })

pub datagram_injective : (d d' : List ℕ) → datagram d ≡ datagram d' → d ≡ d'
unfolding datagram
datagram_injective d d' h = ap (drop 4) h

-- A refusal hands no data back.
record Plain (r : Received) : Type 0 where
  none_back : (r.number ≡ done → ⊥) → r.payload ≡ []

received-plain : (d : List ℕ) → Plain (received d)
received-plain d = record { none_back = λ h. absurd (h refl) }

refused-plain : (n : ℕ) → Plain (refused n)
refused-plain n = record { none_back = λ h. refl }

judge-plain : (a : ℕ) (c : List ℕ) → Plain (judge a c)
unfolding judge
judge-plain a c =
    if_both Plain (is_short c) (refused-plain too_short)
    (if_both Plain (is_summed c)
    (if_both Plain (eqb (address_in c) a) (received-plain (data_in c)) (refused-plain other_address))
    (refused-plain bad_checksum))

judge_whole-plain : (a : ℕ) (o : Option (List ℕ)) → Plain (judge_whole a o)
unfolding judge_whole
judge_whole-plain a none = refused-plain bad_pair
judge_whole-plain a (some c) = if_both Plain (ltb max_content (length c)) (refused-plain too_long) (judge-plain a c)

pub read_frame-refused : (a : ℕ) (s : List ℕ) → ((read_frame a s).number ≡ done → ⊥) → (read_frame a s).payload ≡ []
unfolding read_frame
read_frame-refused a s =
    (if_both Plain (is_opened s) (judge_whole-plain a (undouble false (drop 2 s))) (refused-plain no_preamble)).none_back

if_sized-plain : (d : List ℕ) → Plain (if_sized d (received d))
unfolding if_sized
if_sized-plain d =
    if_both Plain (eqb (size_number (length d)) done) (received-plain d) (refused-plain (size_number (length d)))

pub read_datagram-refused : (s : List ℕ) → ((read_datagram s).number ≡ done → ⊥) → (read_datagram s).payload ≡ []
unfolding read_datagram
read_datagram-refused s =
    (if_both Plain (four_zeros s) (if_sized-plain (drop 4 s)) (refused-plain no_preamble)).none_back
