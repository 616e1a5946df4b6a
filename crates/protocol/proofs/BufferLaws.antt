-- Lent buffers: bytes put one behind the other, from a place on or at the front.
-- Assumes nothing.
use Prim.Native.Nat.{ℕ, suc, ◌+◌, ◌-◌, ◌<◌, ◌≤◌}
use native.Mathlib.Omega.{arith}
use native.Mathlib.Nat.{zero-add, add-zero, add_assoc}
use native.Mathlib.Numerals.{add-one}
use native.Mathlib.Decide.{dec_le}
use mathlib.Core.Path.{◌≡◌, refl, sym, ap, ap₂, subst, ◌∙◌}
use mathlib.Core.List.{List, [], ◌∷◌, ◌++◌, append_assoc, append-nil}
use borrow.Rule.Slice.PartMut.{put_mid}
use borrow.Author.Tests.{lt-ltb, le-ltb, eq-eqb, ne_eqb}
use lib.ListN.{length, get_or, take, drop, set, take-append-drop, drop_of_length-le, length-append, length-take, length-drop}
use lib.Seq.{take_all, take-append-le, take-append-add, take-suc, length-take-le, set_split, sets-eq, take_at, drop-drop, drop-append-add}
use Rattle.protocol.specs.Buffer.{put_at, over, fitting, Put, Emits}
use Rattle.protocol.specs.Numbers.{done, no_room}
use Rattle.protocol.specs.Frame.{Received, received, refused, size_number, if_sized, if_room}

-- One byte stored is one byte put.
pub set_put : (xs : List ℕ) (at b : ℕ) → at < length xs → set xs at b ≡ put_at at (b ∷ []) xs
unfolding put_at
set_put xs at b h = set_split xs at b h ∙ ap (λ n. take at xs ++ b ∷ drop n xs) (sym (add-one at))

-- Four bytes stored are four bytes put.
pub put_four : (xs : List ℕ) (at a b c d : ℕ) → at + 4 ≤ length xs
    → set (set (set (set xs at a) (at + 1) b) (at + 2) c) (at + 3) d ≡ put_at at (a ∷ b ∷ c ∷ d ∷ []) xs
unfolding put_at
put_four xs at a b c d h =
    let one : at + 1 ≡ suc at = omega arith in
    let two : at + 2 ≡ suc (suc at) = omega arith in
    let three : at + 3 ≡ suc (suc (suc at)) = omega arith in
    rw (one, two, three)
    (sets-eq (a ∷ b ∷ c ∷ d ∷ []) xs at h ∙ append_assoc (take at xs) (a ∷ b ∷ c ∷ d ∷ []) (drop (at + 4) xs))

-- Bytes put behind others.
pub put_behind : (xs : List ℕ) (at : ℕ) (ys zs : List ℕ) → put_at (length xs + at) ys (xs ++ zs) ≡ xs ++ put_at at ys zs
unfolding put_at
put_behind xs at ys zs =
    ap₂ (λ l r. l ++ (ys ++ r)) (take-append-add xs zs at)
    (ap (λ n. drop n (xs ++ zs)) (add_assoc (length xs) at (length ys)) ∙ drop-append-add xs zs (at + length ys))
    ∙ append_assoc xs (take at zs) (ys ++ drop (at + length ys) zs)

module _ (xs : List ℕ) (at : ℕ) (ys : List ℕ) where
  pub length_put : at + length ys ≤ length xs → length (put_at at ys xs) ≡ length xs
  unfolding put_at
  length_put h =
      omega (
        arith,
        length-append (take at xs) (ys ++ drop (at + length ys) xs),
        length-append ys (drop (at + length ys) xs),
        length-take at xs,
        length-drop (at + length ys) xs,
      )

  -- One list behind the other.
  pub put_put : (zs : List ℕ) → at ≤ length xs → put_at (at + length ys) zs (put_at at ys xs) ≡ put_at at (ys ++ zs) xs
  unfolding put_at
  put_put zs h =
      let front : List ℕ = take at xs in
      let rest : List ℕ = drop (at + length ys) xs in
      let n : length (front ++ ys) ≡ at + length ys = omega (arith, length-append front ys, length-take at xs) in
      let joined : front ++ (ys ++ rest) ≡ (front ++ ys) ++ rest = sym (append_assoc front ys rest) in
      let kept : take (at + length ys) (front ++ (ys ++ rest)) ≡ front ++ ys =
      ap (take (at + length ys)) joined ∙ take_at (front ++ ys) rest (at + length ys) n in
      let past : drop (at + length ys + length zs) (front ++ (ys ++ rest)) ≡ drop (at + length (ys ++ zs)) xs =
      ap₂ drop (ap (λ m. m + length zs) (sym n)) joined
      ∙ drop-append-add (front ++ ys) rest (length zs)
      ∙ drop-drop (length zs) (at + length ys) xs
      ∙ ap (λ m. drop m xs) (add_assoc at (length ys) (length zs) ∙ ap (λ m. at + m) (sym (length-append ys zs))) in
      ap₂ (λ l r. l ++ (zs ++ r)) kept past
      ∙ append_assoc front ys (zs ++ drop (at + length (ys ++ zs)) xs)
      ∙ ap (λ l. front ++ l) (sym (append_assoc ys zs (drop (at + length (ys ++ zs)) xs)))

-- At the front.
pub over_put : (ys xs : List ℕ) → put_at 0 ys xs ≡ over ys xs
unfolding put_at over
over_put ys xs = ap (λ n. ys ++ drop n xs) (zero-add (length ys))

pub over_nil : (xs : List ℕ) → over [] xs ≡ xs
unfolding over
over_nil xs = refl

-- What was written is read off the front.
pub over_front : (x old : List ℕ) {n : ℕ} {new : List ℕ} → n ≡ length x → new ≡ over x old → take n new ≡ x
unfolding over
over_front x old {n} e h = ap (take n) h ∙ take_at x (drop (length x) old) n (sym e)

-- Nothing put.
pub put_nil : (at : ℕ) (xs : List ℕ) → Put at [] xs at xs
unfolding put_at
put_nil at xs =
    record {
      next = omega arith;
      bytes = sym (ap (λ n. take at xs ++ drop n xs) (add-zero at) ∙ take-append-drop at xs);
    }

-- Data that was put, for what it is.
pub put_as : {at r : ℕ} {ys zs old new : List ℕ} → ys ≡ zs → Put at ys old r new → Put at zs old r new
put_as {at} {r} {old = old} {new = new} e p = subst (λ l. Put at l old r new) e p

pub fit_as : {at r : ℕ} {ys zs old new : List ℕ} → ys ≡ zs → Put at (fitting at ys old) old r new → Put at (fitting at zs old) old r new
fit_as {at} {r} {old = old} {new = new} e p = subst (λ l. Put at (fitting at l old) old r new) e p

-- A helper's bytes behind those of another.
pub puts : {at r r' : ℕ} {ys zs old mid new : List ℕ} → at ≤ length old → Put at ys old r mid → Put r zs mid r' new
    → Put at (ys ++ zs) old r' new
puts {at} {r} {r'} {ys} {zs} {old} {mid} {new} h p q =
    record {
      next = omega (arith, p.next, q.next, length-append ys zs);
      bytes = q.bytes ∙ ap₂ (λ n b. put_at n zs b) p.next p.bytes ∙ put_put old at ys zs h;
    }

-- Bytes put one behind the other, from a place on.
pub record Filling (bs old : List ℕ) (at : ℕ) (out : List ℕ) (next i : ℕ) : Type 0 where
  pub within : i ≤ length bs
  pub room : i ≤ length old - at
  pub same_length : length out ≡ length old
  pub put : Put at (take i bs) old next out

module _ (bs old : List ℕ) (at : ℕ) where
  pub fill_begins : Filling bs old at old at 0
  fill_begins = record { within = omega arith; room = omega arith; same_length = refl; put = put_nil at old }

  fill_next : {out : List ℕ} {next i : ℕ} → Filling bs old at out next i → next ≡ at + i
  fill_next {i = i} f = f.put.next ∙ ap (λ n. at + n) (length-take-le i bs f.within)

  pub fill_more : {out out' : List ℕ} {next next' i : ℕ} → Filling bs old at out next i → i < length bs → next < length out
      → Put next (get_or bs i 0 ∷ []) out next' out' → Filling bs old at out' next' (i + 1)
  fill_more {out} {out'} {next} {next'} {i} f h l p =
      record {
        within = omega arith;
        room = omega (arith, fill_next f, f.same_length, l);
        same_length = ap length p.bytes ∙ length_put out next (get_or bs i 0 ∷ []) (omega (arith, l)) ∙ f.same_length;
        put =
            subst (λ l. Put at l old next' out')
            (sym (ap (λ n. take n bs) (add-one i) ∙ take-suc bs i 0 h))
            (puts (omega (arith, fill_next f, f.same_length, l)) f.put p);
      }

  -- It ends where there is no room, or with the last byte.
  pub fill_full : {out : List ℕ} {next i : ℕ} → Filling bs old at out next i → length old ≤ next → Put at (fitting at bs old) old next out
  fill_full {out} {next} {i} f h =
      let full : i ≡ length old - at = omega (arith, fill_next f, f.room, h) in
      subst (λ n. Put at (take n bs) old next out) full f.put

  pub fill_ends : {out : List ℕ} {next i : ℕ} → Filling bs old at out next i → length bs ≤ i → Put at (fitting at bs old) old next out
  fill_ends {out} {next} {i} f h =
      subst (λ l. Put at l old next out) (take_all i bs h ∙ sym (take_all (length old - at) bs (omega (arith, f.room, h)))) f.put

-- The room that is left behind what was put.
pub put_room : {at r : ℕ} {ys old new : List ℕ} → Put at ys old r new → (k : ℕ) → at + length ys + k ≤ length old → r + k ≤ length new
put_room {at} {r} {ys} {old} p k h =
    omega (arith, p.next, ap length p.bytes ∙ length_put old at ys (omega arith))

-- Bytes that were put as far as there was room, where there is room for all.
pub put_fits : {at r : ℕ} {ys old new : List ℕ} → at + length ys ≤ length old → Put at (fitting at ys old) old r new → Put at ys old r new
put_fits {at} {r} {ys} {old} {new} h p = subst (λ l. Put at l old r new) (take_all (length old - at) ys (omega (arith, h))) p

pub no_room_lem : (n m : ℕ) → n ≤ m → n - m ≡ 0
no_room_lem n m h = omega arith

-- The same behind other bytes.
pub puts_fit : {at r r' : ℕ} {ys old mid new : List ℕ} (zs : List ℕ) → Put at ys old r mid → at + length ys + length zs ≤ length old
    → Put r (fitting r zs mid) mid r' new → Put at (ys ++ zs) old r' new
puts_fit zs p h q = puts (omega arith) p (put_fits (put_room p (length zs) h) q)

-- Bytes put as far as there is room, and others behind them likewise: as both together.
pub fits_join : {at r r' : ℕ} {old mid new : List ℕ} (ys zs : List ℕ) → Put at (fitting at ys old) old r mid → Put r (fitting r zs mid) mid r' new
    → Put at (fitting at (ys ++ zs) old) old r' new
fits_join {at} {r} {r'} {old} {mid} {new} ys zs p q = go (dec_le (at + length ys) (length old))
  where
    full : length old ≤ at + length ys → at ≤ length old → Put at (fitting at (ys ++ zs) old) old r' new
    full h k =
        let size : length (fitting at ys old) ≡ length old - at = length-take-le (length old - at) ys (omega arith) in
        let same_size : length mid ≡ length old = ap length p.bytes ∙ length_put old at (fitting at ys old) (omega (arith, size)) in
        let none : fitting r zs mid ≡ [] = ap (λ n. take n zs) (no_room_lem (length mid) r (omega (arith, p.next, size, same_size))) in
        let both : Put at (fitting at ys old ++ []) old r' new =
        puts k p (subst (λ l. Put r l mid r' new) none q) in
        subst (λ l. Put at l old r' new) (append-nil (fitting at ys old) ∙ sym (take-append-le (length old - at) ys zs (omega (arith, h)))) both

    past : length old < at → Put at (fitting at (ys ++ zs) old) old r' new
    past h =
        let shut : (l : List ℕ) → fitting at l old ≡ [] = λ l. ap (λ n. take n l) (no_room_lem (length old) at (omega (arith, h))) in
        let first : Put at [] old r mid = subst (λ l. Put at l old r mid) (shut ys) p in
        let is : mid ≡ old = first.bytes ∙ sym (put_nil at old).bytes in
        let next : r ≡ at = omega (arith, first.next) in
        let second : Put at (fitting at zs old) old r' new = subst (λ l. Put at (fitting at zs l) l r' new) is (subst (λ i. Put i (fitting i zs mid) mid r' new) next q) in
        subst (λ l. Put at l old r' new) (shut zs ∙ sym (shut (ys ++ zs))) second

    whole : at + length ys ≤ length old → Put at (fitting at (ys ++ zs) old) old r' new
    whole h =
        let first : Put at ys old r mid = put_fits h p in
        let same_size : length mid ≡ length old = ap length first.bytes ∙ length_put old at ys h in
        let room : length mid - r ≡ length old - at - length ys = omega (arith, first.next, same_size) in
        let sum : length old - at ≡ length ys + (length old - at - length ys) = omega (arith, h) in
        subst (λ l. Put at l old r' new)
        (ap (λ n. ys ++ take n zs) room ∙ sym (ap (λ n. take n (ys ++ zs)) sum ∙ take-append-add ys zs (length old - at - length ys)))
        (puts (omega arith) first q)

    go : Dec (at + length ys ≤ length old) → Put at (fitting at (ys ++ zs) old) old r' new
    go (yes h) = whole h
    go (no h) = short (dec_le at (length old))
      where
        short : Dec (at ≤ length old) → Put at (fitting at (ys ++ zs) old) old r' new
        short (yes k) = full (omega (arith, h)) k
        short (no k) = past (omega (arith, k))

-- What was put from the front on is what a call emits.
pub put_emits : {r : ℕ} {ys old new : List ℕ} → Put 0 ys old r new → Emits (received ys) old done r new
put_emits {ys = ys} {old = old} p =
    record { number = refl; len = omega (arith, p.next); bytes = p.bytes ∙ over_put ys old }

-- A refusal, which leaves the output as lent; 8; the other numbers where there is room; 4 and 5; and data of a good size.
pub emits_refused : (n : ℕ) (old : List ℕ) → Emits (refused n) old n 0 old
emits_refused n old = record { number = refl; len = refl; bytes = sym (over_nil old) }

pub emits_no_room : (least room : ℕ) (w : Received) (old : List ℕ) → room < least → Emits (if_room least room w) old no_room 0 old
unfolding if_room
emits_no_room least room w old h = rw (lt-ltb room least h) (emits_refused no_room old)

pub emits_in_room : {least room : ℕ} {w : Received} {old new : List ℕ} {n size : ℕ} → least ≤ room → Emits w old n size new
    → Emits (if_room least room w) old n size new
unfolding if_room
emits_in_room {least} {room} h e = rw (le-ltb room least h) e

pub emits_unsized : (bs : List ℕ) (w : Received) (old : List ℕ) {n : ℕ} → n ≡ size_number (length bs) → (n ≡ done → ⊥)
    → Emits (if_sized bs w) old n 0 old
unfolding if_sized
emits_unsized bs w old {n} e h =
    rw (ne_eqb (size_number (length bs)) done (λ d. h (e ∙ d)))
    (subst (λ m. Emits (refused m) old n 0 old) e (emits_refused n old))

pub emits_sized : (bs : List ℕ) {w : Received} {old new : List ℕ} {n size : ℕ} → size_number (length bs) ≡ done → Emits w old n size new
    → Emits (if_sized bs w) old n size new
unfolding if_sized
emits_sized bs h e = rw (eq-eqb (size_number (length bs)) done h) e

-- A part of a buffer that starts in its middle and goes to its end: as it is lent, and as it comes back.
pub part_lent : (a : ℕ) (xs : List ℕ) → take (length xs - a) (drop a xs) ≡ drop a xs
part_lent a xs = take_all (length xs - a) (drop a xs) (omega (arith, length-drop a xs))

pub part_back : (a : ℕ) (xs ys : List ℕ) → a ≤ length xs → put_mid a (length xs - a) xs ys ≡ take a xs ++ ys
part_back a xs ys h =
    ap (λ l. take a xs ++ (ys ++ l)) (drop_of_length-le (drop a xs) {i = length xs - a} (omega (arith, length-drop a xs)))
    ∙ ap (λ l. take a xs ++ l) (append-nil ys)
