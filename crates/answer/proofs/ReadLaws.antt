-- What a reading's number tells: rows 2 to 7 of the string, rows 10 and 11 of its data, or a request.
-- Assumes nothing.
use Prim.Native.Nat.{ℕ, ◌-◌, ◌<◌, ◌≤◌}
use native.Mathlib.Omega.{arith}
use mathlib.Core.Path.{◌≡◌, refl, sym, ap, ◌∙◌}
use mathlib.Core.Bool.{Bool, true, false, cond, ◌&&◌}
use mathlib.Core.List.{List}
use mathlib.Core.Option.{Option, none, some}
use borrow.Author.Tests.{eqb-true, eqb-false, ltb-true, ltb-false, lt-ltb, eq-eqb, ne_eqb}
use lib.ListN.{length, get_or, take, drop}
use lib.Dec.{eqb, ltb}
use Rattle.std.specs.Prelude.{Result}
use Rattle.protocol.specs.declared.Refusal.{Refusal}
use Rattle.protocol.specs.Numbers.{done, disabled, too_short, too_long, bad_checksum, other_address, bad_pair, no_preamble, DLE, STX, max_data, max_content}
use Rattle.protocol.specs.Frame.{Received, received, refused, size_number, if_sized, judge, judge_whole, undouble, read_frame, read_datagram, four_zeros, checksum, address_in, data_in, checksum_in}
use Rattle.protocol.specs.Request.{declined, read_request, read_payload}
use Rattle.protocol.proofs.TestLaws.{and_left, and_right, if_both}
use Rattle.protocol.proofs.AnswerLaws.{read_request-fits}
use Rattle.protocol.proofs.RequestLaws.{read_payload_by}
use Rattle.request.specs.declared.Request.{Request}
use Rattle.request.specs.Asked.{asked_of, AskedIs}
use Rattle.answer.specs.Steps.{of_string}

-- A string or datagram: its number comes before 9.
pub record Early (r : Received) : Type 0 where
  pub early : r.number < disabled

early_refused : (n : ℕ) → n < disabled → Early (refused n)
early_refused n h = record { early = h }

early_received : (bs : List ℕ) → Early (received bs)
early_received bs = record { early = omega arith }

early_judge : (a : ℕ) (content : List ℕ) → Early (judge a content)
unfolding judge
early_judge a content =
    if_both Early (ltb (length content) 3)
    (early_refused too_short (omega arith))
    (if_both Early (eqb (checksum_in content) (checksum (take (length content - 1) content)))
    (if_both Early (eqb (address_in content) a) (early_received (data_in content)) (early_refused other_address (omega arith)))
    (early_refused bad_checksum (omega arith)))

early_whole : (a : ℕ) (o : Option (List ℕ)) → Early (judge_whole a o)
unfolding judge_whole
early_whole a none = early_refused bad_pair (omega arith)
early_whole a (some content) = if_both Early (ltb max_content (length content)) (early_refused too_long (omega arith)) (early_judge a content)

pub early_frame : (a : ℕ) (s : List ℕ) → Early (read_frame a s)
unfolding read_frame
early_frame a s =
    if_both Early (eqb (get_or s 0 0) DLE && eqb (get_or s 1 0) STX)
    (early_whole a (undouble false (drop 2 s)))
    (early_refused no_preamble (omega arith))

pub early_sized : (bs : List ℕ) → Early (if_sized bs (received bs))
unfolding if_sized size_number
early_sized bs = go (eqb (length bs) 0) (ltb max_data (length bs))
  where
    go : (t u : Bool) → Early (cond (eqb (cond t too_short (cond u too_long done)) done) (received bs) (refused (cond t too_short (cond u too_long done))))
    go true u = early_refused too_short (omega arith)
    go false true = early_refused too_long (omega arith)
    go false false = early_received bs

pub early_datagram : (s : List ℕ) → Early (read_datagram s)
unfolding read_datagram
early_datagram s = if_both Early (four_zeros s) (early_sized (drop 4 s)) (early_refused no_preamble (omega arith))

-- A string or datagram that was read: where the number is one of rows 2 to 7 it is that of the string; else the string is good,
-- and what was read is its data.
pub record Refused (r : Received) (n : ℕ) : Type 0 where
  pub number : n ≡ r.number
  pub bad : r.number ≡ done → ⊥

pub record Read (r : Received) (x : Result Request Refusal) : Type 0 where
  pub good : r.number ≡ done
  pub is : asked_of x ≡ read_request r.payload

module _ (r : Received) (early : Early r) {x : Result Request Refusal} (h : AskedIs (read_payload r) x) where
  payload_done : r.number ≡ done → read_payload r ≡ read_request r.payload
  payload_done e = read_payload_by r true (eq-eqb r.number done e)

  payload_bad : (r.number ≡ done → ⊥) → read_payload r ≡ declined r.number
  payload_bad u = read_payload_by r false (ne_eqb r.number done u)

  number_is : (asked_of x).number ≡ (read_payload r).number
  number_is = ap (λ a. a.number) h.is

  pub row_of_string : of_string (asked_of x).number ≡ true → Refused r (asked_of x).number
  row_of_string both =
      let n = (asked_of x).number in
      let p : 0 < n = ltb-true 0 n (and_left (ltb 0 n) _ both) in
      let q : n < disabled = ltb-true n disabled (and_right (ltb 0 n) _ both) in
      let bad : r.number ≡ done → ⊥ = λ e.
      let is : n ≡ (read_request r.payload).number = number_is ∙ ap (λ a. a.number) (payload_done e) in
      omega (arith, p, q, is, ((read_request-fits r.payload).late (λ d. omega (arith, p, is, d))).0) in
      record { number = number_is ∙ ap (λ a. a.number) (payload_bad bad); bad = bad }

  pub row_of_data : of_string (asked_of x).number ≡ false → Read r x
  row_of_data told = go (eqb r.number done) refl
    where
      late : 0 < (asked_of x).number → disabled ≤ (asked_of x).number
      late p =
          ltb-false (asked_of x).number disabled (sym (ap (λ b. b && ltb (asked_of x).number disabled) (lt-ltb 0 (asked_of x).number p)) ∙ told)

      go : (t : Bool) → eqb r.number done ≡ t → Read r x
      go true e =
          let good : r.number ≡ done = eqb-true r.number done e in
          let is : asked_of x ≡ read_request r.payload = h.is ∙ payload_done good in
          record { good = good; is = is }
      go false e =
          let told_is : (asked_of x).number ≡ r.number = number_is ∙ ap (λ a. a.number) (payload_bad (eqb-false r.number done e)) in
          let some_row : 0 < (asked_of x).number = omega (arith, told_is, eqb-false r.number done e) in
          absurd (omega (arith, told_is, early.early, late some_row))

-- Data of a good size, and of another.
pub sized-done : (bs : List ℕ) → size_number (length bs) ≡ done → if_sized bs (received bs) ≡ received bs
unfolding if_sized
sized-done bs e = ap (λ t. cond t (received bs) (refused (size_number (length bs)))) (eq-eqb (size_number (length bs)) done e)

pub sized-refused : (bs : List ℕ) {n : ℕ} → n ≡ size_number (length bs) → (n ≡ done → ⊥)
    → (n ≡ (if_sized bs (received bs)).number) × ((if_sized bs (received bs)).number ≡ done → ⊥)
unfolding if_sized
sized-refused bs {n} e u =
    let is : n ≡ (cond (eqb (size_number (length bs)) done) (received bs) (refused (size_number (length bs)))).number =
    e ∙ sym (ap (λ t. (cond t (received bs) (refused (size_number (length bs)))).number) (ne_eqb (size_number (length bs)) done (λ d. u (e ∙ d)))) in
    (is, λ d. u (is ∙ d))
