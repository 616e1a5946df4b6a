-- Datagrams: the test on their front, and what is told of one.
-- Assumes nothing.
use borrow.Rule.Slice.PartMut.{put_mid}
use lib.Seq.{take_all}
use Rattle.std.proofs.Common.{◌≡◌, ℕ, ◌+◌, ◌-◌, ◌≤◌, ◌++◌, length-drop, Bool, true, false, cond, eqb, List, [], ◌∷◌, length, take, drop, Result, Ok, Err, refl, sym, ap, ◌∙◌, arith, le-leb, eqb-true, eq-eqb, Bor}
use Rattle.std.specs.Result.{result_unwrap_or, IfOk}
use lib.Pointwise.{pointwise}
use Rattle.protocol.specs.Numbers.{done, no_preamble}
use Rattle.protocol.specs.Bytes.{every}
use Rattle.protocol.specs.declared.Refusal.{Refusal}
use Rattle.protocol.specs.Refusal.{number_told}
use Rattle.protocol.specs.Frame.{refused, received, size_number, if_sized, four_zeros, read_datagram, datagram}
use Rattle.protocol.specs.Buffer.{over, Put, Emits}
use Rattle.protocol.proofs.RefusalLaws.{refusal_some}
use Rattle.protocol.proofs.FrameLaws.{read_datagram_by, read_datagram-refused, read_datagram_only}
use Rattle.protocol.proofs.BufferLaws.{over_put, part_lent, part_back}

-- Four zeros at the front.
abbrev pub zeros : List ℕ
zeros = 0 ∷ 0 ∷ 0 ∷ 0 ∷ []

zeros_four : (s : List ℕ) → pointwise eqb (take 4 s) zeros ≡ four_zeros s
unfolding every
zeros_four [] = refl
zeros_four (a ∷ []) = grind arith
zeros_four (a ∷ b ∷ []) = grind arith
zeros_four (a ∷ b ∷ c ∷ []) = grind arith
zeros_four (a ∷ b ∷ c ∷ d ∷ s) = rw (le-leb 4 (length (a ∷ b ∷ c ∷ d ∷ s)) (omega arith))

module _ (s : List ℕ) where
  pub unopened : pointwise eqb (take 4 s) zeros ≡ false → no_preamble ≡ (read_datagram s).number
  unopened h = sym (ap (λ r. r.number) (read_datagram_by s false (sym (zeros_four s) ∙ h)))

  module _ (p : List ℕ) (h : pointwise eqb (take 4 s) zeros ≡ true) (is : p ≡ drop 4 s) where
    opened : read_datagram s ≡ if_sized p (received p)
    opened = read_datagram_by s true (sym (zeros_four s) ∙ h) ∙ ap (λ p. if_sized p (received p)) (sym is)

    pub opened_number : (n : ℕ) → n ≡ size_number (length p) → n ≡ (read_datagram s).number
    unfolding if_sized
    opened_number n e = e ∙ sym (ap (λ r. r.number) opened ∙ go (eqb (size_number (length p)) done) refl)
      where
        go : (t : Bool) → eqb (size_number (length p)) done ≡ t
            → (cond t (received p) (refused (size_number (length p)))).number ≡ size_number (length p)
        go true h = sym (eqb-true (size_number (length p)) done h)
        go false h = refl

    pub opened_payload : done ≡ size_number (length p) → p ≡ (read_datagram s).payload
    unfolding if_sized
    opened_payload e = sym (ap (λ r. r.payload) opened ∙ rw (eq-eqb (size_number (length p)) done (sym e)))

  -- A refused datagram has no data.
  pub data_told : (r : Result (Bor (List ℕ)) Refusal) (empty : Bor (List ℕ)) → empty.now ≡ [] → number_told r ≡ (read_datagram s).number
      → IfOk r (λ p. p.now ≡ (read_datagram s).payload)
      → (result_unwrap_or r empty).now ≡ (read_datagram s).payload
  data_told (Ok p) empty e n h = h
  data_told (Err f) empty e n h = e ∙ sym (read_datagram-refused s (λ d. refusal_some f (n ∙ d)))

-- The data of a good datagram is the datagram from byte 4 on.
pub data-from-4 : (s : List ℕ) → (read_datagram s).number ≡ done → take (length s - 4) (drop 4 s) ≡ (read_datagram s).payload
unfolding datagram
data-from-4 s h =
    take_all (length s - 4) (drop 4 s) (omega (arith, length-drop 4 s))
    ∙ ap (drop 4) (read_datagram_only s h).written

-- Data at the front of the part from byte 4 on, and four zeros before it, are a datagram at the front.
pub zeros_before : (d old part : List ℕ) → 4 ≤ length old → part ≡ over d (drop 4 old)
    → over (0 ∷ 0 ∷ 0 ∷ 0 ∷ []) (take 4 old ++ part) ≡ over (datagram d) old
unfolding over datagram
zeros_before d [] part h e = absurd (omega (arith, h))
zeros_before d (x ∷ []) part h e = absurd (omega (arith, h))
zeros_before d (x ∷ y ∷ []) part h e = absurd (omega (arith, h))
zeros_before d (x ∷ y ∷ z ∷ []) part h e = absurd (omega (arith, h))
zeros_before d (x ∷ y ∷ z ∷ w ∷ old) part h e = ap (λ l. 0 ∷ 0 ∷ 0 ∷ 0 ∷ l) e

length-datagram : (d : List ℕ) → length (datagram d) ≡ length d + 4
unfolding datagram
length-datagram d = omega arith

-- What a call leaves that puts data from byte 4 on and four zeros before it.
pub emits_datagram : (d old : List ℕ) {part new : List ℕ} {r : ℕ} → 4 ≤ length old
    → Put 0 d (take (length old - 4) (drop 4 old)) r part
    → new ≡ over (0 ∷ 0 ∷ 0 ∷ 0 ∷ []) (put_mid 4 (length old - 4) old part)
    → Emits (received (datagram d)) old done (4 + r) new
emits_datagram d old {part} {new} {r} h p e =
    let q : part ≡ over d (drop 4 old) =
    p.bytes ∙ over_put d (take (length old - 4) (drop 4 old)) ∙ ap (over d) (part_lent 4 old) in
    record {
      number = refl;
      len = omega (arith, p.next, length-datagram d);
      bytes = e ∙ ap (over (0 ∷ 0 ∷ 0 ∷ 0 ∷ [])) (part_back 4 old part h) ∙ zeros_before d old part h q;
    }
