-- A content that lies in one piece: tallied, judged, and its data put out.
-- Assumes nothing.
use Rattle.std.proofs.Common.{[], Ok, Err, ◌≡◌, ℕ, ◌+◌, ◌-◌, ◌<◌, ◌≤◌, List, length, get_or, take, drop, sym, ap, ◌∙◌, subst, add-one, arith, take_all, take-suc}
use mathlib.Core.Option.{some}
use Rattle.protocol.specs.Numbers.{done, max_content}
use Rattle.protocol.specs.Bytes.{Bytes}
use Rattle.protocol.specs.Frame.{judge_whole, data_in, received}
use Rattle.protocol.specs.Buffer.{Put, Emits}
use Rattle.protocol.proofs.BufferLaws.{put_emits, emits_refused}
use Rattle.frame.specs.declared.read.Tally.{Tally}
use Rattle.protocol.specs.declared.Refusal.{Refusal}
use Rattle.protocol.specs.Refusal.{refusal_number}
use Rattle.frame.specs.Steps.{Tallies, OneMore, judged}
use Rattle.frame.proofs.ReadLaws.{tallies_more}
use Rattle.frame.proofs.CheckLaws.{Alike, both_refused, both_passed, alike}

-- The tally of the first i bytes of a content.
pub record Tallying (c : List ℕ) (t : Tally) (i : ℕ) : Type 0 where
  pub within : i ≤ length c
  pub tally : Tallies (take i c) t

pub tally_begins : (c : List ℕ) {t : Tally} → Tallies [] t → Tallying c t 0
tally_begins c w = record { within = omega arith; tally = w }

pub tally_more : (c : List ℕ) {t r : Tally} {i : ℕ} → Tallying c t i → i < length c → OneMore t (get_or c i 0) r → Tallying c r (i + 1)
tally_more c {r = r} {i = i} w h m =
    record {
      within = omega arith;
      tally =
          subst (λ l. Tallies l r)
          (sym (ap (λ n. take n c) (add-one i) ∙ take-suc c i 0 h))
          (tallies_more (take i c) (get_or c i 0) w.tally m);
    }

pub tally_ends : (c : List ℕ) {t : Tally} {i : ℕ} → Tallying c t i → length c ≤ i → Tallies c t
tally_ends c {t} {i} w h = subst (λ l. Tallies l t) (take_all i c h) w.tally

-- What `read_content` emits.
module _ (a : ℕ) (c : List ℕ) where
  -- A good content: its data lies between its first and its last byte.
  pub record Data (n : ℕ) : Type 0 where
    pub long : 3 ≤ length c
    pub most : length c ≤ max_content
    pub is : judge_whole a (some c) ≡ received (data_in c)
    pub len : n ≡ length c - 2

  pub content_emits : {n : ℕ} {old new : List ℕ} {size : ℕ} → Data n → Put 0 (take (n + 1 - 1) (drop 1 c)) old size new
      → Emits (judge_whole a (some c)) old done size new
  content_emits {n} {old} {new} {size} d p =
      let k : n + 1 - 1 ≡ length c - 2 = omega (arith, d.len) in
      rw d.is (put_emits (subst (λ n. Put 0 (take n (drop 1 c)) old size new) k p))

  module _ {t : Tally} (w : Tallies c t) (all : Bytes c) where
    pub content_refused : (old : List ℕ) {e : Refusal} → Err e ≡ judged a t
        → Emits (judge_whole a (some c)) old (refusal_number e) 0 old
    content_refused old {e} h = go (alike a c t w all)
      where
        go : Alike a c t → Emits (judge_whole a (some c)) old (refusal_number e) 0 old
        go (both_refused e' p q) =
            let same : e' ≡ e = cc in
            rw (p, same) (emits_refused (refusal_number e) old)
        go (both_passed l m p q) = absurd (cc)

    pub content_data : {n : ℕ} → Ok n ≡ judged a t → Data n
    content_data {n} h = go (alike a c t w all)
      where
        go : Alike a c t → Data n
        go (both_refused e p q) = absurd (cc)
        go (both_passed l m p q) = record { long = l; most = m; is = p; len = cc }
