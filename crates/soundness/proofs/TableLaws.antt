-- Records that lie one behind the other with their texts behind them all: one law each way, for nodes and for properties.
-- Assumes nothing.
use Prim.Native.Nat.{ℕ, zero, suc, ◌+◌, ◌*◌, ◌<◌, ◌≤◌}
use native.Mathlib.Omega.{arith}
use native.Mathlib.Nat.{zero-mul, suc-mul, add_comm}
use mathlib.Core.Path.{◌≡◌, refl, sym, ap, ap₂, subst, ◌∙◌}
use mathlib.Core.Bool.{Bool, true}
use mathlib.Core.List.{List, [], ◌∷◌, ◌++◌, append_assoc}
use mathlib.Core.Option.{Option, some, some-injective}
use lib.ListN.{length, take, drop, length-append, length-drop}
use lib.Seq.{take-add, drop-drop, drop_at, drop-append_seam}
use Rattle.protocol.specs.Numbers.{half_end}
use Rattle.protocol.specs.Bytes.{Bytes, every}
use Rattle.protocol.proofs.TestLaws.{and_left, and_right, and_both}
use Rattle.protocol.proofs.ListLaws.{bytes_drop}
use Rattle.tree.specs.Form.{all_texts, all_records}
use Rattle.tree.specs.Seen.{records_from}
use Rattle.soundness.specs.Check.{records_end}
use Rattle.soundness.proofs.ThenLaws.{then_some, then_back}

module _ {A : Type 0} (bs : List ℕ) (size : ℕ) (read : List ℕ → A) (textsIn : A → List ℕ) (recordFor : ℕ → A → List ℕ)
    (recordEnd : List ℕ → ℕ → Option ℕ) (ok : A → Bool)
  where
    -- What it tells that records read from r on, whose texts begin at a place, end at another: the bytes are those that their
    -- entries have in a form, and each entry is good.
    pub record Laid (r : List ℕ) (n at end : ℕ) : Type 0 where
      pub bytes : take (n * size) r ≡ all_records textsIn recordFor at (records_from size read n r)
      pub ends : end ≡ at + length (all_texts textsIn (records_from size read n r))
      pub texts : take (length (all_texts textsIn (records_from size read n r))) (drop at bs) ≡ all_texts textsIn (records_from size read n r)
      pub good : every ok (records_from size read n r) ≡ true

    -- The same of one record.
    pub record LaidOne (r : List ℕ) (at end : ℕ) : Type 0 where
      pub bytes : take size r ≡ recordFor at (read r)
      pub ends : end ≡ at + length (textsIn (read r))
      pub texts : take (length (textsIn (read r))) (drop at bs) ≡ textsIn (read r)
      pub good : ok (read r) ≡ true

    laid_none : (r : List ℕ) (at : ℕ) → Laid r 0 at at
    unfolding records_from all_texts all_records every
    laid_none r at = record { bytes = ap (λ n. take n r) (zero-mul size); ends = omega arith; texts = refl; good = refl }

    laid_more : (r : List ℕ) (n at next end : ℕ) → LaidOne r at next → Laid (drop size r) n next end → Laid r (suc n) at end
    unfolding records_from all_texts all_records every
    laid_more r n at next end one more =
        let x : A = read r in
        let xs : List A = records_from size read n (drop size r) in
        let own : List ℕ = textsIn x in
        let rest : List ℕ = all_texts textsIn xs in
        record {
          bytes =
              ap (λ m. take m r) (suc-mul n size ∙ add_comm (n * size) size)
              ∙ take-add size (n * size) r
              ∙ ap₂ (λ a b. a ++ b) one.bytes (more.bytes ∙ ap (λ k. all_records textsIn recordFor k xs) one.ends);
          ends = omega (arith, one.ends, more.ends, length-append own rest);
          texts =
              ap (λ m. take m (drop at bs)) (length-append own rest)
              ∙ take-add (length own) (length rest) (drop at bs)
              ∙ ap₂ (λ a b. a ++ b) one.texts
              (ap (take (length rest)) (drop-drop (length own) at bs ∙ ap (λ k. drop k bs) (sym one.ends)) ∙ more.texts);
          good = and_both one.good more.good;
        }

    -- Records that end are laid out as in a form, if each that ends is.
    pub laid : ((r : List ℕ) (at next : ℕ) → Bytes r → size ≤ length r → recordEnd r at ≡ some next → LaidOne r at next)
        → (n : ℕ) (r : List ℕ) (at end : ℕ) → Bytes r → n * size ≤ length r → records_end size recordEnd n r at ≡ some end → Laid r n at end
    unfolding records_end
    laid one zero r at end all h e = subst (λ k. Laid r 0 at k) (some-injective _ _ e) (laid_none r at)
    laid one (suc n) r at end all h e =
        let step = then_back (recordEnd r at) (λ next. records_end size recordEnd n (drop size r) next) e in
        let next : ℕ = step.0 in
        laid_more r n at next end
        (one r at next all (omega (arith, suc-mul n size, h)) step.1.0)
        (laid one n (drop size r) next end (bytes_drop size r all) (omega (arith, suc-mul n size, h, length-drop size r)) step.1.1)

    no_texts : length (all_texts textsIn []) ≡ 0
    unfolding all_texts
    no_texts = refl

    -- What makes one record of a form read as it was written.
    pub record Written : Type 0 where
      pub sized : (at : ℕ) (x : A) → length (recordFor at x) ≡ size
      pub again : (x : A) (at : ℕ) (rest more : List ℕ) → ok x ≡ true → at + length (textsIn x) < half_end → drop at bs ≡ textsIn x ++ more
          → read (recordFor at x ++ rest) ≡ x
      pub ends : (x : A) (at : ℕ) (rest more : List ℕ) → ok x ≡ true → at + length (textsIn x) < half_end → drop at bs ≡ textsIn x ++ more
          → recordEnd (recordFor at x ++ rest) at ≡ some (at + length (textsIn x))

    module _ (w : Written) where
      pub records_size : (xs : List A) (at : ℕ) → length (all_records textsIn recordFor at xs) ≡ length xs * size
      unfolding all_records
      records_size [] at = sym (zero-mul size)
      records_size (x ∷ xs) at =
          omega (
            arith,
            length-append (recordFor at x) (all_records textsIn recordFor (at + length (textsIn x)) xs),
            w.sized at x,
            records_size xs (at + length (textsIn x)),
            suc-mul (length xs) size,
          )

      -- The first record of several, and those behind it.
      record First (x : A) (xs : List A) (at : ℕ) (rest more : List ℕ) : Type 0 where
        good : ok x ≡ true
        others : every ok xs ≡ true
        front : all_records textsIn recordFor at (x ∷ xs) ++ rest ≡ recordFor at x ++ (all_records textsIn recordFor (at + length (textsIn x)) xs ++ rest)
        behind : drop size (all_records textsIn recordFor at (x ∷ xs) ++ rest) ≡ all_records textsIn recordFor (at + length (textsIn x)) xs ++ rest
        own : at + length (textsIn x) < half_end
        later : at + length (textsIn x) + length (all_texts textsIn xs) < half_end
        here : drop at bs ≡ textsIn x ++ (all_texts textsIn xs ++ more)
        there : drop (at + length (textsIn x)) bs ≡ all_texts textsIn xs ++ more
        total : length (all_texts textsIn (x ∷ xs)) ≡ length (textsIn x) + length (all_texts textsIn xs)

      first : (x : A) (xs : List A) (at : ℕ) (rest more : List ℕ) → every ok (x ∷ xs) ≡ true → at + length (all_texts textsIn (x ∷ xs)) < half_end
          → drop at bs ≡ all_texts textsIn (x ∷ xs) ++ more → First x xs at rest more
      unfolding every all_texts all_records
      first x xs at rest more h k e =
          let later : List ℕ = all_records textsIn recordFor (at + length (textsIn x)) xs in
          let front : (recordFor at x ++ later) ++ rest ≡ recordFor at x ++ (later ++ rest) = append_assoc (recordFor at x) later rest in
          let here : drop at bs ≡ textsIn x ++ (all_texts textsIn xs ++ more) = e ∙ append_assoc (textsIn x) (all_texts textsIn xs) more in
          let total : length (textsIn x ++ all_texts textsIn xs) ≡ length (textsIn x) + length (all_texts textsIn xs) =
          length-append (textsIn x) (all_texts textsIn xs) in
          record {
            good = and_left (ok x) (every ok xs) h;
            others = and_right (ok x) (every ok xs) h;
            front = front;
            behind = ap (drop size) front ∙ drop_at (recordFor at x) (later ++ rest) size (w.sized at x);
            own = omega (arith, k, total);
            later = omega (arith, k, total);
            here = here;
            there =
                sym (drop-drop (length (textsIn x)) at bs)
                ∙ ap (drop (length (textsIn x))) here
                ∙ drop-append_seam (textsIn x) (all_texts textsIn xs ++ more);
            total = total;
          }

      pub read_again : (xs : List A) (at : ℕ) (rest more : List ℕ) → every ok xs ≡ true → at + length (all_texts textsIn xs) < half_end
          → drop at bs ≡ all_texts textsIn xs ++ more → records_from size read (length xs) (all_records textsIn recordFor at xs ++ rest) ≡ xs
      unfolding records_from
      read_again [] at rest more h k e = refl
      read_again (x ∷ xs) at rest more h k e =
          let f : First x xs at rest more = first x xs at rest more h k e in
          let next : ℕ = at + length (textsIn x) in
          ap₂ (λ y l. y ∷ records_from size read (length xs) l)
          (ap read f.front ∙ w.again x at (all_records textsIn recordFor next xs ++ rest) (all_texts textsIn xs ++ more) f.good f.own f.here)
          f.behind
          ∙ ap (λ l. x ∷ l) (read_again xs next rest more f.others f.later f.there)

      pub end_again : (xs : List A) (at : ℕ) (rest more : List ℕ) → every ok xs ≡ true → at + length (all_texts textsIn xs) < half_end
          → drop at bs ≡ all_texts textsIn xs ++ more
          → records_end size recordEnd (length xs) (all_records textsIn recordFor at xs ++ rest) at ≡ some (at + length (all_texts textsIn xs))
      unfolding records_end
      end_again [] at rest more h k e = ap some (omega (arith, no_texts))
      end_again (x ∷ xs) at rest more h k e =
          let f : First x xs at rest more = first x xs at rest more h k e in
          let next : ℕ = at + length (textsIn x) in
          let all : List ℕ = all_records textsIn recordFor at (x ∷ xs) ++ rest in
          then_some (λ m. records_end size recordEnd (length xs) (drop size all) m)
          (ap (λ r. recordEnd r at) f.front
          ∙ w.ends x at (all_records textsIn recordFor next xs ++ rest) (all_texts textsIn xs ++ more) f.good f.own f.here)
          ∙ ap (λ l. records_end size recordEnd (length xs) l next) f.behind
          ∙ end_again xs next rest more f.others f.later f.there
          ∙ ap some (omega (arith, f.total))

-- Texts of good entries, none longer than a bound.
module _ {A : Type 0} (textsIn : A → List ℕ) (ok : A → Bool) (bound : ℕ) (short : (x : A) → ok x ≡ true → length (textsIn x) ≤ bound) where
  pub texts_bound : (xs : List A) → every ok xs ≡ true → length (all_texts textsIn xs) ≤ length xs * bound
  unfolding all_texts every
  texts_bound [] h = omega arith
  texts_bound (x ∷ xs) h =
      omega (
        arith,
        length-append (textsIn x) (all_texts textsIn xs),
        short x (and_left (ok x) (every ok xs) h),
        texts_bound xs (and_right (ok x) (every ok xs) h),
        suc-mul (length xs) bound,
      )
