-- Numbers and dotted paths: what `decimal` is, and that different ones have different texts.
-- Assumes nothing.
use Prim.Native.Nat.{ℕ, zero, suc, ◌+◌, ◌-◌, ◌*◌, ◌/◌, ◌%◌, ◌^◌, ◌<◌, ◌≤◌}
use native.Mathlib.Omega.{arith}
use mathlib.Core.Path.{◌≡◌, refl, sym, ap, ap₂, subst, ◌∙◌}
use mathlib.Core.Bool.{Bool, true, false, not}
use mathlib.Core.List.{List, [], ◌∷◌, ◌++◌, append_assoc, head-eq_of_cons-eq, tail-eq_of_cons-eq}
use borrow.Author.Tests.{lt-ltb, le-ltb, ltb-true, ltb-false, leb-true, le-leb, ne_eqb, eqb-false, not-true}
use lib.ListN.{length, length-append}
use lib.Dec.{eqb, leb, ltb}
use Rattle.protocol.specs.Bytes.{every}
use Rattle.protocol.specs.Text.{digit, decimal_in, decimal, dotted_on, dotted}
use Rattle.protocol.specs.Listed.{lacks}
use Rattle.protocol.specs.Signed.{is_digit, value_after}
use Rattle.protocol.proofs.TestLaws.{and_left, and_right, and_both, every_append, every_one, every_weaker}

-- Leave for more digits than there are changes nothing.
digits_left : (a b n : ℕ) → n ≤ a → n ≤ b → decimal_in a n ≡ decimal_in b n
unfolding decimal_in
digits_left zero zero n h k = refl
digits_left zero (suc b) n h k = rw (lt-ltb n 10 (omega (arith, h)), decimal_in)
digits_left (suc a) zero n h k = rw (lt-ltb n 10 (omega (arith, k)), decimal_in)
digits_left (suc a) (suc b) n h k = go (λ l. digits_left a b (n / 10) (omega (arith, h, l)) (omega (arith, k, l))) (ltb n 10) refl
  where
    go : (10 ≤ n → decimal_in a (n / 10) ≡ decimal_in b (n / 10)) → (t : Bool) → ltb n 10 ≡ t → decimal_in (suc a) n ≡ decimal_in (suc b) n
    go on true e = rw (e, decimal_in)
    go on false e = rw (e, decimal_in) (ap (λ l. l ++ digit (n % 10) ∷ []) (on (ltb-false n 10 e)))

-- One digit below 10, and above it the digits of a tenth and one more.
pub decimal_small : (n : ℕ) → n < 10 → decimal n ≡ digit n ∷ []
unfolding decimal decimal_in
decimal_small zero h = refl
decimal_small (suc n) h = rw (lt-ltb (suc n) 10 h, decimal_in)

pub decimal_more : (n : ℕ) → 10 ≤ n → decimal n ≡ decimal (n / 10) ++ digit (n % 10) ∷ []
unfolding decimal decimal_in
decimal_more zero h = absurd (omega (arith, h))
decimal_more (suc n) h =
    rw (le-ltb (suc n) 10 h, decimal_in)
    (ap (λ l. l ++ digit (suc n % 10) ∷ []) (digits_left n (suc n / 10) (suc n / 10) (omega (arith, h)) (omega arith)))

-- What holds of one digit, and with one digit more, holds of every number's text.
pub by_digits : (P : ℕ → List ℕ → Type 0) → ((n : ℕ) → n < 10 → P n (digit n ∷ []))
    → ((n : ℕ) → 10 ≤ n → P (n / 10) (decimal (n / 10)) → P n (decimal (n / 10) ++ digit (n % 10) ∷ [])) → (n : ℕ) → P n (decimal n)
by_digits P small more n = within n n (omega arith)
  where
    within : (left n : ℕ) → n ≤ left → P n (decimal n)
    within zero n h = subst (P n) (sym (decimal_small n (omega (arith, h)))) (small n (omega (arith, h)))
    within (suc left) n h = go (λ l. within left (n / 10) (omega (arith, h, l))) (ltb n 10) refl
      where
        go : (10 ≤ n → P (n / 10) (decimal (n / 10))) → (b : Bool) → ltb n 10 ≡ b → P n (decimal n)
        go on true e = let l = ltb-true n 10 e in subst (P n) (sym (decimal_small n l)) (small n l)
        go on false e = let l = ltb-false n 10 e in subst (P n) (sym (decimal_more n l)) (more n l (on l))

-- The number that digits stand for is the one that they were made of.
pub after-append : (n : ℕ) (xs ys : List ℕ) → value_after n (xs ++ ys) ≡ value_after (value_after n xs) ys
unfolding value_after
after-append n [] ys = refl
after-append n (x ∷ xs) ys = after-append (n * 10 + (x - 48)) xs ys

pub decimal-value : (n : ℕ) → value_after 0 (decimal n) ≡ n
unfolding value_after
decimal-value n =
    by_digits (λ m s. value_after 0 s ≡ m) (λ m h. omega arith)
    (λ m h e. after-append 0 (decimal (m / 10)) (digit (m % 10) ∷ []) ∙ ap (λ k. k * 10 + (digit (m % 10) - 48)) e ∙ omega arith)
    n

pub decimal_told : (m n : ℕ) → decimal m ≡ decimal n → m ≡ n
decimal_told m n e = sym (decimal-value m) ∙ ap (value_after 0) e ∙ decimal-value n

-- It has a digit, and digits only: no 0Ah and no dot.
pub decimal_long : (n : ℕ) → 1 ≤ length (decimal n)
decimal_long n =
    by_digits (λ m s. 1 ≤ length s) (λ m h. omega arith)
    (λ m h l. omega (arith, l, length-append (decimal (m / 10)) (digit (m % 10) ∷ [])))
    n

is_digit_lem : (d : ℕ) → d < 10 → is_digit (digit d) ≡ true
is_digit_lem d h = and_both (le-leb 48 (48 + d) (omega arith)) (le-leb (48 + d) 57 (omega (arith, h)))

pub decimal_digits : (n : ℕ) → every is_digit (decimal n) ≡ true
decimal_digits n =
    by_digits (λ m s. every is_digit s ≡ true) (λ m h. every_one is_digit (digit m) (is_digit_lem m h))
    (λ m h e. every_append is_digit (decimal (m / 10)) (digit (m % 10) ∷ []) e (every_one is_digit (digit (m % 10)) (is_digit_lem (m % 10) (omega arith))))
    n

pub decimal-lacks : (x : ℕ) → x < 48 → (n : ℕ) → lacks x (decimal n) ≡ true
decimal-lacks x h n =
    every_weaker is_digit (λ c. not (eqb c x))
    (λ c d. ap not (ne_eqb c x (λ e. omega (arith, e, h, leb-true 48 c (and_left (leb 48 c) _ d)))))
    (decimal n)
    (decimal_digits n)

-- The first x ends what stands before it.
pub ends_told : (x : ℕ) (a b r s : List ℕ) → lacks x a ≡ true → lacks x b ≡ true → a ++ x ∷ r ≡ b ++ x ∷ s → (a ≡ b) × (r ≡ s)
unfolding every
ends_told x [] [] r s h k e = (refl, tail-eq_of_cons-eq e)
ends_told x [] (c ∷ b) r s h k e =
    absurd (eqb-false c x (not-true _ (and_left (not (eqb c x)) _ k)) (sym (head-eq_of_cons-eq e)))
ends_told x (c ∷ a) [] r s h k e =
    absurd (eqb-false c x (not-true _ (and_left (not (eqb c x)) _ h)) (head-eq_of_cons-eq e))
ends_told x (c ∷ a) (d ∷ b) r s h k e =
    let later = ends_told x a b r s (and_right (not (eqb c x)) _ h) (and_right (not (eqb d x)) _ k) (tail-eq_of_cons-eq e) in
    (ap₂ (λ y l. y ∷ l) (head-eq_of_cons-eq e) later.0, later.1)

-- A path with a dot behind each number, the last too.
ended : List ℕ → List ℕ
ended [] = []
ended (n ∷ ns) = decimal n ++ 46 ∷ ended ns

ended-on : (ns : List ℕ) → dotted_on ns ++ 46 ∷ [] ≡ 46 ∷ ended ns
unfolding dotted_on ended
ended-on [] = refl
ended-on (n ∷ ns) =
    ap (λ l. 46 ∷ l) (append_assoc (decimal n) (dotted_on ns) (46 ∷ []) ∙ ap (λ l. decimal n ++ l) (ended-on ns))

dotted-ended : (n : ℕ) (ns : List ℕ) → dotted (n ∷ ns) ++ 46 ∷ [] ≡ ended (n ∷ ns)
unfolding dotted ended
dotted-ended n ns = append_assoc (decimal n) (dotted_on ns) (46 ∷ []) ∙ ap (λ l. decimal n ++ l) (ended-on ns)

ended_told : (ms ns : List ℕ) → ended ms ≡ ended ns → ms ≡ ns
unfolding ended
ended_told [] [] e = refl
ended_told [] (n ∷ ns) e = absurd (omega (arith, ap length e, length-append (decimal n) (46 ∷ ended ns)))
ended_told (m ∷ ms) [] e = absurd (omega (arith, ap length e, length-append (decimal m) (46 ∷ ended ms)))
ended_told (m ∷ ms) (n ∷ ns) e =
    let both = ends_told 46 (decimal m) (decimal n) (ended ms) (ended ns) (decimal-lacks 46 (omega arith) m) (decimal-lacks 46 (omega arith) n) e in
    ap₂ (λ k l. k ∷ l) (decimal_told m n both.0) (ended_told ms ns both.1)

pub dotted_told : (ms ns : List ℕ) → dotted ms ≡ dotted ns → ms ≡ ns
unfolding dotted
dotted_told [] [] e = refl
dotted_told [] (n ∷ ns) e = absurd (omega (arith, ap length e, length-append (decimal n) (dotted_on ns), decimal_long n))
dotted_told (m ∷ ms) [] e = absurd (omega (arith, ap length e, length-append (decimal m) (dotted_on ms), decimal_long m))
dotted_told (m ∷ ms) (n ∷ ns) e =
    ended_told (m ∷ ms) (n ∷ ns) (sym (dotted-ended m ms) ∙ ap (λ l. l ++ 46 ∷ []) e ∙ dotted-ended n ns)

-- It has no 0Ah either.
dots_lack : (ns : List ℕ) → lacks 10 (dotted_on ns) ≡ true
unfolding dotted_on every
dots_lack [] = refl
dots_lack (n ∷ ns) = every_append (λ c. not (eqb c 10)) (decimal n) (dotted_on ns) (decimal-lacks 10 (omega arith) n) (dots_lack ns)

pub dotted-lacks : (ns : List ℕ) → lacks 10 (dotted ns) ≡ true
unfolding dotted every
dotted-lacks [] = refl
dotted-lacks (n ∷ ns) = every_append (λ c. not (eqb c 10)) (decimal n) (dotted_on ns) (decimal-lacks 10 (omega arith) n) (dots_lack ns)

-- A number below a power of ten has no more digits than the power.
pub decimal_size : (d n : ℕ) → n < 10 ^ suc d → length (decimal n) ≤ suc d
decimal_size zero n h = omega (arith, ap length (decimal_small n h))
decimal_size (suc d) n h = go (decimal_size d (n / 10) (omega (arith, h))) (ltb n 10) refl
  where
    go : length (decimal (n / 10)) ≤ suc d → (b : Bool) → ltb n 10 ≡ b → length (decimal n) ≤ suc (suc d)
    go l true e = omega (arith, ap length (decimal_small n (ltb-true n 10 e)))
    go l false e =
        omega (
          arith,
          l,
          ap length (decimal_more n (ltb-false n 10 e)),
          length-append (decimal (n / 10)) (digit (n % 10) ∷ []),
        )
