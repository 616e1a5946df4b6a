-- Texts put into an output one behind the other.
-- Assumes nothing.
use Prim.Native.Nat.{ℕ, min}
use native.Mathlib.Omega.{arith}
use mathlib.Core.Path.{◌≡◌, refl, subst, ◌∙◌}
use mathlib.Core.List.{List, [], ◌++◌}
use Rattle.protocol.specs.Buffer.{farthest, Laid}
use Rattle.protocol.proofs.LayLaws.{laid_nil, laid_join}
use Rattle.text.specs.declared.output.Output.{Output}
use Rattle.text.specs.Lays.{Lays}

pub lays_nil : (a : Output) → Lays [] a a
lays_nil a = record { laid = laid_nil a.bytes.now (omega (arith, a.place)); same = refl }

pub lays_as : {ys zs : List ℕ} {a b : Output} → ys ≡ zs → Lays ys a b → Lays zs a b
lays_as {a = a} {b = b} e p = subst (λ l. Lays l a b) e p

pub lays_join : {ys zs : List ℕ} {a b c : Output} → Lays ys a b → Lays zs b c → Lays (ys ++ zs) a c
lays_join {a = a} p q = record { laid = laid_join a.short p.laid q.laid; same = q.same ∙ p.same }

-- Put so far: with what is left it is the whole.
pub record Going (whole : List ℕ) (start : Output) (rest : List ℕ) (now : Output) : Type 0 where
  pub on : (end : Output) → Lays rest now end → Lays whole start end

pub going_begins : (whole : List ℕ) (start : Output) → Going whole start whole start
going_begins whole start = record { on = λ end p. p }

pub going_ends : {whole : List ℕ} {start now : Output} → Going whole start [] now → Lays whole start now
going_ends {now = now} g = g.on now (lays_nil now)

module _ {whole : List ℕ} {start now : Output} where
  -- What is left, for what it is.
  pub going_as : {rest rest' : List ℕ} → rest ≡ rest' → Going whole start rest now → Going whole start rest' now
  going_as e g = subst (λ l. Going whole start l now) e g

  pub going_more : {ys rest : List ℕ} {next : Output} → Going whole start (ys ++ rest) now → Lays ys now next → Going whole start rest next
  going_more g p = record { on = λ end q. g.on end (lays_join p q) }

-- An output takes any place of a buffer: what is laid in one that was made for a place is laid from that place on.
pub lays_from : (at : ℕ) {ys : List ℕ} {a b : Output} → a.at ≡ min farthest at → Lays ys a b → Laid at ys a.bytes.now b.at b.bytes.now
lays_from at {a = a} e p = laid_join a.short (laid_nil {at = at} a.bytes.now (omega (arith, e))) p.laid
