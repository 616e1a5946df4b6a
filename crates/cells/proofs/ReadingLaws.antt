-- A reading: the tests of row 12, and the word behind them.
-- Assumes nothing.
use Prim.Native.Nat.{ℕ}
use mathlib.Core.Path.{◌≡◌, sym, ap, ◌∙◌}
use mathlib.Core.Bool.{Bool, true, false}
use mathlib.Core.Option.{some}
use Rattle.protocol.specs.Tree.{Property, Cell, readable, reading}
use Rattle.protocol.proofs.RuleLaws.{reading-word, no_reading_lem}
use Rattle.std.proofs.Common.{Some, None}
use Rattle.protocol.specs.Refusal.{option_of}

-- What is handed back, by whether there is a number.
module _ (p : Property) (c : Cell) {t : Bool} (told : t ≡ readable p c) where
  pub reads_none : t ≡ false → None ≡ option_of (reading p c)
  reads_none e = sym (ap option_of (no_reading_lem p c (sym told ∙ e)))

  pub reads_word : {n : ℕ} → t ≡ true → n ≡ c.word → Some n ≡ option_of (reading p c)
  reads_word e f = ap (λ m. option_of (some m)) f ∙ sym (ap option_of (reading-word p c (sym told ∙ e)))
