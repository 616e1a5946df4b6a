-- No public promise is stated by these definitions: they follow the code step by step.
use Rattle.std.specs.Prelude.{ℕ, suc, ◌+◌, ◌<◌, ◌≡◌, Bool, true, false, List, Option, Some, None, IfSome, length, drop}
use Rattle.std.specs.Iterator.{YieldsFirst}
use Rattle.protocol.specs.Tree.{Property, Tree, property_in}
use Rattle.protocol.specs.Answer.{takes_sign}
use Rattle.protocol.specs.Signed.{number_in}
use Rattle.protocol.specs.Sheet.{is_setting, may_hold, is_line, line_size}
use Rattle.tree.specs.Seen.{seen}
use Rattle.tree.specs.Lookup.{places_in}
use Rattle.text.specs.Read.{told_of, ToldIs}
use Rattle.text.specs.declared.read.Numeral.{Numeral}
use Rattle.sheet.specs.declared.setting.Settings.{Settings}
use Rattle.sheet.specs.declared.write.Sheet.{Sheet}

abbrev pub label_at : Tree → ℕ → List ℕ
label_at t k = (property_in t k).label

-- The settings from a place on.
abbrev pub settings_from : Tree → ℕ → List ℕ
settings_from t k = places_in is_setting t k

-- Those that are left to go through, and what the next one is.
abbrev pub rest : Settings → List ℕ
rest s = settings_from (seen s.tree.now) s.from

pub record Gives (s : Settings) (r : Option ℕ) (n : Settings) : Type 0 where
  pub first : YieldsFirst rest s r n
  pub same : n.tree.now ≡ s.tree.now
  pub behind : IfSome r (λ k. n.from ≡ k + 1)
  pub listed : IfSome r (λ k. k < length (seen s.tree.now).properties)
  pub is : IfSome r (λ k. is_setting (property_in (seen s.tree.now) k) ≡ true)

-- A line of a property that was read at the front of some bytes, or that there is none.
pub record LineIs (p : Property) (bs : List ℕ) (r : Option Numeral) : Type 0 where
  pub told : ToldIs (is_line p bs) (takes_sign p) (number_in (drop (suc (length p.label)) bs)) (line_size p bs) (told_of r)

-- A number that was read is one of 32 bits that the property may hold.
abbrev pub is_held : Property → Option ℕ → Bool
is_held p None = false
is_held p (Some w) = may_hold p w

-- The sheet of these bytes.
abbrev pub Stands : List ℕ → List ℕ → Sheet → Type 0
Stands tree cells s = (s.lent.tree.now ≡ tree) × (s.lent.cells.now ≡ cells)
