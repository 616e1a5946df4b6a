-- Settings: they are not live, so that each has a number to read.
-- Assumes nothing.
use Prim.Native.Nat.{ℕ}
use mathlib.Core.Path.{◌≡◌, refl}
use mathlib.Core.Bool.{Bool, true, false, not, ◌&&◌, false≢true}
use mathlib.Core.Option.{some}
use lib.Dec.{leb, ltb}
use lib.ListN.{length}
use Rattle.protocol.specs.Numbers.{max_properties}
use Rattle.protocol.specs.Tree.{Property, Tree, Cell, can_read, can_write, is_live, property_in, sound, nodes_sound, properties_sound, property_sound, live_sound, widths_sound, readable, reading}
use Rattle.protocol.specs.Sheet.{is_setting}
use Rattle.protocol.proofs.TestLaws.{and_left, and_right, every_at, every_weaker}
use Rattle.protocol.proofs.RuleLaws.{reading-word}

-- A live property of a sound tree has no write attribute.
live_sound_lem : (nodes : ℕ) (p : Property) → property_sound nodes p ≡ true → live_sound p ≡ true
unfolding property_sound
live_sound_lem nodes p h = and_left (live_sound p) _ (and_right (widths_sound p) _ (and_right (ltb p.node nodes) _ h))

unwritten : (p : Property) → live_sound p ≡ true → can_write p ≡ true → is_live p ≡ false
unfolding live_sound
unwritten p h w = go (is_live p) refl
  where
    go : (b : Bool) → is_live p ≡ b → is_live p ≡ false
    go false e = e
    go true e =
        let s : (can_read p && not (can_write p)) ≡ true = rw e at h in
        let no : not (can_write p) ≡ true = and_right (can_read p) _ s in
        absurd (false≢true (rw w at no))

module _ (t : Tree) (good : sound t ≡ true) (k : ℕ) (e : is_setting (property_in t k) ≡ true) where
  pub setting_not_live : is_live (property_in t k) ≡ false
  unfolding sound properties_sound live_sound
  setting_not_live =
      let all = and_right (leb (length t.properties) max_properties) _ (and_right (nodes_sound t.nodes) _ good) in
      unwritten (property_in t k)
      (every_at live_sound t.properties _ (every_weaker (property_sound (length t.nodes)) live_sound (live_sound_lem (length t.nodes)) t.properties all) refl k)
      (and_right (can_read (property_in t k)) _ e)

  pub setting_reading : (c : Cell) → reading (property_in t k) c ≡ some c.word
  unfolding readable
  setting_reading c =
      reading-word (property_in t k) c (rw (setting_not_live, and_left (can_read (property_in t k)) _ e))
