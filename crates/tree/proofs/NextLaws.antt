-- The properties of a tree that pass a test, one after the other.
-- Assumes nothing.
use Prim.Native.Nat.{ℕ, ◌+◌, ◌<◌, ◌≤◌}
use native.Mathlib.Omega.{arith}
use mathlib.Core.Path.{◌≡◌, ◌∙◌}
use mathlib.Core.Bool.{Bool, true, false}
use mathlib.Core.List.{[], ◌∷◌}
use lib.ListN.{length}
use Rattle.protocol.specs.Tree.{Property, Tree, is_live, property_in}
use Rattle.protocol.proofs.PlaceLaws.{places_here, places_past, places_end}
use Rattle.tree.specs.declared.record.Fields.{Fields}
use Rattle.tree.specs.Lookup.{FieldsAre, numbers_of, places_in}

module _ (test : Property → Bool) (t : Tree) where
  pub places_none : {k : ℕ} → length t.properties ≤ k → places_in test t k ≡ []
  unfolding places_in
  places_none {k} h = places_end test t.properties k h

  places_passed : {k : ℕ} → k < length t.properties → test (property_in t k) ≡ false → places_in test t k ≡ places_in test t (k + 1)
  unfolding places_in
  places_passed {k} h e = places_past test t.properties _ k h e

  pub places_next : {k : ℕ} → k < length t.properties → test (property_in t k) ≡ true → places_in test t k ≡ k ∷ places_in test t (k + 1)
  unfolding places_in
  places_next {k} h e = places_here test t.properties _ k h e

  -- The next one from a place on: one place after the other is passed, up to one that passes the test or the end.
  pub record Passing (from k : ℕ) : Type 0 where
    pub behind : from ≤ k
    pub same : places_in test t from ≡ places_in test t k

  pub pass_on : {from k : ℕ} → Passing from k → k < length t.properties → test (property_in t k) ≡ false → Passing from (k + 1)
  pass_on p h e = record { behind = omega (arith, p.behind); same = p.same ∙ places_passed h e }

pub live_same : {p : Property} {f : Fields} → FieldsAre p f → is_live (numbers_of f) ≡ is_live p
live_same h = rw h.attribute
