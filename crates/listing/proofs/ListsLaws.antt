-- What listing answers: refused, or a text that is filled in.
-- Assumes nothing.
use Prim.Native.Nat.{ℕ, ◌≤◌}
use native.Mathlib.Omega.{arith}
use mathlib.Core.Path.{◌≡◌, refl, ap, subst, ◌∙◌}
use mathlib.Core.Bool.{Bool, true, false, cond}
use mathlib.Core.List.{List}
use lib.ListN.{length}
use Rattle.protocol.specs.Numbers.{done, unsound}
use Rattle.protocol.specs.Buffer.{Fills}
use Rattle.protocol.specs.Listing.{listing}
use Rattle.protocol.proofs.FillLaws.{fills_refused}
use Rattle.protocol.proofs.LongestLaws.{listing_longest}
use Rattle.tree.specs.Seen.{seen}
use Rattle.soundness.specs.Sound.{is_tree}
use Rattle.soundness.proofs.FormLaws.{seen-sound}
use Rattle.text.specs.Unwritten.{whole}
use Rattle.listing.specs.Lists.{listed, Lists}
use Rattle.listing.specs.Print.{listing_room}

pub text_is : (bs : List ℕ) → is_tree bs ≡ true → (listed bs).payload ≡ listing (seen bs)
unfolding listed
text_is bs h = rw h

module _ (bs old : List ℕ) where
  pub lists_refused : {n : ℕ} → n ≡ cond (is_tree bs) done unsound → (n ≡ done → ⊥) → Lists bs old n 0 old
  unfolding listed
  lists_refused {n} e f = go (is_tree bs) refl
    where
      go : (b : Bool) → is_tree bs ≡ b → Lists bs old n 0 old
      go true h = absurd (f (e ∙ rw h))
      go false h = fills_refused (listed bs) old (e ∙ rw h) f (rw h)

  -- What is not refused is a sound tree, whose listing is filled in, where there is room.
  pub lists_sound : done ≡ cond (is_tree bs) done unsound → is_tree bs ≡ true
  lists_sound e = go (is_tree bs) refl
    where
      go : (b : Bool) → is_tree bs ≡ b → is_tree bs ≡ true
      go true h = h
      go false h = absurd (omega (arith, e, ap (λ b. cond b done unsound) h))

  pub lists_text : {n size : ℕ} {new cs : List ℕ} → is_tree bs ≡ true → cs ≡ bs → Fills (whole (listing (seen cs))) old n size new → Lists bs old n size new
  unfolding listed
  lists_text {n} {size} {new} h e f = rw h (subst (λ l. Fills (whole (listing (seen l))) old n size new) e f)

-- Room for every listing.
pub longest : (bs : List ℕ) → is_tree bs ≡ true → length (listing (seen bs)) ≤ listing_room
longest bs h = listing_longest (seen bs) (seen-sound bs h)
