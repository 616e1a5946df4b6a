-- A listing that a call hands out: whole, in order, and told apart from every other.
-- Assumes nothing.
use Prim.Native.Nat.{ℕ, ◌<◌, ◌≤◌}
use native.Mathlib.Omega.{arith}
use mathlib.Core.Path.{◌≡◌, refl, sym, ap, ◌∙◌}
use mathlib.Core.Bool.{Bool, true, false, cond}
use mathlib.Core.List.{List, []}
use lib.ListN.{length, take}
use Rattle.protocol.specs.Numbers.{done, unsound, no_room}
use Rattle.protocol.specs.Tree.{Tree, sound}
use Rattle.protocol.specs.Listing.{listing, entries}
use Rattle.protocol.proofs.TestLaws.{and_left}
use Rattle.protocol.proofs.FillLaws.{filled, fills_kept, fills_other, fills_less}
use Rattle.protocol.proofs.OnceLaws.{nodes_once, nodes_none, properties_once, properties_none, subtree_is, items-found}
use Rattle.protocol.proofs.ToldLaws.{listing_told}
use Rattle.protocol.proofs.LongestLaws.{listing_longest}
use Rattle.tree.specs.Form.{tree_form}
use Rattle.tree.specs.Seen.{seen, same}
use Rattle.tree.proofs.SameLaws.{same_eq}
use Rattle.soundness.specs.Sound.{is_tree}
use Rattle.soundness.proofs.FormLaws.{seen-sound}
use Rattle.listing.specs.Lists.{listed, Lists}
use Rattle.listing.specs.Print.{listing_room}
use Rattle.listing.proofs.ListsLaws.{text_is as listing-is}
use Rattle.listing.proofs.PrintLaws.{shown_front}
use Rattle.demands.specs.Listing.{ListedOnce, InOrder, HandsOut, ListingShows}

once : (t : Tree) → sound t ≡ true → ListedOnce t
once t s =
    record {
      nodes_once = nodes_once t s;
      nodes_none = nodes_none t s;
      properties_once = properties_once t s;
      properties_none = properties_none t s;
    }

in_order : (t : Tree) → sound t ≡ true → InOrder t
in_order t s = record { subtrees = subtree_is t s; found = items-found t s }

-- What a call has to answer, by whether a tree was lent.
module _ (tree : List ℕ) where
  listed_by : (b : Bool) → is_tree tree ≡ b → (listed tree).number ≡ cond b done unsound
  unfolding listed
  listed_by true e = rw e
  listed_by false e = rw e

  listed_not : is_tree tree ≡ false → (listed tree).payload ≡ []
  unfolding listed
  listed_not e = rw e

  is_lent_lem : (listed tree).number ≡ done → is_tree tree ≡ true
  is_lent_lem h = go (is_tree tree) refl
    where
      go : (b : Bool) → is_tree tree ≡ b → is_tree tree ≡ true
      go true b = b
      go false b = absurd (omega (arith, listed_by false b, h))

  has_room : (listed tree).number ≡ no_room → ⊥
  has_room h = go (is_tree tree) refl
    where
      go : (b : Bool) → is_tree tree ≡ b → ⊥
      go true b = absurd (omega (arith, listed_by true b, h))
      go false b = absurd (omega (arith, listed_by false b, h))

module _ (tree old : List ℕ) {n len : ℕ} {new : List ℕ} (l : Lists tree old n len new) where
  lent : n ≡ done → is_tree tree ≡ true
  lent e = is_lent_lem tree (filled (listed tree) old l e).0

  not_long : len ≤ listing_room
  not_long = go (is_tree tree) refl
    where
      go : (b : Bool) → is_tree tree ≡ b → len ≤ listing_room
      go true b = omega (arith, l.len, ap length (listing-is tree b), listing_longest (seen tree) (seen-sound tree b))
      go false b = omega (arith, l.len, ap length (listed_not tree b))

-- With 0: a sound tree, whose form was lent, and its listing at the front.
module _ (tree old : List ℕ) {len : ℕ} {new : List ℕ} (l : Lists tree old done len new) where
  tree_is : sound (seen tree) ≡ true
  tree_is = seen-sound tree (lent tree old l refl)

  form_is : tree ≡ tree_form (seen tree)
  unfolding is_tree
  form_is = same_eq tree (tree_form (seen tree)) (and_left (same tree (tree_form (seen tree))) _ (lent tree old l refl))

  text_is : take len new ≡ listing (seen tree)
  text_is = (filled (listed tree) old l refl).1 ∙ listing-is tree (lent tree old l refl)

  hands_out : HandsOut tree len new
  hands_out =
      record {
        tree_sound = tree_is;
        tree_form_lem = form_is;
        text = text_is;
        once = once (seen tree) tree_is;
        in_order = in_order (seen tree) tree_is;
      }

same-listed : (tree old : List ℕ) {len : ℕ} {new : List ℕ} → Lists tree old done len new
    → (tree' old' : List ℕ) {len' : ℕ} {new' : List ℕ} → Lists tree' old' done len' new' → take len new ≡ take len' new'
    → entries (seen tree) ≡ entries (seen tree')
same-listed tree old l tree' old' l' e =
    listing_told (seen tree) (seen tree') (tree_is tree old l) (tree_is tree' old' l') (sym (text_is tree old l) ∙ e ∙ text_is tree' old' l')

-- With 8 the room is shorter than what is told, and with 1 that is 0.
short_room : (tree old : List ℕ) {len : ℕ} {new : List ℕ} → Lists tree old no_room len new → length old < len
short_room tree old l = fills_less (listed tree) old l (has_room tree)

nothing_told : (tree old : List ℕ) {len : ℕ} {new : List ℕ} → Lists tree old unsound len new → len ≡ 0
nothing_told tree old {len} l = go (is_tree tree) refl
  where
    number_is : unsound ≡ (listed tree).number
    number_is = fills_other (listed tree) old l (λ e. omega (arith, e)) (λ e. omega (arith, e))

    go : (b : Bool) → is_tree tree ≡ b → len ≡ 0
    go true b = absurd (omega (arith, number_is, listed_by tree true b))
    go false b = l.len ∙ ap length (listed_not tree b)

pub listing-shows : ListingShows
listing-shows =
    record {
      handed_out = λ tree old l. hands_out tree old l;
      told = listing_told;
      told_apart = λ tree old l tree' old' l'. same-listed tree old l tree' old' l';
      refused = λ tree old l. fills_kept (listed tree) old l;
      too_short_case = λ tree old l. short_room tree old l;
      broken = λ tree old l. nothing_told tree old l;
      longest = λ tree old l. not_long tree old l;
      front_enough = shown_front;
    }
