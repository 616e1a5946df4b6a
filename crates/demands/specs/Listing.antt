-- 02, section 1: what a listing shows, whichever call hands it out. A listing is made of the tree alone: no call that lists gets
-- cells.
use Rattle.std.specs.Prelude.{ℕ, ◌<◌, ◌≤◌, ◌≡◌, true, List, [], ◌∷◌, ◌++◌, length, take}
use Rattle.protocol.specs.Numbers.{done, unsound, no_room}
use Rattle.protocol.specs.Tree.{Tree, sound, children_of}
use Rattle.protocol.specs.Listing.{subtree, items, entries, listing}
use Rattle.protocol.specs.Listed.{All, node_times, property_times, each_from, FindsItem}
use Rattle.tree.specs.Form.{tree_form}
use Rattle.tree.specs.Seen.{seen}
use Rattle.listing.specs.Lists.{Lists}
use Rattle.listing.specs.Print.{listing_room, input_room, shown}

-- Every node and every property of a sound tree stands in the listing exactly once, and nothing else does.
pub record ListedOnce (t : Tree) : Type 0 where
  pub nodes_once : (k : ℕ) → k < length t.nodes → node_times k (items t) ≡ 1
  pub nodes_none : (k : ℕ) → length t.nodes ≤ k → node_times k (items t) ≡ 0
  pub properties_once : (p : ℕ) → p < length t.properties → property_times p (items t) ≡ 1
  pub properties_none : (p : ℕ) → length t.properties ≤ p → property_times p (items t) ≡ 0

-- Each node, then its children's subtrees in number order; and the path and index of each item are those by which a request finds it.
pub record InOrder (t : Tree) : Type 0 where
  pub subtrees : (k : ℕ) (path : List ℕ)
      → subtree t k path
      ≡ record { place = k; path = path } ∷ each_from (λ child number. subtree t child (path ++ number ∷ [])) 1 (children_of t k)
  pub found : All (FindsItem t) (items t)

-- What a call hands out with 0 is the listing of a sound tree, whose form was lent.
pub record HandsOut (tree : List ℕ) (len : ℕ) (new : List ℕ) : Type 0 where
  pub tree_sound : sound (seen tree) ≡ true
  pub tree_form_lem : tree ≡ tree_form (seen tree)
  pub text : take len new ≡ listing (seen tree)
  pub once : ListedOnce (seen tree)
  pub in_order : InOrder (seen tree)

pub record ListingShows : Type 0 where
  pub handed_out : (tree old : List ℕ) {len : ℕ} {new : List ℕ} → Lists tree old done len new → HandsOut tree len new
  -- From a listing its entries can be told apart: no two sound trees that differ in what is listed have the same listing, and
  -- two calls that hand out the same text list the same.
  pub told : (t u : Tree) → sound t ≡ true → sound u ≡ true → listing t ≡ listing u → entries t ≡ entries u
  pub told_apart : (tree old : List ℕ) {len : ℕ} {new : List ℕ} → Lists tree old done len new
      → (tree' old' : List ℕ) {len' : ℕ} {new' : List ℕ} → Lists tree' old' done len' new' → take len new ≡ take len' new'
      → entries (seen tree) ≡ entries (seen tree')
  -- A refusal leaves the output; 8 tells the length for which there is too little room, 1 tells 0.
  pub refused : (tree old : List ℕ) {n len : ℕ} {new : List ℕ} → Lists tree old n len new → (n ≡ done → ⊥) → new ≡ old
  pub too_short_case : (tree old : List ℕ) {len : ℕ} {new : List ℕ} → Lists tree old no_room len new → length old < len
  pub broken : (tree old : List ℕ) {len : ℕ} {new : List ℕ} → Lists tree old unsound len new → len ≡ 0
  -- No listing is longer than 17,664 bytes; and so much of an input as the program reads tells what all of it would.
  pub longest : (tree old : List ℕ) {n len : ℕ} {new : List ℕ} → Lists tree old n len new → len ≤ listing_room
  pub front_enough : (input : List ℕ) → shown (take input_room input) ≡ shown input
