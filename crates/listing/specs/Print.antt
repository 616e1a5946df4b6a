-- 02, section 1: what the program `list` prints.
use Rattle.std.specs.Prelude.{ℕ, ◌≡◌, cond, List, [], length, ltb}
use Rattle.protocol.specs.Numbers.{unsound}
use Rattle.protocol.specs.Buffer.{over}
use Rattle.protocol.specs.Text.{decimal, line, answer_key}
use Rattle.protocol.specs.Listing.{listing}
use Rattle.tree.specs.Seen.{seen}
use Rattle.soundness.specs.Sound.{is_tree}

-- The room that no listing exceeds (`listing_longest`), and one byte more than any lent form has (`tree_longest`).
abbrev pub listing_room : ℕ
listing_room = 17664

abbrev pub input_room : ℕ
input_room = 27331

-- The listing of a sound tree's lent form; for anything else the single line that tells 1.
unfoldable pub shown : List ℕ → List ℕ
shown input = cond (is_tree input) (listing (seen input)) (line answer_key (decimal unsound))

-- Nothing where the room is not enough for every listing.
unfoldable pub printed : ℕ → List ℕ → List ℕ
printed room input = cond (ltb room listing_room) [] (shown input)

-- The text stands at the front of the output, and the rest stays.
pub record Prints (s old : List ℕ) (size : ℕ) (new : List ℕ) : Type 0 where
  pub len : size ≡ length s
  pub bytes : new ≡ over s old
