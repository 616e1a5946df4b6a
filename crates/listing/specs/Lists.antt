-- 02, section 1: what listing a lent tree answers.
use Rattle.std.specs.Prelude.{ℕ, cond, List, []}
use Rattle.protocol.specs.Numbers.{done, unsound}
use Rattle.protocol.specs.Frame.{Received}
use Rattle.protocol.specs.Buffer.{text_number, Fills}
use Rattle.protocol.specs.Listing.{listing}
use Rattle.tree.specs.Seen.{seen}
use Rattle.soundness.specs.Sound.{is_tree}

-- Refusals: 1, or else the listing of the tree that the bytes stand for. (8 is for the room, and comes behind.)
unfoldable pub listed : List ℕ → Received
listed tree =
    cond (is_tree tree) (record { number = done; payload = listing (seen tree) }) (record { number = unsound; payload = [] })

abbrev pub listing_in : List ℕ → List ℕ
listing_in tree = (listed tree).payload

abbrev pub list_number : ℕ → List ℕ → ℕ
list_number room tree = text_number (listed tree) room

abbrev pub Lists : List ℕ → List ℕ → ℕ → ℕ → List ℕ → Type 0
Lists tree old n size new = Fills (listed tree) old n size new
