-- No public promise is stated by these definitions: they follow the code step by step.
-- A record as its bytes, and where a record or a text lies.
use Rattle.std.specs.Prelude.{ℕ, zero, suc, ◌≡◌, ◌<◌, ◌≤◌, List, [], ◌∷◌, get_or, drop, Option, Some, None, MatchOption}
use Rattle.tree.specs.Seen.{first_text}
use Rattle.tree.specs.Lookup.{text_start}

-- So many bytes from a place on.
unfoldable pub entries : ℕ → ℕ → List ℕ → List ℕ
entries i zero r = []
entries i (suc n) r = get_or r i 0 ∷ entries (suc i) n r

-- Where the entry k of so many lies, or nothing where there is no such entry.
abbrev pub PlaceIs : ℕ → ℕ → ℕ → Option ℕ → Type 0
PlaceIs count k at r = MatchOption r (count ≤ k) (λ n. (k < count) × (n ≡ at))

-- Where a text begins that may have a place, and the text.
abbrev pub start_of : List ℕ → Option ℕ → ℕ
start_of bs None = 0
start_of bs (Some from) = text_start bs from

abbrev pub text_of : List ℕ → Option ℕ → List ℕ
text_of bs None = []
text_of bs (Some from) = first_text (drop from bs)
