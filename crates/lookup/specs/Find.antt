-- No public promise is stated by these definitions: they follow the code step by step.
-- Lookups: the records that name a node.
use Rattle.std.specs.Prelude.{ℕ, List, get_or, drop, eqb}
use Rattle.protocol.specs.Tree.{places_from}
use Rattle.tree.specs.Seen.{records_from}
use Rattle.lookup.specs.declared.Table.{Table}

-- The places of the records of a table that name a node, which each does by its first byte.
unfoldable pub belonging : List ℕ → Table → ℕ → List ℕ
belonging bs table node =
    places_from table.first (λ b. eqb b node)
    (drop table.first (records_from table.size (λ r. get_or r 0 0) table.end (drop table.start bs)))
