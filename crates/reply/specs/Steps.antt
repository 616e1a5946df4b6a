-- No public promise is stated by these definitions: they follow the code step by step.
use Rattle.std.specs.Prelude.{ℕ, List, ◌∷◌, ◌++◌}
use Rattle.protocol.specs.Bytes.{half, word}
use Rattle.protocol.specs.Tree.{Property}

-- The numbers of a record, as its description has them.
unfoldable pub numbers_in : Property → List ℕ
numbers_in p = p.kind ∷ (word p.min ++ (word p.max ++ (half p.attribute ++ half p.format)))
