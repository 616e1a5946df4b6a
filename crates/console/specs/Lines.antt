-- 01, Bench tree and its cases: the lines of a frame.
use Rattle.std.specs.Prelude.{ℕ, List, [], ◌∷◌, ◌++◌}
use Rattle.protocol.specs.Text.{decimal, hex, line, answer_key}

-- "reply"
abbrev pub reply_key : List ℕ
reply_key = 114 ∷ 101 ∷ 112 ∷ 108 ∷ 121 ∷ []

-- The two lines of a frame: its number, and the serial reply in hex.
unfoldable pub lines : ℕ → List ℕ → List ℕ
lines number reply = line answer_key (decimal number) ++ line reply_key (hex reply)
