-- 01, Bench tree and its cases: the cases that are marked to be proved, one row each. (The read case has status 01, as 003,
-- 5.4, decides.)
use Rattle.std.specs.Prelude.{ℕ, true, false, List, [], ◌∷◌, ◌++◌}
use Rattle.std.proofs.Math.Option.{Option, none, some}
use Rattle.protocol.specs.Frame.{Received, received, write_frame}
use Rattle.protocol.specs.Tree.{Cell}
use Rattle.protocol.specs.Answer.{Answer, answer}
use Rattle.protocol.specs.Bench.{bench_tree, bench_cells, cell}

-- A case: data, and what the bench box answers to it, host functions on: number, reply, cells, action and length; or an address and
-- data, and what is written: number and frame.
pub data Row : Type 0 where
  ask : List ℕ → Answer → Row
  write : ℕ → List ℕ → Received → Row

-- The same case with what the rules give.
unfoldable pub result : Row → Row
result (ask bs expected) = ask bs (answer bench_tree bench_cells true bs)
result (write address bs expected) = write address bs (write_frame address bs)

-- The cells, words and marks, while "Average" holds a number.
abbrev cells_with : ℕ → List Cell
cells_with average = cell 2100 true ∷ cell 8500 false ∷ cell average false ∷ cell 0 false ∷ cell 0 false ∷ []

abbrev shows : ℕ → Option ℕ → List ℕ → ℕ → List ℕ → Row
shows average action bs number reply =
    ask bs (record { number = number; reply = reply; cells = cells_with average; action = action; missing = 0 })

-- A row that changes no cell and takes no action; one whose reply, besides, repeats the request and adds some bytes.
abbrev unchanged : List ℕ → ℕ → List ℕ → Row
unchanged bs number reply = shows 4 none bs number reply

abbrev adds : List ℕ → ℕ → List ℕ → Row
adds bs number more = unchanged bs number (bs ++ more)

-- 02, section 7: a row whose path no node has, and the length of the part that none has. Its reply is the one of document 01.
abbrev lost : List ℕ → ℕ → Row
lost bs len = ask bs (record { number = 15; reply = 0x54 ∷ []; cells = cells_with 4; action = none; missing = len })

unfoldable pub marked_cases : List Row
marked_cases =
    unchanged (0xB4 ∷ 0x00 ∷ []) 0 (0x55 ∷ [])
    ∷ adds (0xB4 ∷ 0x01 ∷ 0x01 ∷ []) 0 (0x02 ∷ 0x00 ∷ 0x42 ∷ 0x6F ∷ 0x78 ∷ 0x00 ∷ [])
    ∷ adds (0xB4 ∷ 0x02 ∷ 0x01 ∷ 0x02 ∷ 0x02 ∷ []) 0
    (0x02 ∷ 0x00 ∷ 0x00 ∷ 0x00 ∷ 0x00 ∷ 0x00 ∷ 0x00 ∷ 0x00 ∷ 0x01 ∷ 0x00 ∷ 0x03 ∷ 0x10 ∷ 0x80
    ∷ 0x52 ∷ 0x61 ∷ 0x74 ∷ 0x65 ∷ 0x00 ∷ 0x53 ∷ 0x6C ∷ 0x6F ∷ 0x77 ∷ 0x00 ∷ 0x46 ∷ 0x61 ∷ 0x73 ∷ 0x74 ∷ 0x00 ∷ [])
    ∷ adds (0xB4 ∷ 0x03 ∷ 0x01 ∷ 0x01 ∷ 0x01 ∷ []) 0 (0x01 ∷ 0x00 ∷ 0x00 ∷ 0x08 ∷ 0x34 ∷ [])
    ∷ unchanged (0xB4 ∷ 0x03 ∷ 0x01 ∷ 0x01 ∷ 0x02 ∷ []) 12 (0x58 ∷ [])
    ∷ shows 0x40 none (0xB4 ∷ 0x04 ∷ 0x01 ∷ 0x02 ∷ 0x01 ∷ 0x00 ∷ 0x00 ∷ 0x00 ∷ 0x00 ∷ 0x40 ∷ []) 0
    (0xB4 ∷ 0x04 ∷ 0x01 ∷ 0x02 ∷ 0x01 ∷ 0x00 ∷ 0x00 ∷ 0x00 ∷ 0x00 ∷ 0x40 ∷ 0x01 ∷ [])
    ∷ adds (0xB4 ∷ 0x04 ∷ 0x01 ∷ 0x02 ∷ 0x01 ∷ 0x00 ∷ 0x00 ∷ 0x00 ∷ 0x00 ∷ 0x41 ∷ []) 13 (0x00 ∷ [])
    ∷ adds (0xB4 ∷ 0x04 ∷ 0x01 ∷ 0x02 ∷ 0x02 ∷ 0x00 ∷ 0x00 ∷ 0x00 ∷ 0x00 ∷ 0x02 ∷ []) 13 (0x00 ∷ [])
    ∷ shows 4 (some 4) (0xB4 ∷ 0x04 ∷ 0x01 ∷ 0x02 ∷ 0x03 ∷ 0x00 ∷ 0x00 ∷ 0x00 ∷ 0x00 ∷ 0x00 ∷ []) 0
    (0xB4 ∷ 0x04 ∷ 0x01 ∷ 0x02 ∷ 0x03 ∷ 0x00 ∷ 0x00 ∷ 0x00 ∷ 0x00 ∷ 0x00 ∷ 0x02 ∷ [])
    ∷ adds (0xB4 ∷ 0x05 ∷ 0x01 ∷ 0x01 ∷ 0x01 ∷ 0x00 ∷ 0x00 ∷ 0x00 ∷ 0x00 ∷ 0x00 ∷ []) 13
    (0x00 ∷ 0x52 ∷ 0x65 ∷ 0x61 ∷ 0x64 ∷ 0x20 ∷ 0x6F ∷ 0x6E ∷ 0x6C ∷ 0x79 ∷ 0x00 ∷ [])
    ∷ unchanged (0xB4 ∷ 0x04 ∷ 0x01 ∷ 0x02 ∷ 0x01 ∷ 0x00 ∷ 0x00 ∷ 0x00 ∷ 0x00 ∷ []) 11 (0x54 ∷ [])
    ∷ lost (0xB4 ∷ 0x03 ∷ 0x01 ∷ 0x03 ∷ 0x01 ∷ []) 2
    ∷ unchanged (0xB4 ∷ 0x06 ∷ []) 10 (0x59 ∷ [])
    ∷ write 0x3B (0xB4 ∷ 0x00 ∷ []) (received (0x10 ∷ 0x02 ∷ 0x3B ∷ 0xB4 ∷ 0x00 ∷ 0x10 ∷ 0x10 ∷ 0x10 ∷ 0x03 ∷ []))
    ∷ []
