-- 01, Bench tree and its cases: the tree, and its cells where each case starts.
use Rattle.std.specs.Prelude.{ℕ, Bool, true, false, List, [], ◌∷◌}
use Rattle.protocol.specs.Numbers.{standard, enumeration}
use Rattle.protocol.specs.Tree.{Node, Property, Tree, Cell}

-- A property of type 1 with one unit text.
abbrev plain_property : ℕ → ℕ → ℕ → ℕ → ℕ → List ℕ → List ℕ → Property
plain_property node min max attribute format label unit =
    record {
      node = node;
      kind = standard;
      min = min;
      max = max;
      attribute = attribute;
      format = format;
      label = label;
      options = unit ∷ [];
    }

-- "Probe 1", "Probe 2": live, read only, signed, two decimals, unit "C".
abbrev probe : ℕ → Property
probe digit = plain_property 1 0 0 0x2001 0x8002 (0x50 ∷ 0x72 ∷ 0x6F ∷ 0x62 ∷ 0x65 ∷ 0x20 ∷ digit ∷ []) (0x43 ∷ [])

-- "Average": a setting from 1 to 64.
abbrev average : Property
average = plain_property 2 1 64 0x0003 0x0000 (0x41 ∷ 0x76 ∷ 0x65 ∷ 0x72 ∷ 0x61 ∷ 0x67 ∷ 0x65 ∷ []) []

-- "Rate": a setting with the options "Slow" and "Fast".
abbrev rate : Property
rate =
    record {
      node = 2;
      kind = enumeration;
      min = 0;
      max = 1;
      attribute = 0x0003;
      format = 0x1080;
      label = 0x52 ∷ 0x61 ∷ 0x74 ∷ 0x65 ∷ [];
      options = (0x53 ∷ 0x6C ∷ 0x6F ∷ 0x77 ∷ []) ∷ (0x46 ∷ 0x61 ∷ 0x73 ∷ 0x74 ∷ []) ∷ [];
    }

-- "Restart": an action.
abbrev restart : Property
restart = plain_property 2 0 0 0x0002 0x0000 (0x52 ∷ 0x65 ∷ 0x73 ∷ 0x74 ∷ 0x61 ∷ 0x72 ∷ 0x74 ∷ []) []

abbrev node : ℕ → List ℕ → Node
node parent name = record { parent = parent; name = name }

-- "Box", and its children "Live" and "Setup".
unfoldable pub bench_tree : Tree
bench_tree =
    record {
      nodes =
          node 0 (0x42 ∷ 0x6F ∷ 0x78 ∷ [])
          ∷ node 0 (0x4C ∷ 0x69 ∷ 0x76 ∷ 0x65 ∷ [])
          ∷ node 0 (0x53 ∷ 0x65 ∷ 0x74 ∷ 0x75 ∷ 0x70 ∷ [])
          ∷ [];
      properties = probe 0x31 ∷ probe 0x32 ∷ average ∷ rate ∷ restart ∷ [];
    }

abbrev pub cell : ℕ → Bool → Cell
cell word ready = record { word = word; ready = ready }

-- Probe 1 is ready at 21.00; probe 2 is not, with the word of an 85.00 in it; the settings hold 4 and 0.
unfoldable pub bench_cells : List Cell
bench_cells = cell 2100 true ∷ cell 8500 false ∷ cell 4 false ∷ cell 0 false ∷ cell 0 false ∷ []
