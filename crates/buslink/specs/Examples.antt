-- 02, section 5, and 000, 4.2 and 4.4: identifiers, row by row, and the section's frame.
use Rattle.std.specs.Prelude.{ℕ, Bool, true, false, cond, ◌&&◌, List, [], ◌∷◌}
use Rattle.buslink.specs.Identifier.{is_station, is_indicator_type, identifier}

-- A station's frame of a type, and its identifier; none where the station is refused.
pub record Row : Type 0 where
  pub base : ℕ
  pub sub : ℕ
  pub kind : ℕ
  pub station : Bool
  pub identifier : ℕ

abbrev row : ℕ → ℕ → ℕ → ℕ → Row
row base sub kind i = record { base = base; sub = sub; kind = kind; station = true; identifier = i }

-- The table's first row, a last sub address, the next base address and the last row; the source's examples with indicators (1-1 and
-- 2-4), and the section's. The source's 8-6 is no station: by its formula 15550927h is 8-4's.
abbrev pub rows : List Row
rows =
    row 1 1 2 0x15550201
    ∷ row 2 5 2 0x1555020A
    ∷ row 3 1 2 0x1555020B
    ∷ row 8 5 2 0x15550228
    ∷ row 1 1 4 0x15550401
    ∷ row 2 4 8 0x15550809
    ∷ row 1 2 2 0x15550202
    ∷ row 8 4 9 0x15550927
    ∷ record { base = 8; sub = 6; kind = 9; station = false; identifier = 0 }
    ∷ []

-- What the definitions make of a row: a theorem, `rows_hold`, says that it is the row itself.
abbrev pub computed : Row → Row
computed r =
    record {
      base = r.base;
      sub = r.sub;
      kind = r.kind;
      station = is_station r.base r.sub && is_indicator_type r.kind;
      identifier = cond (is_station r.base r.sub) (identifier r.base r.sub r.kind) 0;
    }

-- Probe 1 at 21.00 with format 2, and probe 2 open: the data of type 2.
abbrev pub frame_data : List ℕ
frame_data = 0x08 ∷ 0x52 ∷ 0x00 ∷ 0x82 ∷ 0x00 ∷ 0x00 ∷ 0x00 ∷ 0x02 ∷ []
