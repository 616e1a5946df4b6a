-- A frame, put together of the pieces that are written one behind the other.
-- Assumes nothing.
use Rattle.std.proofs.Common.{◌≡◌, ℕ, ◌+◌, ◌-◌, ◌*◌, ◌≤◌, List, [], ◌∷◌, ◌++◌, length, sym, ap, ◌∙◌, append_assoc, arith, length-append}
use Rattle.protocol.specs.Numbers.{DLE, STX, ETX}
use Rattle.protocol.specs.Frame.{doubled, double, checksum, content_of, wrap, frame}
use Rattle.protocol.proofs.FrameLaws.{double_snoc, length-doubled, length-double}
use Rattle.frame.specs.Steps.{byte_sum}

-- The pieces before the checksum, and all of them.
abbrev pub front : ℕ → List ℕ → List ℕ
front a d = (DLE ∷ STX ∷ doubled a) ++ double d

abbrev pub pieces : ℕ → List ℕ → ℕ → List ℕ
pieces a d k = (front a d ++ doubled k) ++ DLE ∷ ETX ∷ []

pub front_short : (a : ℕ) (d : List ℕ) → length (front a d) ≤ 4 + 2 * length d
front_short a d = omega (arith, length-doubled a, length-double d, length-append (DLE ∷ STX ∷ doubled a) (double d))

pub pieces_frame : (a : ℕ) (d : List ℕ) (k : ℕ) → k ≡ 255 - byte_sum (a ∷ d) → pieces a d k ≡ frame a d
unfolding frame wrap content_of checksum double
pieces_frame a d k h =
    ap (λ l. DLE ∷ STX ∷ (l ++ DLE ∷ ETX ∷ []))
    (append_assoc (doubled a) (double d) (doubled k)
    ∙ ap (λ l. doubled a ++ l) (sym (double_snoc d k) ∙ ap (λ x. double (d ++ x ∷ [])) h))
