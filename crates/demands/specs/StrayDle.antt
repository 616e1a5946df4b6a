-- 02, section 2, the stray DLE: what deliveries to the stream reader leave and hand up.
use Rattle.std.specs.Prelude.{ℕ, suc, ◌≡◌, Bool, false, List, [], ◌∷◌, ◌++◌, length, eqb}
use Rattle.protocol.specs.Numbers.{no_preamble, DLE, STX}
use Rattle.protocol.specs.Frame.{frame, received, refused, read_frame, Sized}
use Rattle.protocol.specs.Stream.{Stream, outside, inside, begin, strays, after, handed_up}
use Rattle.stream.specs.State.{standing}
use Rattle.stream.specs.Delivery.{Delivery, Deliveries, Begins, joined, handed_by, state_after}

-- Deliveries from the beginning of a stream that took bytes which leave the reader outside, and then more.
pub record Took (address : ℕ) (state : List ℕ) (ds : List Delivery) (before more : List ℕ) : Type 0 where
  pub begins : Begins state
  pub calls : Deliveries address state ds
  pub waiting : Bool
  pub left_outside : after begin before ≡ outside waiting
  pub bytes : joined ds ≡ before ++ more

-- Where they leave the reader, with nothing handed up beyond what the first bytes hand up.
pub record Leaves (address : ℕ) (state : List ℕ) (ds : List Delivery) (before : List ℕ) (s : Stream) : Type 0 where
  pub stands : standing (state_after state ds) ≡ s
  pub none_handed : handed_by 0 ds ≡ handed_up address before

pub record StrayDle (address : ℕ) : Type 0 where
  -- a run of one or more 10h and then 02 opens a frame with no content
  pub opens : (state : List ℕ) (ds : List Delivery) (before : List ℕ) (n : ℕ)
      → Took address state ds before (strays (suc n) ++ STX ∷ []) → Leaves address state ds before (inside false [])
  -- with any other byte but 10h behind it, it leaves nothing waiting
  pub others : (state : List ℕ) (ds : List Delivery) (before : List ℕ) (n b : ℕ) → eqb b DLE ≡ false → eqb b STX ≡ false
      → Took address state ds before (strays (suc n) ++ b ∷ []) → Leaves address state ds before begin
  -- a good frame for the address behind any number of 10h is handed up at its first sending
  pub first_sending : (state : List ℕ) (ds : List Delivery) (before d : List ℕ) (n : ℕ) → Sized d
      → Took address state ds before (strays n ++ frame address d)
      → handed_by 0 ds ≡ handed_up address before ++ record { frame = received d; end = length (joined ds) } ∷ []
  -- the stream rule alone changed: a whole string that begins with two 10h is refused with 2
  pub strings : (rest : List ℕ) → read_frame address (DLE ∷ DLE ∷ rest) ≡ refused no_preamble
