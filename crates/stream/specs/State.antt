-- The form of a stream reader's state in a lent buffer.
use Rattle.std.specs.Prelude.{ℕ, ◌+◌, ◌*◌, Bool, true, false, cond, ◌&&◌, ◌||◌, List, [], ◌∷◌, ◌++◌, length, get_or, take, drop, eqb, leb}
use Rattle.std.proofs.Math.Option.{Option, none, some}
use Rattle.protocol.specs.Numbers.{max_content}
use Rattle.protocol.specs.Bytes.{half}
use Rattle.protocol.specs.Buffer.{over}
use Rattle.protocol.specs.Stream.{Stream, outside, inside}

-- docs/FORMATS.md: the phase, the length of the content in two bytes, and 258 places for the content.
abbrev pub state_length : ℕ
state_length = 261

abbrev pub phase_of : Stream → ℕ
phase_of (outside false) = 0
phase_of (outside true) = 1
phase_of (inside false c) = 2
phase_of (inside true c) = 3

abbrev pub content_in : Stream → List ℕ
content_in (outside w) = []
content_in (inside w c) = c

-- The bytes of a form that count. What lies behind the content is not looked at.
unfoldable pub state_form : Stream → List ℕ
state_form s = phase_of s ∷ (half (length (content_in s)) ++ content_in s)

-- The bytes of a state once the reader stands at s: its form, over the bytes that were there.
abbrev pub keep : Stream → List ℕ → List ℕ
keep s state = over (state_form s) state

-- Reading a form.
abbrev pub phase_in : List ℕ → ℕ
phase_in state = get_or state 0 0

abbrev pub length_in : List ℕ → ℕ
length_in state = get_or state 1 0 * 256 + get_or state 2 0

unfoldable pub has_form : List ℕ → Bool
has_form state =
    eqb (length state) state_length
    && (leb (phase_in state) 3 && (leb (length_in state) max_content && (leb 2 (phase_in state) || eqb (length_in state) 0)))

unfoldable pub stream_with : ℕ → List ℕ → Stream
stream_with phase content =
    cond (eqb phase 3) (inside true content)
    (cond (eqb phase 2) (inside false content) (outside (eqb phase 1)))

-- Where the reader stands that a state is the form of; none where it has no form.
abbrev pub standing : List ℕ → Stream
standing state = stream_with (phase_in state) (take (length_in state) (drop 3 state))

unfoldable pub stream_of : List ℕ → Option Stream
stream_of state = cond (has_form state) (some (standing state)) none
