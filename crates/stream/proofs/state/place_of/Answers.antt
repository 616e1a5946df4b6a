-- `stream::state::place_of` meets its contract. Assumes nothing.
use Rattle.std.proofs.Common.{◌≡◌, ◌+◌, ◌*◌, refl, ap₂, arith}
use Rattle.stream.specs.State.{length_in}
use Rattle.stream.proofs.PlaceLaws.{other_length, other_phase, most_low, too_much, stands_at}
use Rattle.stream.proofs.state.place_of.Goals as goal
use Rattle.stream.proofs.state.place_of.Goals.{After-from}

pub returns-then-state-ne-STATE_LEN : goal.returns-then-state-ne-STATE_LEN
returns-then-state-ne-STATE_LEN c = other_length c.args.state.now c.if-state-ne-STATE_LEN.true

pub returns-in_err-phase : goal.returns-in_err-phase
returns-in_err-phase c =
    rw c.from_residual.ensures (other_phase c.args.state.now c.if-state-ne-STATE_LEN.false c.in_err-phase.ensures)

pub returns-then-high-gt1 : goal.returns-then-high-gt1
returns-then-high-gt1 c =
    too_much c.args.state.now c.if-state-ne-STATE_LEN.false c.in_ok-phase.phase c.in_ok-phase.ensures refl
    (omega (arith, most_low c.in_ok-phase.phase))

-- The length of the content, as the form has it.
len_read : (c : After-from) → c.from-high.result * 256 + c.from.result ≡ length_in c.args.state.now
len_read c = ap₂ (λ x y. x * 256 + y) c.from-high.ensures c.from.ensures

pub returns-then-most_content-len : goal.returns-then-most_content-len
returns-then-most_content-len c =
    too_much c.args.state.now c.if-state-ne-STATE_LEN.false c.in_ok-phase.phase c.in_ok-phase.ensures
    (len_read (goal.at.returns-then-most_content-len c).After-from) (omega arith)

pub returns : goal.returns
returns c =
    stands_at c.args.state.now c.if-state-ne-STATE_LEN.false c.in_ok-phase.phase c.in_ok-phase.ensures
    (len_read (goal.at.returns c).After-from) (omega arith)
