-- `soundness::texts::characters_end` meets its contract. Assumes nothing.
use Prim.Native.Nat.{◌+◌}
use native.Mathlib.Omega.{arith}
use mathlib.Core.Path.{sym, ◌∙◌}
use Rattle.soundness.proofs.TextLaws.{Passing, pass_begins, pass_on, pass_two, pass_stop, pass_out}
use Rattle.soundness.proofs.texts.characters_end.Goals as goal
use Rattle.soundness.proofs.texts.characters_end.Goals.{Else-not-is_character}

passed-one : (c : Else-not-is_character) → (Passing c.args.tree.now c.args.from c.args.end (c.loop-at.at + 1))
passed-one c =
    pass_on c.loop-at.invariant (omega arith)
    (sym c.is_character.ensures ∙ c.if-not-is_character.false)

pub loop-at-init : goal.loop-at-init
loop-at-init c = pass_begins c.args.tree.now c.args.from c.args.end c.requires.0 c.requires.1

pub returns-then-not-is_character : goal.returns-then-not-is_character
returns-then-not-is_character c =
    pass_stop c.loop-at.invariant (omega arith)
    (sym c.is_character.ensures ∙ c.if-not-is_character.true)

pub returns-then-not-is_character-2 : goal.returns-then-not-is_character-2
returns-then-not-is_character-2 c =
    pass_stop (passed-one (goal.at.returns-then-not-is_character-2 c).Else-not-is_character) c.loop-at-test.true
    (sym c.is_character-in-loop-at.ensures ∙ c.if-not-is_character-2.true)

pub loop-at-preserved : goal.loop-at-preserved
loop-at-preserved c =
    pass_two c.loop-at.at (passed-one (goal.at.loop-at-preserved c).Else-not-is_character) c.loop-at-test.true
    (sym c.is_character-in-loop-at.ensures ∙ c.if-not-is_character-2.false)

pub returns-then-end-at : goal.returns-then-end-at
returns-then-end-at c = pass_out c.loop-at.invariant c.if-end-at.true

pub returns-then-not-is_character-3 : goal.returns-then-not-is_character-3
returns-then-not-is_character-3 c =
    pass_stop c.loop-at.invariant c.if-end-at.false
    (sym c.is_character-2.ensures ∙ c.if-not-is_character-3.true)

pub returns : goal.returns
returns c =
    pass_out
    (pass_on c.loop-at.invariant c.if-end-at.false
    (sym c.is_character-2.ensures ∙ c.if-not-is_character-3.false))
    c.loop-at-test.false
