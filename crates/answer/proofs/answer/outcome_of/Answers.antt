-- `answer::answer::outcome_of` meets its contract. Assumes nothing.
use Rattle.std.proofs.Common.{refl, inl, inr}
use Rattle.protocol.specs.Answer.{write_number, action_of}
use Rattle.answer.proofs.answer.outcome_of.Goals as goal

pub returns-in-Saved : goal.returns-in-Saved
unfolding write_number action_of
returns-in-Saved c = rw c.in-Saved.is (record { number = refl; acts = refl; tells = refl })

pub returns-in-Taken : goal.returns-in-Taken
unfolding write_number action_of
returns-in-Taken c = rw c.in-Taken.is (record { number = refl; acts = refl; tells = refl })

pub returns-in-ReadOnly : goal.returns-in-ReadOnly
unfolding write_number action_of
returns-in-ReadOnly c =
    elim c.in-ReadOnly.is [
      | inl e ↦ rw e (record { number = refl; acts = refl; tells = refl })
      | inr f ↦
          elim f [
            | inl e ↦ rw e (record { number = refl; acts = refl; tells = refl })
            | inr e ↦ rw e (record { number = refl; acts = refl; tells = refl })
          ]
    ]
