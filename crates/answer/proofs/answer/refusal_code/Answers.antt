-- `answer::answer::refusal_code` meets its contract. Assumes nothing.
use Rattle.protocol.specs.Answer.{refusal_code}
use Rattle.answer.proofs.CodeLaws.{code-else}
use Rattle.answer.proofs.answer.refusal_code.Goals as goal

pub returns-in-Disabled : goal.returns-in-Disabled
unfolding refusal_code
returns-in-Disabled c = rw c.in-Disabled.is

pub returns-in-UnknownCommand : goal.returns-in-UnknownCommand
unfolding refusal_code
returns-in-UnknownCommand c = rw c.in-UnknownCommand.is

pub returns-in-NoReading : goal.returns-in-NoReading
unfolding refusal_code
returns-in-NoReading c = rw c.in-NoReading.is

pub returns-in_default : goal.returns-in_default
returns-in_default c =
    let arm = c.in_default in
    code-else c.args.refusal arm.not-Disabled arm.not-UnknownCommand arm.not-NoReading
