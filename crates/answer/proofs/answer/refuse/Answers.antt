-- `answer::answer::refuse` meets its contract. Assumes nothing.
use Rattle.std.proofs.Common.{ap, ◌∙◌}
use Rattle.protocol.specs.Answer.{refusal_code}
use Rattle.answer.proofs.AnswerLaws.{refuses}
use Rattle.answer.proofs.answer.refuse.Goals as goal

pub returns : goal.returns
returns c = refuses (c.refusal_code-code.ensures ∙ ap refusal_code c.from.ensures) c.put_code.ensures
