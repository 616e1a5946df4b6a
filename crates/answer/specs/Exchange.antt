-- No public promise is stated by these definitions: they follow the code step by step.
use Rattle.std.specs.Prelude.{◌≡◌, Result}
use Rattle.protocol.specs.Answer.{Answer}
use Rattle.answer.specs.declared.Failure.{Failure}
use Rattle.answer.specs.declared.Reply.{Reply}
use Rattle.answer.specs.declared.answer.Exchange.{Exchange}
use Rattle.answer.specs.Steps.{Attempts}

-- What answering in an exchange comes to. Cells and output are those that were lent.
pub record Exchanges (a : Answer) (old : Exchange) (r : Result Reply Failure) (new : Exchange) : Type 0 where
  pub answers : Attempts a old.cells.now old.out.now r new.cells.now new.out.now
  pub same_cells : new.cells.ghost_name ≡ old.cells.ghost_name
  pub same_out : new.out.ghost_name ≡ old.out.ghost_name
