-- `pualirqiq::pq_begin_buslink` meets its contract. Assumes nothing.
use mathlib.Core.Path.{subst}
use Rattle.buslink.specs.Receive.{table_size}
use Rattle.buslink.proofs.ReceiveLaws.{table_test}
use Rattle.pualirqiq.specs.Calls.{Zeroes}
use Rattle.pualirqiq.proofs.pq_begin_buslink.Goals as goal

pub returns : goal.returns
returns c = subst (λ t. Zeroes t table_size c.args.records.now c.clear.result c.clear.new.buffer) (table_test c.args.records.now) c.clear.ensures
