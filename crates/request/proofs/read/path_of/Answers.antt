-- `request::read::path_of` meets its contract. Assumes nothing.
use native.Mathlib.Omega.{arith}
use mathlib.Core.Path.{◌≡◌, ◌∙◌}
use lib.ListN.{length, replicate}
use Rattle.protocol.specs.Numbers.{max_depth}
use Rattle.protocol.specs.Buffer.{Put}
use Rattle.protocol.proofs.BufferLaws.{put_fits, over_put, over_front}
use Rattle.request.specs.Asked.{padded}
use Rattle.request.proofs.read.path_of.Goals as goal
use Rattle.request.proofs.read.path_of.Goals.{After-put_all-len}

-- All of the bytes are put.
whole : (c : After-put_all-len) → Put 0 c.args.bytes.now (replicate max_depth 0) c.put_all-len.result c.put_all-len.new.out
whole c = put_fits {ys = c.args.bytes.now} (omega arith) c.put_all-len.ensures

zeros : (c : After-put_all-len) → c.put_all-len.new.out ≡ padded c.args.bytes.now
unfolding padded
zeros c = (whole c).bytes ∙ over_put c.args.bytes.now (replicate max_depth 0)

pub returns-clause-path : goal.returns-clause-path
unfolding padded
returns-clause-path c =
    let at = (goal.at.returns-clause-path c).After-put_all-len in
    let len : c.put_all-len.result ≡ length c.args.bytes.now = omega (arith, (whole at).next) in
    record { is = over_front c.args.bytes.now (replicate max_depth 0) len (zeros at); len = len }

pub returns-clause-zeros : goal.returns-clause-zeros
returns-clause-zeros c = zeros (goal.at.returns-clause-zeros c).After-put_all-len
