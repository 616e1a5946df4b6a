-- `tree::record::Fields::step_code` meets its contract. Assumes nothing.
use Prim.Native.Nat.{◌/◌, ◌^◌}
use Rattle.protocol.specs.Numbers.{bit_step, step_bits}
use Rattle.protocol.proofs.PackLaws.{packing}
use Rattle.tree.proofs.record.Fields.step_code.Goals as goal

pub returns : goal.returns
returns c = packing.lower (c.args.self.format / 2 ^ bit_step) step_bits
