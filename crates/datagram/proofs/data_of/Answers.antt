-- `datagram::data_of` meets its contract. Assumes nothing.
use Rattle.std.proofs.Common.{refl, ap, ◌∙◌}
use Rattle.datagram.proofs.UdpLaws.{data_told}
use Rattle.datagram.proofs.data_of.Goals as goal

pub returns : goal.returns
returns c =
    ap (λ p. p.now) c.unwrap_or.ensures
    ∙ data_told c.args.d.now c.payload_of.result _ refl c.payload_of.ensures.number c.payload_of.ensures.payload
