-- Demand 3 of document 01, whole.
-- Assumes nothing.
use Prim.Native.Nat.{ℕ}
use Rattle.stream.proofs.DeliveryLaws.{deliveries}
use Rattle.demands.specs.Demand3.{Demand3}
use Rattle.demands.proofs.Requests.{serial_requests, udp_requests}

pub demand_3 : (address : ℕ) → Demand3 address
demand_3 address = record { serial = serial_requests address; udp = udp_requests; streams = deliveries address }
