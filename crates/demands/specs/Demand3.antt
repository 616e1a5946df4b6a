-- 01, demand 3, whole, for one address: what the exports promise, in one statement.
use Rattle.std.specs.Prelude.{ℕ, List}
use Rattle.protocol.specs.Numbers.{room_serial, room_udp}
use Rattle.protocol.specs.Request.{serial_form, udp_form, read_serial, read_udp}
use Rattle.stream.specs.Delivery.{Delivery, Deliveries, Begins, Delivered}
use Rattle.demands.specs.Requests.{Requests}

pub record Demand3 (address : ℕ) : Type 0 where
  pub serial : Requests (serial_form address) (read_serial address) room_serial
  pub udp : Requests udp_form read_udp room_udp
  -- every list of deliveries to the stream reader, from every state that stands for the beginning of a stream
  pub streams : (state : List ℕ) (ds : List Delivery) → Begins state → Deliveries address state ds → Delivered address ds
