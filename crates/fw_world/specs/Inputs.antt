-- What a lane meets: the records of its capture, in order.
use Rattle.std.specs.Prelude.{ℕ}
use Rattle.fw_base.specs.declared.port.Port.{Port}
use Rattle.ip6_headers.specs.declared.any_ip.AnyIp.{AnyIp}

-- neither IPv4 nor IPv6; with a header that can't be read, of this kind; or a packet, where it was captured,
-- and at which second
pub data Input : Type 0 where
  Other : Input
  Malformed : ℕ → Input
  Packet : AnyIp → Port → ℕ → Input
