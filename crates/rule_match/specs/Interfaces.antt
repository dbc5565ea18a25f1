-- The interface that a packet passed (ipfw(8), "RULE OPTIONS": recv, xmit, via). A packet of a capture of
-- incoming packets has a receive interface alone, one of outgoing packets a transmit interface alone.
use Rattle.std.specs.Prelude.{ℕ, Bool, true, false, ◌&&◌, List, nat_eq}
use Rattle.std.specs.Cmp.Lexicographic.{pointwise}
use Rattle.std.specs.List.{starts_with}
use Rattle.fw_base.specs.declared.port.Direction.{Direction}
use Rattle.fw_base.specs.declared.port.Direction.TheVariants.{In, Out}
use Rattle.fw_base.specs.declared.port.Port.{Port}
use Rattle.fw_rule.specs.declared.iface.Iface.{Iface}
use Rattle.fw_rule.specs.declared.iface.Iface.TheVariants.{AnyIface, Exact, Begins}

-- the packet came in
abbrev pub is_in : Direction → Bool
is_in In = true
is_in Out = false

-- the packet went out
abbrev pub is_out : Direction → Bool
is_out In = false
is_out Out = true

-- the interface is asked for by `any`, by its name, or by a start of its name followed by `*`
abbrev pub is_asked_for : List ℕ → Iface → Bool
is_asked_for interface AnyIface = true
is_asked_for interface (Exact name) = pointwise nat_eq name interface
is_asked_for interface (Begins start) = starts_with nat_eq interface start

-- the packet's receive interface is asked for
abbrev pub holds_recv : Port → Iface → Bool
holds_recv port asked = is_in port.direction && is_asked_for port.interface asked

-- the packet's transmit interface is asked for
abbrev pub holds_xmit : Port → Iface → Bool
holds_xmit port asked = is_out port.direction && is_asked_for port.interface asked

-- the packet's interface is asked for, whichever of the two it has
abbrev pub holds_via : Port → Iface → Bool
holds_via port asked = is_asked_for port.interface asked
