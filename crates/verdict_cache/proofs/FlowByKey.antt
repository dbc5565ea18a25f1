-- The flow of an IPv4 packet is a function of the packet's key.
use Rattle.std.proofs.Common.{◌≡◌, ℕ, Bool, ◌||◌, ◌==◌, Option, Some, None, refl, ap, ◌∙◌, sym, is_some, unwrap_or, if◌then◌else◌, arith}
use Rattle.packet_headers.specs.declared.flows.Flow.{Flow}
use Rattle.packet_headers.specs.Fields.{Fields}
use Rattle.packet_headers.specs.Flows.{flow_of}
use Rattle.packet_headers.specs.Transport.{tcp, udp, icmp, has_transport_header, ports_of, icmp_type_of}
use Rattle.verdict_cache.specs.Key.{key_of}
use Rattle.verdict_cache.specs.EqualKeys.{EqualKeysHaveOneFlow}
use Rattle.verdict_cache.specs.declared.key.Key.{Key}

-- Whether the packet has its transport header: TCP and UDP tell by their ports, ICMP by its type, and all
-- others by the offset alone.
abbrev has_header_by : Key → Bool
has_header_by key =
    if key.protocol == tcp || key.protocol == udp then is_some key.ports
    else if key.protocol == icmp then is_some key.icmp_type
    else key.is_offset_zero

abbrev flow_between_by : Key → ℕ × ℕ → Flow
flow_between_by key ports = record {
  protocol = key.protocol;
  source = key.source;
  source_port = ports.0;
  destination = key.destination;
  destination_port = ports.1;
}

abbrev flow_by : Key → Option Flow
flow_by key = if has_header_by key then Some (flow_between_by key (unwrap_or key.ports (0, 0))) else None

has_header_is : (p : Fields) → has_transport_header p ≡ has_header_by (key_of p)
unfolding ports_of icmp_type_of
has_header_is p = grind arith

-- a packet's flow is a function of the key
pub flow_of-by_key : (p : Fields) → flow_of p ≡ flow_by (key_of p)
unfolding flow_of
flow_of-by_key p = rw (has_header_is p) refl

-- packets of one key have one flow, or none has any
pub equal_keys_have_one_flow : EqualKeysHaveOneFlow
equal_keys_have_one_flow p q same = flow_of-by_key p ∙ ap flow_by same ∙ sym (flow_of-by_key q)
