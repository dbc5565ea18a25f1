-- Who speaks to whom in a captured frame, by either version of the internet protocol.
use Rattle.std.specs.Prelude.{ℕ, List, Bool, false, ◌==◌, ◌&&◌, Option, Some, None, unwrap_or, if◌then◌else◌}
use Rattle.std.specs.Option.{option_eq, option_map}
use Rattle.fw_base.specs.declared.link.Link.{Link}
use Rattle.packet_headers.specs.declared.flows.Flow.{Flow}
use Rattle.packet_headers.specs.Flows as four
use Rattle.ip6_headers.specs.declared.any_ip.AnyIp.{AnyIp}
use Rattle.ip6_headers.specs.declared.any_ip.AnyIp.TheVariants as ip
use Rattle.ip6_headers.specs.declared.any_packet.AnyPacket.{AnyPacket}
use Rattle.ip6_headers.specs.declared.any_packet.AnyPacket.TheVariants as packet
use Rattle.ip6_headers.specs.Fields6.{Fields6}
use Rattle.ip6_headers.specs.Transport6 as six
use Rattle.ip6_headers.specs.Reading.{read_any}
use Rattle.report_flows.specs.declared.flow.Flow6.{Flow6}
use Rattle.report_flows.specs.declared.flow.AnyFlow.{AnyFlow}
use Rattle.report_flows.specs.declared.flow.AnyFlow.TheVariants.{Four, Six}

-- the addresses with these ports
abbrev pub flow6_between : Fields6 → ℕ × ℕ → Flow6
flow6_between f ports = record {
  source = record { 0 = f.source };
  destination = record { 0 = f.destination };
  source_port = ports.0;
  destination_port = ports.1;
  protocol = f.protocol;
}

-- An IPv6 packet with its transport header has a flow; protocols without ports have 0 for them.
unfoldable pub flow6_of : Fields6 → Option Flow6
flow6_of f = if six.has_transport_header6 f then Some (flow6_between f (unwrap_or (six.ports6_of f) (0, 0))) else None

-- the flow of a packet of either version
abbrev pub flow_of : AnyIp → Option AnyFlow
flow_of (ip.Four f) = option_map Four (four.flow_of f)
flow_of (ip.Six f) = option_map Six (flow6_of f)

-- the flow of what a frame is
abbrev pub flow_of_any : AnyPacket → Option AnyFlow
flow_of_any (packet.Ip ip) = flow_of ip
flow_of_any packet.Other = None
flow_of_any (packet.Malformed kind) = None

-- the flow of a captured frame, if it has one
abbrev pub flow_in : Link → List ℕ → Option AnyFlow
flow_in link bytes = flow_of_any (read_any link bytes)

-- two IPv4 flows are one
abbrev pub flow4_eq : Flow → Flow → Bool
flow4_eq a b =
    a.source.0 == b.source.0 && (a.destination.0 == b.destination.0
    && (a.source_port == b.source_port && (a.destination_port == b.destination_port && a.protocol == b.protocol)))

-- two IPv6 flows are one
abbrev pub flow6_eq : Flow6 → Flow6 → Bool
flow6_eq a b =
    a.source.0 == b.source.0 && (a.destination.0 == b.destination.0
    && (a.source_port == b.source_port && (a.destination_port == b.destination_port && a.protocol == b.protocol)))

-- two flows are one
abbrev pub flow_eq : AnyFlow → AnyFlow → Bool
flow_eq (Four a) (Four b) = flow4_eq a b
flow_eq (Four a) (Six b) = false
flow_eq (Six a) (Four b) = false
flow_eq (Six a) (Six b) = flow6_eq a b

-- two records have the same flow, or none has one
abbrev pub same_flow : Option AnyFlow → Option AnyFlow → Bool
same_flow = option_eq flow_eq
