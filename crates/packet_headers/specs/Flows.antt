-- The flow of a packet: who speaks to whom, by which protocol.
use Rattle.std.specs.Prelude.{ℕ, Option, Some, None, unwrap_or, if◌then◌else◌}
use Rattle.packet_headers.specs.declared.flows.Flow.{Flow}
use Rattle.packet_headers.specs.Fields.{Fields}
use Rattle.packet_headers.specs.Transport.{has_transport_header, ports_of}

-- the addresses with these ports
abbrev pub flow_between : Fields → ℕ × ℕ → Flow
flow_between f ports = record {
  protocol = f.protocol;
  source = record { 0 = f.source };
  source_port = ports.0;
  destination = record { 0 = f.destination };
  destination_port = ports.1;
}

-- A packet with its transport header has a flow; protocols without ports have 0 for them.
unfoldable pub flow_of : Fields → Option Flow
flow_of f = if has_transport_header f then Some (flow_between f (unwrap_or (ports_of f) (0, 0))) else None
