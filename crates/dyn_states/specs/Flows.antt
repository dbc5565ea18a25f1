-- The two directions of a flow.
use Rattle.std.specs.Prelude.{Bool, ◌==◌, ◌&&◌, ◌||◌, if◌then◌else◌}
use Rattle.packet_headers.specs.declared.flows.Flow.{Flow}
use Rattle.state_asks.specs.declared.reply.Way.{Way}
use Rattle.state_asks.specs.declared.reply.Way.TheVariants.{Forward, Reverse}

-- the same protocol and the same ends
abbrev pub same_flow : Flow → Flow → Bool
same_flow a b =
    a.protocol == b.protocol
    && (a.source.0 == b.source.0 && (a.source_port == b.source_port
    && (a.destination.0 == b.destination.0 && a.destination_port == b.destination_port)))

-- the flow of a packet that goes the other way
abbrev pub reverse_flow : Flow → Flow
reverse_flow f = record {
  protocol = f.protocol;
  source = f.destination;
  source_port = f.destination_port;
  destination = f.source;
  destination_port = f.source_port;
}

-- a state of the first flow matches a packet of the second, in either direction
abbrev pub matches_flow : Flow → Flow → Bool
matches_flow own asked = same_flow own asked || same_flow own (reverse_flow asked)

-- in which direction the packet goes: forward where both fit
abbrev pub way_of : Flow → Flow → Way
way_of own asked = if same_flow own asked then Forward else Reverse
