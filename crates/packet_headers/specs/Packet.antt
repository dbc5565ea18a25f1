-- A packet as the definition of reading names it.
use Rattle.packet_headers.specs.declared.packet.Packet.{Packet}
use Rattle.packet_headers.specs.declared.packet.Packet.TheVariants as packet
use Rattle.packet_headers.specs.Reading.{Reading, Ip, Other, Malformed}

-- the variant of the definition that the Rust value stands for
abbrev pub reading_of : Packet → Reading
reading_of (packet.Ip fields) = Ip fields
reading_of packet.Other = Other
reading_of (packet.Malformed kind) = Malformed kind
