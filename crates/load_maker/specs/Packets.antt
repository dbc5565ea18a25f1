-- The packets of the load (RFC 791 section 3.1, RFC 9293 section 3.1, RFC 768, RFC 792). Checksums are 0.
use Rattle.std.specs.Prelude.{ℕ, ◌+◌, ◌==◌, if◌then◌else◌, List, [], ◌∷◌, ◌++◌, length}
use Rattle.std.specs.Int.{w16, w32, to_be_bytes, to_le_bytes}

-- 192.0.2.1
abbrev pub server : ℕ
server = 0xc000_0201

-- 10.0.0.0 and 198.51.100.0
abbrev pub clients : ℕ
clients = 0x0a00_0000

-- the network of the other hosts
abbrev pub strangers : ℕ
strangers = 0xc633_6400

-- the first twelve bytes of an IPv4 header: its total length and its protocol, a time to live of 64
abbrev pub header_start : ℕ → ℕ → List ℕ
header_start total protocol = 0x45 ∷ 0 ∷ 0 ∷ total ∷ 0 ∷ 0 ∷ 0 ∷ 0 ∷ 64 ∷ protocol ∷ 0 ∷ 0 ∷ []

-- what stands behind the ports of a TCP header of these flags
abbrev pub tcp_end : ℕ → List ℕ
tcp_end flags = 0 ∷ 0 ∷ 0 ∷ 0 ∷ 0 ∷ 0 ∷ 0 ∷ 0 ∷ 0x50 ∷ flags ∷ 0xff ∷ 0xff ∷ 0 ∷ 0 ∷ 0 ∷ 0 ∷ []

-- a TCP segment of these ends and flags
unfoldable pub tcp_packet : ℕ → ℕ → ℕ → ℕ → ℕ → List ℕ
tcp_packet source port destination other flags =
    header_start 40 6 ++ (to_be_bytes w32 source ++ (to_be_bytes w32 destination ++ (to_be_bytes w16 port ++ (to_be_bytes w16 other ++ tcp_end flags))))

-- a UDP datagram of these ends
unfoldable pub udp_packet : ℕ → ℕ → ℕ → ℕ → List ℕ
udp_packet source port destination other =
    header_start 28 17 ++ (to_be_bytes w32 source ++ (to_be_bytes w32 destination ++ (to_be_bytes w16 port ++ (to_be_bytes w16 other ++ (0 ∷ 8 ∷ 0 ∷ 0 ∷ [])))))

-- an echo request
unfoldable pub echo_packet : ℕ → ℕ → List ℕ
echo_packet source destination =
    header_start 28 1 ++ (to_be_bytes w32 source ++ (to_be_bytes w32 destination ++ (8 ∷ 0 ∷ 0 ∷ 0 ∷ 0 ∷ 0 ∷ 0 ∷ 0 ∷ [])))

-- Of the kind, 0 to 3: a client begins a connection, asks for a name, a stranger answers a client, a client
-- pings. Host and port are drawn.
abbrev pub packet_of : ℕ → ℕ → ℕ → List ℕ
packet_of kind host port =
    if kind == 0 then tcp_packet (clients + host) port server 80 2
    else if kind == 1 then udp_packet (clients + host) port server 53
    else if kind == 2 then tcp_packet (strangers + host) 80 (clients + host) port 16
    else echo_packet (clients + host) server

-- a record of a capture (pcap 2.4): second, fraction 0, and the packet's length, two times, the lowest byte first
unfoldable pub load_record : ℕ → List ℕ → List ℕ
load_record second packet =
    to_le_bytes w32 second ++ (to_le_bytes w32 0 ++ (to_le_bytes w32 (length packet) ++ (to_le_bytes w32 (length packet) ++ packet)))
