-- Reading a captured frame by byte positions: the link header (pcap's link types 0, 1, 101 and 113;
-- IEEE 802.3 and 802.1Q), then the IPv4 header (RFC 791 section 3.1).
use Rattle.std.specs.Prelude.{ℕ, ◌*◌, ◌/◌, ◌%◌, List, length, drop, min, slice_range, not, ◌||◌, ◌==◌, nat_lt, if◌then◌else◌}
use Rattle.fw_base.specs.declared.link.Link.{Link}
use Rattle.fw_base.specs.declared.link.Link.TheVariants.{Null, Ethernet, Raw, Cooked}
use Rattle.packet_headers.specs.Octets.{octet, two_octets, four_octets}
use Rattle.packet_headers.specs.Fields.{Fields}

-- what a captured frame is: an IPv4 packet with its fields, an IPv4 packet whose header can't be read,
-- with the kind of its fault, or something else
pub data Reading : Type 0 where
  Ip : Fields → Reading
  Other : Reading
  Malformed : ℕ → Reading

-- the type of IPv4 and of a VLAN tag in an Ethernet header
abbrev pub ipv4_type : ℕ
ipv4_type = 0x0800

-- the type of a VLAN tag
abbrev pub vlan_type : ℕ
vlan_type = 0x8100

-- the parts of an IPv4 header
abbrev pub version : List ℕ → ℕ
version packet = octet packet 0 / 16

-- the header's length in words of 4 bytes
abbrev pub header_words : List ℕ → ℕ
header_words packet = octet packet 0 % 16

-- the header's length in bytes
abbrev pub header_length : List ℕ → ℕ
header_length packet = 4 * header_words packet

-- A total length of 0 stands for all bytes behind the link header: so segmentation offload leaves it.
abbrev pub total_length : List ℕ → ℕ
total_length packet = if two_octets packet 2 == 0 then length packet else two_octets packet 2

-- what the header says, by its byte positions
abbrev pub fields : List ℕ → Fields
fields packet = record {
  source = four_octets packet 12;
  destination = four_octets packet 16;
  protocol = octet packet 9;
  total = total_length packet;
  offset = two_octets packet 6 % 8192;
  options = slice_range packet 20 (header_length packet);
  transport = slice_range packet (header_length packet) (min (total_length packet) (length packet));
}

-- The five faults, in the order of the tests: 1 the link header is short; 2 the packet is shorter than
-- the least header, or than its own; 3 its version isn't 4; 4 its header length is below five words;
-- 5 its total length is below its header length.
unfoldable pub read_ipv4 : List ℕ → Reading
read_ipv4 packet =
    if nat_lt (length packet) 20 then Malformed 2
    else if not (version packet == 4) then Malformed 3
    else if nat_lt (header_words packet) 5 then Malformed 4
    else if nat_lt (length packet) (header_length packet) then Malformed 2
    else if nat_lt (total_length packet) (header_length packet) then Malformed 5
    else Ip (fields packet)

-- a packet whose type is given
unfoldable pub read_typed : ℕ → List ℕ → Reading
read_typed type packet = if type == ipv4_type then read_ipv4 packet else Other

-- Link 0 has an address family of four bytes, in the order of the machine that captured; 2 is IPv4.
-- Link 1 has the type at byte 12; behind one VLAN tag of four bytes it is at byte 16.
-- Link 101 has no header; a packet that begins with a half-byte of 6 is IPv6.
-- Link 113 has the type at byte 14.
unfoldable pub reading_of_frame : Link → List ℕ → Reading
reading_of_frame Null bytes =
    if nat_lt (length bytes) 4 then Malformed 1
    else if four_octets bytes 0 == 2 || four_octets bytes 0 == 0x0200_0000 then read_ipv4 (drop 4 bytes)
    else Other
reading_of_frame Ethernet bytes =
    if nat_lt (length bytes) 14 then Malformed 1
    else if not (two_octets bytes 12 == vlan_type) then read_typed (two_octets bytes 12) (drop 14 bytes)
    else if nat_lt (length bytes) 18 then Malformed 1
    else read_typed (two_octets bytes 16) (drop 18 bytes)
reading_of_frame Raw bytes = if version bytes == 6 then Other else read_ipv4 bytes
reading_of_frame Cooked bytes =
    if nat_lt (length bytes) 16 then Malformed 1
    else read_typed (two_octets bytes 14) (drop 16 bytes)
