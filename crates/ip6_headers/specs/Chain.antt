-- The headers of an IPv6 packet behind its first 40 bytes, by the places where they begin (RFC 8200
-- section 4; the authentication header by RFC 4302 section 2). Places count from the packet's first byte.
use Rattle.std.specs.Prelude.{◌≡◌, ℕ, ◌+◌, ◌*◌, ◌/◌, ◌<◌, ◌≤◌, Some, List, [], ◌∷◌, length, zero, suc, find, unwrap_or, Bool, not, ◌||◌, ◌==◌, nat_le, if◌then◌else◌}
use Rattle.packet_headers.specs.Octets.{octet, two_octets}

-- A header behind the first 40 bytes.
pub record Header : Type 0 where
  -- what it is, as the header before it says
  pub number : ℕ
  pub place : ℕ

-- the numbers of the extension headers
abbrev pub hop_by_hop : ℕ
hop_by_hop = 0

-- the routing header
abbrev pub routing : ℕ
routing = 43

-- the fragment header
abbrev pub fragment : ℕ
fragment = 44

-- the authentication header
abbrev pub authentication : ℕ
authentication = 51

-- the header of options for the destination
abbrev pub destination_options : ℕ
destination_options = 60

-- one of the five numbers
abbrev pub is_extension : ℕ → Bool
is_extension number =
    (number == hop_by_hop || number == routing)
    || (number == fragment || (number == authentication || number == destination_options))

-- How many bytes an extension header of this number has. Its second byte counts what is behind its
-- first 8: units of 8 bytes, in an authentication header of 4; a fragment header has nothing there.
abbrev pub length_told : ℕ → ℕ → ℕ
length_told number count =
    if number == fragment then 8
    else if number == authentication then 4 * count + 8
    else 8 * count + 8

-- how many bytes the header has, by its second byte
abbrev pub header_length : List ℕ → Header → ℕ
header_length packet header = length_told header.number (octet packet (header.place + 1))

-- the place behind an extension header
abbrev pub end_place : List ℕ → Header → ℕ
end_place packet header = header.place + header_length packet header

-- all of its bytes are there
abbrev pub is_whole : List ℕ → Header → Bool
is_whole packet header = nat_le (end_place packet header) (length packet)

-- Where the data behind the header begins in the whole packet, in units of 8 bytes: a fragment header's
-- upper 13 bits of bytes 2 and 3.
abbrev pub fragment_offset : List ℕ → Header → ℕ
fragment_offset packet header =
    if header.number == fragment then two_octets packet (header.place + 2) / 8 else 0

-- The chain ends at a header that is none of the extension headers, at one that isn't whole, and at the
-- fragment header of a later fragment.
abbrev pub ends_chain : List ℕ → Header → Bool
ends_chain packet header =
    not (is_extension header.number)
    || (not (is_whole packet header) || not (fragment_offset packet header == 0))

-- The header behind an extension header, whose first byte is its number.
abbrev pub next_header : List ℕ → Header → Header
next_header packet header = record {
  number = octet packet header.place;
  place = end_place packet header;
}

-- the header directly behind the first 40 bytes
abbrev pub first_header : List ℕ → Header
first_header packet = record { number = octet packet 6; place = 40 }

-- a header and those behind it, as many as that, whether or not the chain ends before
unfoldable pub headers_from : ℕ → List ℕ → Header → List Header
headers_from zero packet header = []
headers_from (suc more) packet header = header ∷ headers_from more packet (next_header packet header)

-- The packet's headers: each has at least 8 bytes, so there are fewer than bytes.
abbrev pub headers : List ℕ → List Header
headers packet = headers_from (length packet) packet (first_header packet)

-- the first of them at which the chain ends
unfoldable pub last_header : List ℕ → Header
last_header packet = unwrap_or (find (ends_chain packet) (headers packet)) (first_header packet)

-- In a packet that isn't empty the chain ends at one of its headers.
abbrev pub ChainsEnd : Type 0
ChainsEnd = (packet : List ℕ) → 0 < length packet → find (ends_chain packet) (headers packet) ≡ Some (last_header packet)

-- As many headers as bytes are enough: among any more of them the chain ends at the same one.
abbrev pub MoreHeadersEndAlike : Type 0
MoreHeadersEndAlike = (packet : List ℕ) (more : ℕ) → length packet ≤ more
    → unwrap_or (find (ends_chain packet) (headers_from more packet (first_header packet))) (first_header packet) ≡ last_header packet
