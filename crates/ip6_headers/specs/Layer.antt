-- What stands behind the extension headers of an IPv6 packet (RFC 8200 section 4).
use Rattle.std.specs.Prelude.{ℕ, List, [], drop, not, if◌then◌else◌}
use Rattle.packet_headers.specs.Octets.{octet}
use Rattle.ip6_headers.specs.Chain.{Header, is_extension, is_whole, fragment_offset}

-- The last header's number, the fragment's offset, and the bytes behind the extension headers.
pub record Layer : Type 0 where
  pub protocol : ℕ
  pub offset : ℕ
  pub transport : List ℕ

-- By the header at which the chain ends: a header that is none of the extension headers is the
-- transport header, and its number the protocol; an extension header that isn't whole is the protocol
-- itself, and nothing is behind it; the fragment header of a later fragment names the protocol, and the
-- transport header is in another packet.
abbrev pub layer_at : List ℕ → Header → Layer
layer_at packet last =
    if not (is_extension last.number)
    then record { protocol = last.number; offset = 0; transport = drop last.place packet }
    else if not (is_whole packet last)
    then record { protocol = last.number; offset = 0; transport = [] }
    else record { protocol = octet packet last.place; offset = fragment_offset packet last; transport = [] }
