-- Numbers in the bytes of a packet, by their places, which count from 0. Every number of the internet
-- protocols has its most significant byte first (RFC 791 appendix B).
use Rattle.std.specs.Prelude.{ℕ, ◌+◌, ◌*◌, List, slice_index}

-- the byte at a place; 0 past the end
abbrev pub octet : List ℕ → ℕ → ℕ
octet bytes place = slice_index bytes place

-- the number of the two bytes from a place on
abbrev pub two_octets : List ℕ → ℕ → ℕ
two_octets bytes place = octet bytes place * 256 + octet bytes (place + 1)

-- the number of the four bytes from a place on
abbrev pub four_octets : List ℕ → ℕ → ℕ
four_octets bytes place = two_octets bytes place * 65536 + two_octets bytes (place + 2)
