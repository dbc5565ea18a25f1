-- What an IPv6 packet's headers say (RFC 8200 sections 3 and 4).
use Rattle.std.specs.Prelude.{ℕ, List}

-- Each field that a rule may test.
pub record Fields6 : Type 0 where
  pub source : ℕ
  pub destination : ℕ
  -- what the last header is, by its number
  pub protocol : ℕ
  -- how many bytes headers and data have together
  pub total : ℕ
  -- where this fragment's data begins in the whole packet, in units of 8 bytes
  pub offset : ℕ
  -- the captured bytes from the transport header on, up to the total length
  pub transport : List ℕ
