-- What an IPv4 packet's header says (RFC 791 section 3.1).
use Rattle.std.specs.Prelude.{ℕ, List}

-- Each field that a rule may test.
pub record Fields : Type 0 where
  pub source : ℕ
  pub destination : ℕ
  pub protocol : ℕ
  -- how many bytes header and data have together
  pub total : ℕ
  -- where this fragment's data begins in the whole datagram, in units of 8 bytes
  pub offset : ℕ
  -- the header's bytes behind its first 20
  pub options : List ℕ
  -- the captured bytes behind the header, up to the total length
  pub transport : List ℕ
