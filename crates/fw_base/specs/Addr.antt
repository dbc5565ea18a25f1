-- An IPv4 address as it is written.
use Rattle.std.specs.Prelude.{ℕ, List, map}
use Rattle.std.specs.List.{join_with_byte}
use Rattle.std.specs.Fmt.{decimal}
use Rattle.std.specs.Int.{w32, to_be_bytes}

-- its four bytes as numbers with dots between them (RFC 791 section 3.1)
unfoldable pub address_text : ℕ → List ℕ
address_text a = join_with_byte 46 (map decimal (to_be_bytes w32 a))
