-- An address table: the longest prefix that has an address among its own decides (RFC 4632 section 5.1).
use Rattle.std.specs.Prelude.{ℕ, ◌/◌, ◌≤◌, zero, suc, Bool, ◌&&◌, nat_eq, List, All, Contains, Option}
use Rattle.std.specs.declared.cmp.Ordering.{Ordering}
use Rattle.std.specs.Map.{lookup}
use Rattle.std.specs.Option.{option_or}
use Rattle.std.specs.Ordering.{nat_cmp, ordering_then}
use Rattle.fw_base.specs.Prefix.{Network, Covers, size_of}

-- its prefixes, each with its value
abbrev pub AddrEntries : Type 0
AddrEntries = List (Network × ℕ)

-- by address, then by length
abbrev pub network_cmp : Network → Network → Ordering
network_cmp a b = ordering_then (nat_cmp a.address b.address) (nat_cmp a.bits b.bits)

-- the prefix has that many bits, and the address is one of it
abbrev pub has_prefix : ℕ → ℕ → Network → Bool
has_prefix address bits prefix = nat_eq prefix.bits bits && nat_eq (address / size_of prefix.bits) (prefix.address / size_of prefix.bits)

-- the value of the longest prefix of the address among those of at most that many bits
unfoldable pub answer_within : AddrEntries → ℕ → ℕ → Option ℕ
answer_within entries address zero = lookup (has_prefix address 0) entries
answer_within entries address (suc bits) = option_or (lookup (has_prefix address (suc bits)) entries) (answer_within entries address bits)

-- the table's answer: the value of the longest prefix that has the address
abbrev pub address_answer : AddrEntries → ℕ → Option ℕ
address_answer entries address = answer_within entries address 32

-- the address is one of the entry's prefix, and no prefix of the table that has it is longer
pub record IsLongest (entries : AddrEntries) (address : ℕ) (entry : Network × ℕ) : Type 0 where
  pub listed : Contains entries entry
  pub covers : Covers entry.0 address
  pub longest : All (λ other. Covers other.0 address → other.0.bits ≤ entry.0.bits) entries
