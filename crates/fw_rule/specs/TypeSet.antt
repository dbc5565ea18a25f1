-- Sets of ICMPv6 types (RFC 4443 section 2.1).
use Rattle.std.specs.Prelude.{ℕ, ◌-◌, ◌^◌, Bool, nat_lt, if◌then◌else◌, bit_or}
use Rattle.fw_rule.specs.Bits.{has_bit}
use Rattle.fw_rule.specs.declared.type_set.TypeSet.{TypeSet}

-- bit k of `low` is type k, and bit k of `high` is type 128 + k
unfoldable pub has_type : TypeSet → ℕ → Bool
has_type set k = if nat_lt k 128 then has_bit set.low k else has_bit set.high (k - 128)

-- the set of no types
unfoldable pub no_types : TypeSet
no_types = record { low = 0; high = 0 }

-- the set with one type more, 0 to 255
unfoldable pub with_type : TypeSet → ℕ → TypeSet
with_type set k = if nat_lt k 128 then record set { low = bit_or set.low (2 ^ k) } else record set { high = bit_or set.high (2 ^ (k - 128)) }
