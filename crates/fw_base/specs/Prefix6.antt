-- IPv6 prefixes (RFC 4291 section 2.3), as contracts see them.
use Rattle.std.specs.Prelude.{◌≡◌, ℕ, ◌-◌, ◌*◌, ◌/◌, ◌^◌, ◌≤◌}

-- an address with its host bits cleared, and how many bits of it are fixed
pub record Network6 : Type 0 where
  pub address : ℕ
  pub bits : ℕ

-- how many addresses a prefix of this length holds
abbrev pub size_of : ℕ → ℕ
size_of bits = 2 ^ (128 - bits)

-- the prefix of the address, its host bits cleared
abbrev pub network6 : ℕ → ℕ → Network6
network6 address bits = record { address = address / size_of bits * size_of bits; bits = bits }

-- the address's first bits are the network's
abbrev pub Covers6 : Network6 → ℕ → Type 0
Covers6 n address = address / size_of n.bits ≡ n.address / size_of n.bits

-- at most 128 bits are fixed, and no host bit is set
pub record IsNetwork6 (n : Network6) : Type 0 where
  pub within : n.bits ≤ 128
  pub cleared : network6 n.address n.bits ≡ n
