-- IPv4 prefixes (RFC 4632 section 3.1), as contracts see them.
use Rattle.std.specs.Prelude.{◌≡◌, ℕ, ◌-◌, ◌*◌, ◌/◌, ◌^◌, ◌≤◌}

-- an address with its host bits cleared, and how many bits of it are fixed
pub record Network : Type 0 where
  pub address : ℕ
  pub bits : ℕ

-- how many addresses a prefix of this length holds
abbrev pub size_of : ℕ → ℕ
size_of bits = 2 ^ (32 - bits)

-- the prefix of the address, its host bits cleared
abbrev pub network : ℕ → ℕ → Network
network address bits = record { address = address / size_of bits * size_of bits; bits = bits }

-- the address's first bits are the network's
abbrev pub Covers : Network → ℕ → Type 0
Covers n address = address / size_of n.bits ≡ n.address / size_of n.bits

-- at most 32 bits are fixed, and no host bit is set
pub record IsNetwork (n : Network) : Type 0 where
  pub within : n.bits ≤ 32
  pub cleared : network n.address n.bits ≡ n
