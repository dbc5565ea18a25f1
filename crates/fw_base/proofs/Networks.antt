-- Clearing host bits twice clears them once.
use Rattle.std.proofs.Common.{◌≡◌, ℕ, ◌-◌, ◌*◌, ◌/◌, ◌%◌, ◌^◌, ◌<◌, ◌≤◌, ap, arith}
use Rattle.std.proofs.Math.Nat.{mul-div_cancel, mod-eq_of_lt, div-mul-le_self}
use Rattle.std.proofs.lemmas.Nat.{pow_pos}
use Rattle.fw_base.specs.Prefix.{Network, network, size_of, IsNetwork}

-- an address with its host bits cleared is a network
pub IsNetwork-network : (address bits : ℕ) → bits ≤ 32 → IsNetwork (network address bits)
IsNetwork-network address bits within = record {
  within = within;
  cleared = ap (λ (x : ℕ). let n : Network = record { address = x * size_of bits; bits = bits } in n) (mul-div_cancel (address / size_of bits) (pow_pos (32 - bits)));
}

-- an address of 32 bits with its host bits cleared is computed in 64 bits without loss
pub cleared_fits : (address size : ℕ) → address < 2 ^ 32 → address / size * size % 2 ^ 64 ≡ address / size * size
cleared_fits address size fits = mod-eq_of_lt (omega (arith, div-mul-le_self address size))
