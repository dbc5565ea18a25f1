-- Clearing host bits of an IPv6 address twice clears them once.
use Rattle.std.proofs.Common.{ℕ, ◌-◌, ◌*◌, ◌/◌, ◌≤◌, ap}
use Rattle.std.proofs.Math.Nat.{mul-div_cancel}
use Rattle.std.proofs.lemmas.Nat.{pow_pos}
use Rattle.fw_base.specs.Prefix6.{Network6, network6, size_of, IsNetwork6}

-- a prefix made by clearing host bits is one
pub IsNetwork6-network6 : (address bits : ℕ) → bits ≤ 128 → IsNetwork6 (network6 address bits)
IsNetwork6-network6 address bits within = record {
  within = within;
  cleared = ap (λ (x : ℕ). let n : Network6 = record { address = x * size_of bits; bits = bits } in n) (mul-div_cancel (address / size_of bits) (pow_pos (128 - bits)));
}
