-- The addresses of a prefix, as a range and by division.
use Rattle.std.proofs.Common.{◌≡◌, ℕ, ◌+◌, ◌-◌, ◌*◌, ◌/◌, ◌^◌, ◌<◌, ◌≤◌, ◌⊎◌, sym, ap, ◌∙◌, inl, inr, arith}
use Rattle.std.proofs.Math.Nat.{div-mul-le_self, lt-div-mul-add}
use Rattle.std.proofs.lemmas.Nat.{shl-shr, shr-shr, div-mul-add, pow_pos}
use Rattle.std.proofs.lemmas.Bool.{cases_order}
use Rattle.fw_base.specs.Prefix.{Network, Covers, IsNetwork, network, size_of}

-- a prefix has some addresses
pub size_above : (bits : ℕ) → 0 < size_of bits
size_above bits = pow_pos (32 - bits)

-- a quotient by its range
between : (n q s : ℕ) → q * s ≤ n → n < q * s + s → n / s ≡ q
between n q s least most =
    let parts : n ≡ q * s + (n - q * s) = omega arith in
    ap (λ (m : ℕ). m / s) parts ∙ div-mul-add q s (n - q * s) (omega arith)

-- the network of an address is the prefix exactly where the prefix covers it
pub network-covers : (n : Network) (a : ℕ) → IsNetwork n → Covers n a → network a n.bits ≡ n
network-covers n a is covers = ap (λ (q : ℕ). scaled q n.bits) covers ∙ is.cleared
  where
    scaled : ℕ → ℕ → Network
    scaled q bits = record { address = q * size_of bits; bits = bits }

-- a prefix that is the network of an address covers it
pub covers-network : (n : Network) (a : ℕ) → network a n.bits ≡ n → Covers n a
covers-network n a is =
    sym (shl-shr (a / size_of n.bits) (32 - n.bits)) ∙ ap (λ (m : ℕ). m / size_of n.bits) (ap (λ (m : Network). m.address) is)

-- the range of a prefix
pub covers-range : (n : Network) (a : ℕ) → IsNetwork n → Covers n a → (n.address ≤ a) × (a < n.address + size_of n.bits)
covers-range n a is covers =
    let first : a / size_of n.bits * size_of n.bits ≡ n.address = ap (λ (m : Network). m.address) (network-covers n a is covers) in
    (let low = div-mul-le_self a (size_of n.bits) in omega arith, let high = lt-div-mul-add {a = a} (size_above n.bits) in omega arith)

-- a prefix covers each address of its range
pub range-covers : (n : Network) (a : ℕ) → IsNetwork n → n.address ≤ a → a < n.address + size_of n.bits → Covers n a
range-covers n a is low high =
    let first : n.address / size_of n.bits * size_of n.bits ≡ n.address = ap (λ (m : Network). m.address) is.cleared in
    between a (n.address / size_of n.bits) (size_of n.bits) (omega arith) (omega arith)

-- addresses that agree in more bits agree in fewer
pub fewer : (a b bits most : ℕ) → bits ≤ most → most ≤ 32 → a / size_of most ≡ b / size_of most → a / size_of bits ≡ b / size_of bits
fewer a b bits most le within same =
    let sum : 32 - most + (most - bits) ≡ 32 - bits = omega arith in
    let split = λ (n : ℕ). shr-shr n (32 - most) (most - bits) ∙ ap (λ (k : ℕ). n / 2 ^ k) sum in
    sym (split a) ∙ ap (λ (m : ℕ). m / 2 ^ (most - bits)) same ∙ split b

-- the address before: in the same range, or the range ends there and another begins
pub step_back : (a bits : ℕ) → 0 < a → (network a bits ≡ network (a - 1) bits)
    ⊎ (((network a bits).address ≡ a) × ((network (a - 1) bits).address + size_of bits ≡ a))
step_back a bits above =
    let low = div-mul-le_self (a - 1) (size_of bits) in
    let high = lt-div-mul-add {a = a - 1} (size_above bits) in
    elim (cases_order a ((a - 1) / size_of bits * size_of bits + size_of bits)) [
      | inl last ↦
          let next : a / size_of bits ≡ (a - 1) / size_of bits + 1 = between a ((a - 1) / size_of bits + 1) (size_of bits) (omega (arith, times_more ((a - 1) / size_of bits) (size_of bits))) (omega (arith, times_more ((a - 1) / size_of bits) (size_of bits), size_above bits)) in
          inr (rw next (omega (arith, times_more ((a - 1) / size_of bits) (size_of bits))), sym last)
      | inr (inl inside) ↦
          let same : a / size_of bits ≡ (a - 1) / size_of bits = between a ((a - 1) / size_of bits) (size_of bits) (omega arith) inside in
          inl (ap (λ (q : ℕ). scaled q bits) same)
      | inr (inr beyond) ↦ absurd (omega arith)
    ]
  where
    scaled : ℕ → ℕ → Network
    scaled q bits = record { address = q * size_of bits; bits = bits }

    times_more : (q s : ℕ) → (q + 1) * s ≡ q * s + s
    times_more q s = omega arith
