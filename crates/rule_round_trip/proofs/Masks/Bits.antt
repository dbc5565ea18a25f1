-- The low bits of a mask.
use Rattle.std.proofs.Common.{◌≡◌, ◌≢◌, ℕ, ◌+◌, ◌*◌, ◌/◌, ◌%◌, ◌^◌, ◌<◌, min, true, false, sym, ap, ◌∙◌, arith, inl, inr}
use Rattle.std.specs.Prelude.{bit_or, bit_and}
use Rattle.std.specs.Int.Bits.{or_shifted_r}
use Rattle.std.proofs.lemmas.Nat.{mod-pow-add, pow_pos, mod_below}
use Rattle.std.proofs.lemmas.Nat.Bits.{bit_at_and, bit_at-zero}
use Rattle.std.specs.Int.{bit_at}
use Rattle.std.proofs.lemmas.Bool.Decides.{eqb_tells}
use Rattle.fw_base.proofs.Logic.{clash}
use Rattle.fw_rule.specs.Bits.{has_bit}

one_mul : (n : ℕ) → n ≡ 1 * n
one_mul n = omega arith

or_top : (m k : ℕ) → m < 2 ^ k → bit_or m (2 ^ k) ≡ 1 * 2 ^ k + m
or_top m k small = ap (bit_or m) (one_mul (2 ^ k)) ∙ or_shifted_r 1 k m small

bit_one : (m k : ℕ) → has_bit m k ≡ true → m / 2 ^ k % 2 ≡ 1
bit_one m k told = elim (eqb_tells (m / 2 ^ k % 2) 1) [ inl h ↦ h.1 | inr h ↦ clash (has_bit m k) told h.0 ]

below_two : (d : ℕ) → d < 2 → d ≢ 1 → d ≡ 0
below_two d small other = omega arith

bit_none : (m k : ℕ) → has_bit m k ≡ false → m / 2 ^ k % 2 ≡ 0
bit_none m k told = elim (eqb_tells (m / 2 ^ k % 2) 1) [ inl h ↦ clash (has_bit m k) h.0 told | inr h ↦ below_two (m / 2 ^ k % 2) (mod_below (m / 2 ^ k) 2 (omega arith)) h.1 ]

turned : (k : ℕ) → k + 1 ≡ 1 + k
turned k = omega arith

next_low : (m k : ℕ) → m % 2 ^ (k + 1) ≡ (m / 2 ^ k % 2) * 2 ^ k + m % 2 ^ k
next_low m k = ap (λ n. m % 2 ^ n) (turned k) ∙ mod-pow-add m 1 k

low_below : (m k : ℕ) → m % 2 ^ k < 2 ^ k
low_below m k = mod_below m (2 ^ k) (pow_pos k)

-- one bit more of a mask, where it is set and where it isn't
pub low_set : (m k : ℕ) → has_bit m k ≡ true → bit_or (m % 2 ^ k) (2 ^ k) ≡ m % 2 ^ (k + 1)
low_set m k told = or_top (m % 2 ^ k) k (low_below m k) ∙ ap (λ d. d * 2 ^ k + m % 2 ^ k) (sym (bit_one m k told)) ∙ sym (next_low m k)

zero_times : (p r : ℕ) → 0 * p + r ≡ r
zero_times p r = omega arith

-- a bit that a mask doesn't have adds nothing to the bits below it
pub low_clear : (m k : ℕ) → has_bit m k ≡ false → m % 2 ^ k ≡ m % 2 ^ (k + 1)
low_clear m k told = sym (zero_times (2 ^ k) (m % 2 ^ k)) ∙ ap (λ d. d * 2 ^ k + m % 2 ^ k) (sym (bit_none m k told)) ∙ sym (next_low m k)

min_zero : (a b : ℕ) → min a b ≡ 0 → a ≡ 1 → b ≢ 1
min_zero a b e one = λ h. absurd (omega (arith, e, one, h))

-- masks with no bit in common
pub bits_apart : (a b k : ℕ) → bit_and a b ≡ 0 → has_bit a k ≡ true → has_bit b k ≡ false
bits_apart a b k none told = elim (eqb_tells (b / 2 ^ k % 2) 1) [
  | inl h ↦ absurd (min_zero (bit_at a k) (bit_at b k) (sym (bit_at_and a b k) ∙ ap (λ n. bit_at n k) none ∙ bit_at-zero k) (bit_one a k told) h.1)
  | inr h ↦ h.0
]
