-- Sets of types by their bits.
use Rattle.std.proofs.Common.{◌≡◌, ℕ, ◌-◌, ◌*◌, ◌%◌, ◌^◌, ◌<◌, ◌≤◌, max, true, false, ◌||◌, ◌==◌, nat_lt, if◌then◌else◌, refl, sym, ap, ◌∙◌, arith, inl, inr}
use Rattle.std.specs.Prelude.{bit_or}
use Rattle.std.specs.Int.{bit_at}
use Rattle.std.proofs.Math.Pow.{pow-lt}
use Rattle.std.proofs.Math.Nat.{mod-eq_of_lt, max-zero}
use Rattle.std.proofs.lemmas.Nat.Bits.{bit_at_or, bit_at-zero, bit_at-pow_same, bit_at-pow_other, bit_at-lt}
use Rattle.std.proofs.lemmas.Bool.{lt-ltb, le-ltb, ne_eqb}
use Rattle.std.proofs.lemmas.Bool.Decides.{eqb_tells, leb_tells}
use Rattle.fw_rule.specs.Bits.{has_bit}
use Rattle.fw_rule.specs.TypeSet.{has_type, no_types, with_type}
use Rattle.fw_rule.specs.declared.type_set.TypeSet.{TypeSet}

-- a 1 in place k, as the code computes it
one_shifted : (k : ℕ) → k < 128 → 1 * 2 ^ k % 2 ^ 128 ≡ 2 ^ k
one_shifted k inside =
    let below : 2 ^ k < 2 ^ 128 = pow-lt inside in
    let e : 1 * 2 ^ k ≡ 2 ^ k = omega arith in
    ap (λ n. n % 2 ^ 128) e ∙ mod-eq_of_lt below

no_bits : (k : ℕ) → has_bit 0 k ≡ false
no_bits k = ap (λ n. n == 1) (bit_at-zero k)

-- the empty set has no type
pub no_types-has : (k : ℕ) → has_type no_types k ≡ false
unfolding has_type no_types
no_types-has k = elim (nat_lt k 128) as (λ b. (if b then has_bit 0 k else has_bit 0 (k - 128)) ≡ false) [ true ↦ no_bits k | false ↦ no_bits (k - 128) ]

max_one : (n : ℕ) → n < 2 → max n 1 ≡ 1
max_one n small = omega arith

-- one bit more
bit_more : (mask n k : ℕ) → has_bit (bit_or mask (2 ^ n)) k ≡ (k == n || has_bit mask k)
bit_more mask n k = elim (eqb_tells k n) [
  | inl h ↦ rw h.0 (ap (λ m. m == 1) (bit_at_or mask (2 ^ n) k ∙ ap (λ j. max (bit_at mask k) (bit_at (2 ^ n) j)) h.1 ∙ ap (max (bit_at mask k)) (bit_at-pow_same n) ∙ max_one (bit_at mask k) (bit_at-lt mask k)))
  | inr h ↦ rw h.0 (ap (λ m. m == 1) (bit_at_or mask (2 ^ n) k ∙ ap (max (bit_at mask k)) (bit_at-pow_other n k h.1) ∙ max-zero (bit_at mask k)))
]

-- two numbers from 128 on are the same where what they have above it is
same_above : (k n : ℕ) → 128 ≤ k → 128 ≤ n → (k - 128 == n - 128) ≡ (k == n)
same_above k n up high = elim (eqb_tells k n) [
  | inl h ↦ elim (eqb_tells (k - 128) (n - 128)) [ inl e ↦ e.0 ∙ sym h.0 | inr e ↦ absurd (e.1 (ap (λ m. m - 128) h.1)) ]
  | inr h ↦ elim (eqb_tells (k - 128) (n - 128)) [ inl e ↦ absurd (h.1 (omega (arith, e.1))) | inr e ↦ e.0 ∙ sym h.0 ]
]

-- a set with one type more has that type and those that it had
pub with_type-has : (set : TypeSet) (n k : ℕ) → has_type (with_type set n) k ≡ (k == n || has_type set k)
unfolding has_type with_type
with_type-has set n k = elim (leb_tells 128 n) [
  | inl high ↦
      elim (leb_tells 128 k) [
        | inl up ↦ rw (le-ltb n 128 high.1, le-ltb k 128 up.1) (bit_more set.high (n - 128) (k - 128) ∙ ap (λ b. b || has_bit set.high (k - 128)) (same_above k n up.1 high.1))
        | inr below ↦ rw (le-ltb n 128 high.1, lt-ltb k 128 below.1) (ap (λ b. b || has_bit set.low k) (sym (ne_eqb k n (omega arith))))
      ]
  | inr low ↦
      elim (leb_tells 128 k) [
        | inl up ↦ rw (lt-ltb n 128 low.1, le-ltb k 128 up.1) (ap (λ b. b || has_bit set.high (k - 128)) (sym (ne_eqb k n (omega arith))))
        | inr below ↦ rw (lt-ltb n 128 low.1, lt-ltb k 128 below.1) (bit_more set.low n k)
      ]
]

-- the set with one type more, as the code makes it
pub low_more : (set : TypeSet) (n : ℕ) → n < 128 → record { low = bit_or set.low (1 * 2 ^ n % 2 ^ 128); high = set.high } ≡ with_type set n
unfolding with_type
low_more set n low = rw (lt-ltb n 128 low, one_shifted n low) refl

-- the set with one type more, which is 128 or greater, as the code makes it
pub high_more : (set : TypeSet) (n : ℕ) → 128 ≤ n → n < 256 → record { low = set.low; high = bit_or set.high (1 * 2 ^ (n - 128) % 2 ^ 128) } ≡ with_type set n
unfolding with_type
high_more set n high small =
    let within : n - 128 < 128 = omega arith in
    rw (le-ltb n 128 high, one_shifted (n - 128) within) refl

-- whether a type is in the set, as the code finds it
pub low_has : (set : TypeSet) (n : ℕ) → n < 128 → has_type set n ≡ has_bit set.low n
unfolding has_type
low_has set n low = rw (lt-ltb n 128 low) refl

-- whether a type from 128 on is in the set, as the code finds it
pub high_has : (set : TypeSet) (n : ℕ) → 128 ≤ n → has_type set n ≡ has_bit set.high (n - 128)
unfolding has_type
high_has set n high = rw (le-ltb n 128 high) refl
