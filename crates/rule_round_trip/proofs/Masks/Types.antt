-- ICMP types in their canonical text are read again.
use Rattle.std.proofs.Common.{◌≡◌, ℕ, ◌+◌, ◌%◌, ◌^◌, ◌<◌, ◌≤◌, zero, suc, Bool, true, false, ◌==◌, if◌then◌else◌, Result, Ok, List, ◌∷◌, ◌++◌, refl, sym, ap, ◌∙◌, arith, []}
use Rattle.std.specs.Prelude.{bit_or}
use Rattle.std.specs.List.{AllByRecursion, join_with_byte}
use Rattle.std.specs.Fmt.{decimal}
use Rattle.std.proofs.Math.Nat.{mod-eq_of_lt, zero-add, add-zero}
use Rattle.fw_rule.specs.Bits.{has_bit}
use Rattle.rule_text.specs.Canonical.{numbers_where, WordTexts}
use Rattle.ipfw_parser.specs.Reading.{Fault, ◌>>=◌}
use Rattle.ipfw_parser.specs.Lists.{type_mask, types}
use Rattle.rule_round_trip.proofs.Numbers.Digits.{IsFree, elements_again, free_digits}
use Rattle.rule_round_trip.proofs.Numbers.Decimal.{number_again, all_digits}
use Rattle.rule_round_trip.proofs.Masks.Bits.{low_set, low_clear}
use Rattle.rule_round_trip.proofs.Masks.Signs.{AllOver}
use Rattle.rule_round_trip.proofs.Lists.Sums.{further}

type_step : (mask k column : ℕ) (more : WordTexts) (x : Bool) → has_bit mask k ≡ x → k ≤ 31
    → type_mask (mask % 2 ^ k) column ((if x then decimal k ∷ [] else []) ++ more) ≡ type_mask (mask % 2 ^ (k + 1)) column more
unfolding type_mask
type_step mask k column more true hx small =
    ap (λ r. r >>= λ n. type_mask (bit_or (mask % 2 ^ k) (2 ^ n)) column more) (number_again 0 31 k column (omega arith) small (omega arith))
    ∙ ap (λ m. type_mask m column more) (low_set mask k hx)
type_step mask k column more false hx small = ap (λ m. type_mask m column more) (low_clear mask k hx)

bits_read : (mask column n k : ℕ) → k + n ≤ 32 → type_mask (mask % 2 ^ k) column (numbers_where (has_bit mask) n k) ≡ Ok (mask % 2 ^ (k + n))
unfolding numbers_where type_mask
bits_read mask column zero k within = ap (λ n. let r : Result ℕ Fault = Ok (mask % 2 ^ n) in r) (sym (add-zero k))
bits_read mask column (suc n) k within =
    type_step mask k column (numbers_where (has_bit mask) n (k + 1)) (has_bit mask k) refl (omega (arith, within))
    ∙ bits_read mask column n (k + 1) (omega (arith, within))
    ∙ ap (λ n. let r : Result ℕ Fault = Ok (mask % 2 ^ n) in r) (further k n)

bit_all : (P : ℕ → Type 0) (x : Bool) (k : ℕ) (more : WordTexts) → AllByRecursion P (decimal k) → AllOver P more → AllOver P ((if x then decimal k ∷ [] else []) ++ more)
bit_all P true k more p q = (p, q)
bit_all P false k more p q = q

-- what holds of the digits of each number
pub numbers_all : (P : ℕ → Type 0) (test : ℕ → Bool) (n k : ℕ) → ((i : ℕ) → i < k + n → AllByRecursion P (decimal i)) → AllOver P (numbers_where test n k)
unfolding numbers_where
numbers_all P test zero k digits = tt
numbers_all P test (suc n) k digits = bit_all P (test k) k (numbers_where test n (k + 1)) (digits k (omega arith)) (numbers_all P test n (k + 1) (λ i small. digits i (omega (arith, small))))

types_joined : (texts : List (List ℕ)) (mask column : ℕ) → type_mask 0 column texts ≡ Ok mask → 0 < mask → AllOver (λ b. b == 44 ≡ false) texts → types (record { column = column; text = join_with_byte 44 texts }) ≡ Ok mask
unfolding type_mask types
types_joined [] mask column ok some free = let same : 0 ≡ mask = cc in absurd (omega (arith, some, same))
types_joined (text ∷ texts) mask column ok some free = ap (type_mask 0 column) (elements_again text texts free) ∙ ok

-- no comma stands in the number of a type
pub free_number : (n : ℕ) → n < 256 → IsFree 44 (decimal n)
free_number n small = free_digits 44 (decimal n) refl (all_digits n (omega arith))

zero_low : (mask : ℕ) → 0 ≡ mask % 2 ^ 0
zero_low mask = let e : mask % 1 ≡ 0 = omega arith in sym e

read_at : (mask column n : ℕ) → n ≤ 32 → mask < 2 ^ n → type_mask 0 column (numbers_where (has_bit mask) n 0) ≡ Ok mask
read_at mask column n within small =
    ap (λ m. type_mask m column (numbers_where (has_bit mask) n 0)) (zero_low mask) ∙ bits_read mask column n 0 (omega (arith, within))
    ∙ ap (λ k. let r : Result ℕ Fault = Ok (mask % 2 ^ k) in r) (zero-add n) ∙ ap (λ m. let r : Result ℕ Fault = Ok m in r) (mod-eq_of_lt small)

-- ICMP types in their canonical text are read as the same mask
pub types_again : (mask column : ℕ) → 0 < mask → mask < 2 ^ 32 → types (record { column = column; text = join_with_byte 44 (numbers_where (has_bit mask) 32 0) }) ≡ Ok mask
types_again mask column some small =
    types_joined (numbers_where (has_bit mask) 32 0) mask column (read_at mask column 32 (omega arith) small) some
    (numbers_all (λ b. b == 44 ≡ false) (has_bit mask) 32 0 (λ i less. free_number i (omega (arith, less))))
