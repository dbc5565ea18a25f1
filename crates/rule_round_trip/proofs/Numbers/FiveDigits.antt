-- A set, and five digits, are read again.
use Rattle.std.proofs.Common.{◌≡◌, ℕ, ◌-◌, ◌^◌, ◌<◌, ◌≤◌, zero, suc, true, ◌&&◌, nat_le, if◌then◌else◌, Some, None, Ok, List, ◌++◌, length, refl, ap, ◌∙◌, arith, replicate, length-append}
use Rattle.std.specs.List.{list_all}
use Rattle.std.specs.Fmt.{decimal}
use Rattle.std.proofs.lemmas.Bool.{le-leb}
use Rattle.std.proofs.lemmas.Fmt.{decimal_nonempty, length-decimal-le}
use Rattle.std.specs.Char.{is_ascii_digit}
use Rattle.rule_text.specs.Canonical.{five_digits}
use Rattle.ipfw_parser.specs.declared.kind.Kind.TheVariants.{NumberRange, UnknownWord}
use Rattle.ipfw_parser.specs.Reading.{fault_at}
use Rattle.ipfw_parser.specs.Numbers.{number, number_by, value_after, digits_value, starts_with_digit, set_number, decimal as decimal_of}
use Rattle.rule_round_trip.proofs.Numbers.Digits.{starts_digits}
use Rattle.rule_round_trip.proofs.Numbers.Decimal.{digits_again, all_digits, number_again}

-- a decimal number begins with a digit
pub decimal_starts : (n : ℕ) → n < 2 ^ 32 → starts_with_digit (decimal n) ≡ true
decimal_starts n small = starts_digits (decimal n) (decimal_nonempty n (omega arith)) (all_digits n small)

-- a set's decimal number is read as this set
pub set_again : (n column : ℕ) → n ≤ 31 → set_number (record { column = column; text = decimal n }) ≡ Ok n
unfolding set_number
set_again n column small =
    ap (λ b. if b then number 0 31 (record { column = column; text = decimal n }) else fault_at column UnknownWord) (decimal_starts n (omega arith)) ∙ number_again 0 31 n column (omega arith) small (omega arith)

zeros_digits : (k : ℕ) (text : List ℕ) → list_all is_ascii_digit (replicate k 48 ++ text) ≡ list_all is_ascii_digit text
zeros_digits zero text = refl
zeros_digits (suc k) text = zeros_digits k text

zeros_value : (k : ℕ) (text : List ℕ) → value_after 0 (replicate k 48 ++ text) ≡ value_after 0 text
zeros_value zero text = refl
zeros_value (suc k) text = zeros_value k text

zeros_read : (k : ℕ) (text : List ℕ) → digits_value (replicate k 48 ++ text) ≡ digits_value text
unfolding digits_value
zeros_read k text =
    ap (λ b. if b then Some (value_after 0 (replicate k 48 ++ text)) else None) (zeros_digits k text) ∙ ap (λ n. if list_all is_ascii_digit text then Some n else None) (zeros_value k text)

zeros_length : (k : ℕ) → length {A = ℕ} (replicate k 48) ≡ k
zeros_length zero = refl
zeros_length (suc k) = ap suc (zeros_length k)

five_long : (n : ℕ) → n ≤ 65535 → length (five_digits n) ≡ 5
unfolding five_digits
five_long n small =
    omega (arith, length-append (replicate (5 - length (decimal n)) 48) (decimal n), zeros_length (5 - length (decimal n)), length-decimal-le 5 n (omega arith) (omega arith) (omega arith))

five_read : (n : ℕ) → n ≤ 65535 → digits_value (five_digits n) ≡ Some n
unfolding five_digits
five_read n small = zeros_read (5 - length (decimal n)) (decimal n) ∙ digits_again n (omega arith)

-- a rule's number in five digits has no other byte
pub five_all : (n : ℕ) → n ≤ 65535 → list_all is_ascii_digit (five_digits n) ≡ true
unfolding five_digits
five_all n small = zeros_digits (5 - length (decimal n)) (decimal n) ∙ all_digits n (omega arith)

-- a rule's number in five digits isn't empty
pub five_some : (n : ℕ) → n ≤ 65535 → 0 < length (five_digits n)
five_some n small = omega (arith, five_long n small)

-- a rule's number in five digits begins with a digit
pub five_starts : (n : ℕ) → n ≤ 65535 → starts_with_digit (five_digits n) ≡ true
five_starts n small = starts_digits (five_digits n) (five_some n small) (five_all n small)

-- a rule's number in five digits is read as this number
pub five_again : (n column : ℕ) → n ≤ 65535 → number 0 65535 (record { column = column; text = five_digits n }) ≡ Ok n
unfolding number decimal_of
five_again n column small =
    ap (λ k. number_by 0 65535 column (if nat_le 1 k && nat_le k 10 then digits_value (five_digits n) else None)) (five_long n small)
    ∙ ap (λ found. number_by 0 65535 column found) (five_read n small)
    ∙ ap (λ b. if b && nat_le n 65535 then Ok n else fault_at column NumberRange) (le-leb 0 n (omega arith))
    ∙ ap (λ b. if b then Ok n else fault_at column NumberRange) (le-leb n 65535 small)
