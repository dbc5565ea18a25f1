-- A number's digits are read as the number.
use Rattle.std.proofs.Common.{◌≡◌, ℕ, ◌^◌, ◌<◌, ◌≤◌, true, Some, Ok, length, refl, rules, arith}
use Rattle.std.specs.List.{list_all}
use Rattle.std.specs.Fmt.{decimal}
use Rattle.std.proofs.lemmas.Bool.{le-leb}
use Rattle.std.proofs.lemmas.Str.Parse.{IsNumeralModel, numerals_by_fold}
use Rattle.std.proofs.lemmas.Fmt.{digits_decimal, digits_value-decimal, decimal_nonempty, length-decimal-le}
use Rattle.std.specs.Char.{is_ascii_digit}
use Rattle.ipfw_parser.specs.Numbers.{number, value_after, digits_value, decimal as decimal_of}

own : IsNumeralModel (λ ds. list_all is_ascii_digit ds ≡ true) (value_after 0)
own = numerals_by_fold _ (search rules) value_after (search rules)

-- the digits that write a number are read as this number
pub digits_again : (n : ℕ) → n < 2 ^ 32 → digits_value (decimal n) ≡ Some n
unfolding digits_value
digits_again n small = rw (digits_decimal own n (omega arith), digits_value-decimal own n (omega arith)) refl

-- a decimal number is read as one of at most ten digits
pub decimal_again : (n : ℕ) → n < 2 ^ 32 → decimal_of 10 (decimal n) ≡ Some n
unfolding decimal_of
decimal_again n small =
    rw (le-leb 1 (length (decimal n)) (decimal_nonempty n (omega arith)), le-leb (length (decimal n)) 10 (length-decimal-le 10 n (omega arith) (omega arith) (omega arith))) (digits_again n small)

-- a decimal number within its range is read as this number
pub number_again : (least most n column : ℕ) → least ≤ n → n ≤ most → n < 2 ^ 32 → number least most (record { column = column; text = decimal n }) ≡ Ok n
unfolding number
number_again least most n column low high small = rw (decimal_again n small, le-leb least n low, le-leb n most high) refl

-- a decimal number has no byte but digits
pub all_digits : (n : ℕ) → n < 2 ^ 32 → list_all is_ascii_digit (decimal n) ≡ true
all_digits n small = digits_decimal own n (omega arith)
