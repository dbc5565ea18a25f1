-- Numbers: one to ten decimal digits.
use Rattle.std.specs.Prelude.{ℕ, ◌+◌, ◌-◌, ◌*◌, Bool, false, ◌&&◌, nat_le, if◌then◌else◌, Option, Some, None, Result, Ok, List, [], ◌∷◌, length}
use Rattle.std.specs.List.{list_all}
use Rattle.std.specs.Char.{is_ascii_digit}
use Rattle.ipfw_parser.specs.declared.kind.Kind.TheVariants.{BadNumber, NumberRange, UnknownWord}
use Rattle.ipfw_parser.specs.Reading.{Word, Fault, fault_at}

-- the number that digits write behind those of n
abbrev pub value_after : ℕ → List ℕ → ℕ
value_after n [] = n
value_after n (digit ∷ digits) = value_after (10 * n + (digit - 48)) digits

-- the number that the digits write, where there are only digits
unfoldable pub digits_value : List ℕ → Option ℕ
digits_value text = if list_all is_ascii_digit text then Some (value_after 0 text) else None

-- one to so many digits
unfoldable pub decimal : ℕ → List ℕ → Option ℕ
decimal most text = if nat_le 1 (length text) && nat_le (length text) most then digits_value text else None

-- a number that is at most so great
abbrev pub up_to : ℕ → Option ℕ → Option ℕ
up_to most None = None
up_to most (Some n) = if nat_le n most then Some n else None

-- the number, where it is in its range, or its fault
abbrev pub number_by : ℕ → ℕ → ℕ → Option ℕ → Result ℕ Fault
number_by least most column None = fault_at column BadNumber
number_by least most column (Some n) = if nat_le least n && nat_le n most then Ok n else fault_at column NumberRange

-- a number from least to most
unfoldable pub number : ℕ → ℕ → Word → Result ℕ Fault
number least most word = number_by least most word.column (decimal 10 word.text)

-- the text begins with a digit
unfoldable pub starts_with_digit : List ℕ → Bool
starts_with_digit [] = false
starts_with_digit (byte ∷ bytes) = is_ascii_digit byte

-- a set, 0 to 31; what doesn't begin with a digit isn't read as a number
unfoldable pub set_number : Word → Result ℕ Fault
set_number word = if starts_with_digit word.text then number 0 31 word else fault_at word.column UnknownWord
