-- Numbers without leading zeros, read again.
use Rattle.std.proofs.Common.{◌≡◌, ℕ, zero, suc, ◌^◌, ◌<◌, ◌≤◌, true, false, Some, None, List, [], ◌∷◌, ◌++◌, length, get_or, refl, inl, inr, arith, nat_le, lit<}
use Rattle.std.specs.Char.{is_ascii_digit}
use Rattle.std.specs.Fmt.{decimal}
use Rattle.std.specs.List.{list_all}
use Rattle.std.specs.Prelude.{◌⊎◌}
use Rattle.std.proofs.lemmas.Bool.{cases_Bool, and_parts}
use Rattle.std.proofs.lemmas.Bool.Decides.{nat_tests}
use Rattle.std.proofs.lemmas.Fmt.{digits_decimal, digits_value-decimal, decimal_nonempty, first_decimal, decimal_digit}
use Rattle.report_reading.specs.Parts.{behind, positive_at}
use Rattle.report_reading.proofs.Digits.{value_after, own, IsStop}
use Rattle.report_reading.proofs.Numbers.{not_zero, positive_again}
use Rattle.audit_laws.proofs.RuleNumbers.{high_on, no_word}

zero_none : (most : ℕ) (text rest : List ℕ) → text ≡ 48 ∷ [] → positive_at most (text ++ rest) ≡ None
unfolding positive_at
zero_none most text rest is = rw is refl

digits_high : (most : ℕ) (digits rest : List ℕ) → list_all is_ascii_digit digits ≡ true → 0 < length digits → 48 < get_or digits 0 0
    → most < value_after 0 digits → positive_at most (digits ++ rest) ≡ None
unfolding positive_at
digits_high most [] rest all some above high = absurd (omega arith)
digits_high most (digit ∷ digits) rest all some above high =
    let (here, more) = and_parts (is_ascii_digit digit) (list_all is_ascii_digit digits) all in
    rw (not_zero digit above, here) (high_on most 0 (digit ∷ digits) rest all (omega arith) high)

-- what is read of a number from 1 to a most: the number, or nothing
pub read_or_none : (most n : ℕ) (rest : List ℕ) → n < 2 ^ 64 → IsStop rest → (positive_at most (decimal n ++ rest) ≡ None) ⊎ (positive_at most (decimal n ++ rest) ≡ Some (n, rest))
read_or_none most zero rest fits stop = inl (zero_none most (decimal 0) rest (decimal_digit 0 (lit< tt)))
read_or_none most (suc n) rest fits stop = elim (cases_Bool (nat_le (suc n) most)) [
  | inl low ↦
      let last : suc n ≤ most = grind (arith, nat_tests, low) in
      inr (positive_again most (suc n) rest (omega arith) last fits stop)
  | inr high ↦
      let above : most < suc n = grind (arith, nat_tests, high) in
      let value : value_after 0 (decimal (suc n)) ≡ suc n = digits_value-decimal own (suc n) fits in
      inl (digits_high most (decimal (suc n)) rest (digits_decimal own (suc n) fits) (decimal_nonempty (suc n) fits) (first_decimal (suc n) (omega arith) fits) (omega (arith, value, above)))
]

-- a number begins with no word
pub no_word_of_number : (letter : ℕ) (word : List ℕ) (n : ℕ) (rest : List ℕ) → is_ascii_digit letter ≡ false → n < 2 ^ 64 → behind (letter ∷ word) (decimal n ++ rest) ≡ None
no_word_of_number letter word n rest apart fits = no_word letter word (decimal n) rest apart (digits_decimal own n fits) (decimal_nonempty n fits)
