-- The number of a rule at a line's front, read again: it is no record's number.
use Rattle.std.proofs.Common.{◌≡◌, ℕ, ◌+◌, ◌-◌, ◌*◌, ◌^◌, ◌<◌, ◌≤◌, ◌==◌, Bool, true, false, None, List, [], ◌∷◌, ◌++◌, length, replicate, refl, sym, ap, ◌∙◌, inl, inr, arith, nat_le, length-append}
use Rattle.std.specs.Char.{is_ascii_digit}
use Rattle.std.specs.Fmt.{decimal}
use Rattle.std.specs.List.{list_all}
use Rattle.std.proofs.lemmas.Bool.{cases_Bool, and_parts, eqb-true}
use Rattle.std.proofs.lemmas.Bool.Decides.{nat_tests}
use Rattle.std.proofs.lemmas.Fmt.{digits_decimal, digits_value-decimal, length-decimal-le}
use Rattle.report_reading.specs.Parts.{behind, number_on, positive_at}
use Rattle.rule_text.specs.Canonical.{five_digits}
use Rattle.report_reading.proofs.Digits.{value_after, own, grows}
use Rattle.report_reading.proofs.Numbers.{above_zero}
use Rattle.report_reading.proofs.RuleNumbers.{zeros_length, zeros_digits, zeros_value}

-- ---- digits

-- digits that write a greater number aren't
pub high_on : (most n : ℕ) (digits rest : List ℕ) → list_all is_ascii_digit digits ≡ true → n ≤ most → most < value_after n digits → number_on most n (digits ++ rest) ≡ None
unfolding number_on
high_on most n [] rest all low high = absurd (omega (arith, low, high))
high_on most n (digit ∷ digits) rest all low high =
    let (here, more) = and_parts (is_ascii_digit digit) (list_all is_ascii_digit digits) all in
    elim (cases_Bool (nat_le (10 * n + (digit - 48)) most)) [
      | inl fits ↦
          let small : 10 * n + (digit - 48) ≤ most = grind (arith, nat_tests, fits) in
          rw (here, fits) (high_on most (10 * n + (digit - 48)) digits rest more small high)
      | inr over ↦ rw (here, over) refl
    ]

-- ---- five digits

-- What is known of the five digits of a rule's number.
record AreFive (digits : List ℕ) (n : ℕ) : Type 0 where
  long : length digits ≡ 5
  all : list_all is_ascii_digit digits ≡ true
  value : value_after 0 digits ≡ n

are_five : (n : ℕ) → n ≤ 65535 → AreFive (five_digits n) n
unfolding five_digits
are_five n low =
    let k : ℕ = 5 - length (decimal n) in
    let fits : n < 2 ^ 64 = omega (arith, low) in
    let long : length (replicate k 48 ++ decimal n) ≡ 5 =
    omega (arith, length-append (replicate k 48) (decimal n), zeros_length k, length-decimal-le 5 n (omega arith) (omega arith) fits) in
    record {
      long = long;
      all = zeros_digits k (decimal n) ∙ digits_decimal own n fits;
      value = zeros_value k (decimal n) ∙ digits_value-decimal own n fits;
    }

-- ---- no record's number

high_at : (a b c : ℕ) (digits rest : List ℕ) → list_all is_ascii_digit (a ∷ b ∷ c ∷ digits) ≡ true → positive_at 16 ((a ∷ b ∷ c ∷ digits) ++ rest) ≡ None
unfolding positive_at
high_at a b c digits rest all =
    let here : is_ascii_digit a ≡ true = (and_parts (is_ascii_digit a) (list_all is_ascii_digit (b ∷ c ∷ digits)) all).0 in
    elim (cases_Bool (a == 48)) [
      | inl null ↦ rw null refl
      | inr other ↦
          let above : 48 < a = above_zero a other here in
          let more = grows (10 * (10 * (10 * 0 + (a - 48)) + (b - 48)) + (c - 48)) digits in
          rw (other, here) (high_on 16 0 (a ∷ b ∷ c ∷ digits) rest all (omega arith) (omega (arith, above, more)))
    ]

five_high : (digits rest : List ℕ) (n : ℕ) → AreFive digits n → positive_at 16 (digits ++ rest) ≡ None
five_high [] rest n are = let long = are.long in absurd (omega (arith, long))
five_high (a ∷ []) rest n are = let long = are.long in absurd (omega (arith, long))
five_high (a ∷ b ∷ []) rest n are = let long = are.long in absurd (omega (arith, long))
five_high (a ∷ b ∷ c ∷ digits) rest n are = high_at a b c digits rest are.all

-- a rule's number isn't that of a capture, which is 1 to 16
pub no_capture_at : (n : ℕ) (rest : List ℕ) → n ≤ 65535 → positive_at 16 (five_digits n ++ rest) ≡ None
no_capture_at n rest low = five_high (five_digits n) rest n (are_five n low)

apart_from : (letter digit : ℕ) (b : Bool) → (letter == digit) ≡ b → is_ascii_digit letter ≡ false → is_ascii_digit digit ≡ true → (letter == digit) ≡ false
apart_from letter digit false is apart here = is
apart_from letter digit true is apart here =
    let same : letter ≡ digit = eqb-true letter digit is in
    let no : false ≡ true = sym apart ∙ ap is_ascii_digit same ∙ here in
    absurd (cc)

-- a letter isn't a digit
pub letter_apart : (letter digit : ℕ) → is_ascii_digit letter ≡ false → is_ascii_digit digit ≡ true → (letter == digit) ≡ false
letter_apart letter digit apart here = apart_from letter digit (letter == digit) refl apart here

-- a word doesn't begin with a digit
pub no_word : (letter : ℕ) (word digits rest : List ℕ) → is_ascii_digit letter ≡ false → list_all is_ascii_digit digits ≡ true → 0 < length digits → behind (letter ∷ word) (digits ++ rest) ≡ None
unfolding behind
no_word letter word [] rest apart all some = absurd (omega (arith, some))
no_word letter word (digit ∷ digits) rest apart all some =
    let here : is_ascii_digit digit ≡ true = (and_parts (is_ascii_digit digit) (list_all is_ascii_digit digits) all).0 in
    rw (letter_apart letter digit apart here) refl

-- nor does it begin with a word
pub no_word_at : (letter : ℕ) (word : List ℕ) (n : ℕ) (rest : List ℕ) → is_ascii_digit letter ≡ false → n ≤ 65535 → behind (letter ∷ word) (five_digits n ++ rest) ≡ None
no_word_at letter word n rest apart low =
    let are = are_five n low in
    let long = are.long in
    no_word letter word (five_digits n) rest apart are.all (omega (arith, long))
