-- Numbers without leading zeros.
use Rattle.std.proofs.Common.{◌≡◌, ℕ, ◌+◌, ◌-◌, ◌*◌, ◌^◌, ◌<◌, ◌≤◌, ◌==◌, true, false, Some, List, [], ◌∷◌, ◌++◌, length, get_or, refl, sym, ap, ◌∙◌, inl, inr, arith, nat_le, zero, suc, lit<}
use Rattle.std.specs.List.{list_all}
use Rattle.std.specs.Fmt.{decimal}
use Rattle.std.specs.Char.{is_ascii_digit}
use Rattle.std.proofs.lemmas.Bool.{cases_Bool, and_parts, leb-true, eqb-true}
use Rattle.std.proofs.lemmas.Bool.Decides.{nat_tests}
use Rattle.std.proofs.lemmas.Option.{none-some, some_pair_parts}
use Rattle.std.proofs.lemmas.Fmt.{digits_decimal, digits_value-decimal, decimal_nonempty, decimal-digits_value, first_decimal, decimal_digit}
use Rattle.report_reading.specs.Parts.{number_on, positive_at, number_at}
use Rattle.report_reading.proofs.Digits.{value_after, own, grows, IsStop, on_again, on_told}

-- a text is a number's decimal text and a rest
pub record IsNumber (bytes : List ℕ) (least most n : ℕ) (rest : List ℕ) : Type 0 where
  pub split : bytes ≡ decimal n ++ rest
  pub first : least ≤ n
  pub last : n ≤ most

-- a digit above 0 isn't 0
pub not_zero : (byte : ℕ) → 48 < byte → (byte == 48) ≡ false
not_zero byte above = grind (arith, nat_tests)

-- a digit that is not 0
pub above_zero : (byte : ℕ) → (byte == 48) ≡ false → is_ascii_digit byte ≡ true → 48 < byte
above_zero byte other digit = grind (arith, nat_tests)

digits_again : (most : ℕ) (digits rest : List ℕ) → list_all is_ascii_digit digits ≡ true → 0 < length digits → 48 < get_or digits 0 0
    → value_after 0 digits ≤ most → IsStop rest → positive_at most (digits ++ rest) ≡ Some (value_after 0 digits, rest)
unfolding positive_at
digits_again most [] rest all some above low stop = absurd (omega arith)
digits_again most (digit ∷ digits) rest all some above low stop =
    let (here, more) = and_parts (is_ascii_digit digit) (list_all is_ascii_digit digits) all in
    rw (not_zero digit above, here) (on_again most 0 (digit ∷ digits) rest all low stop)

-- a number from 1 on is read again
pub positive_again : (most n : ℕ) (rest : List ℕ) → 1 ≤ n → n ≤ most → n < 2 ^ 64 → IsStop rest → positive_at most (decimal n ++ rest) ≡ Some (n, rest)
positive_again most n rest first last fits stop =
    let value : value_after 0 (decimal n) ≡ n = digits_value-decimal own n fits in
    let low : value_after 0 (decimal n) ≤ most = omega (arith, value, last) in
    digits_again most (decimal n) rest (digits_decimal own n fits) (decimal_nonempty n fits) (first_decimal n first fits) low stop ∙ ap (λ v. Some (v, rest)) value

first_told : (most byte : ℕ) (bytes : List ℕ) (n : ℕ) (rest : List ℕ) → most < 2 ^ 64 → 48 < byte → is_ascii_digit byte ≡ true
    → number_on most 0 (byte ∷ bytes) ≡ Some (n, rest) → IsNumber (byte ∷ bytes) 1 most n rest
unfolding number_on
first_told most byte bytes n rest fits above digit is =
    let on = rw digit at is in
    elim (cases_Bool (nat_le (10 * 0 + (byte - 48)) most)) [
      | inl low ↦
          let more = rw low at on in
          let run = on_told most (10 * 0 + (byte - 48)) bytes n rest (leb-true _ _ low) more in
          let all : list_all is_ascii_digit (byte ∷ run.digits) ≡ true = rw digit run.all in
          let small : value_after 0 (byte ∷ run.digits) < 2 ^ 64 = omega (arith, run.value, run.within, fits) in
          let written : decimal (value_after 0 (byte ∷ run.digits)) ≡ byte ∷ run.digits =
          decimal-digits_value own (byte ∷ run.digits) all (omega arith) (λ null. absurd (omega (arith, null, above))) small in
          let text : byte ∷ run.digits ≡ decimal n = sym written ∙ ap decimal run.value in
          record {
            split = ap (λ t. byte ∷ t) run.split ∙ ap (λ t. t ++ rest) text;
            first = omega (arith, grows (10 * 0 + (byte - 48)) run.digits, run.value, above);
            last = run.within;
          }
      | inr high ↦ let no = rw high at on in absurd (none-some (n, rest) no)
    ]

-- a number from 1 on stands there as its text
pub positive_told : (most : ℕ) (bytes : List ℕ) (n : ℕ) (rest : List ℕ) → most < 2 ^ 64 → positive_at most bytes ≡ Some (n, rest) → IsNumber bytes 1 most n rest
unfolding positive_at
positive_told most [] n rest fits is = absurd (none-some (n, rest) is)
positive_told most (byte ∷ bytes) n rest fits is = elim (cases_Bool (byte == 48)) [
  | inl null ↦ let no = rw null at is in absurd (none-some (n, rest) no)
  | inr other ↦
      let on = rw other at is in
      elim (cases_Bool (is_ascii_digit byte)) [
        | inl digit ↦ let more = rw digit at on in first_told most byte bytes n rest fits (above_zero byte other digit) digit more
        | inr letter ↦ let no = rw letter at on in absurd (none-some (n, rest) no)
      ]
]

plain_again : (most : ℕ) (digits rest : List ℕ) → 0 < length digits → 48 < get_or digits 0 0 → number_at most (digits ++ rest) ≡ positive_at most (digits ++ rest)
unfolding number_at
plain_again most [] rest some above = absurd (omega arith)
plain_again most (digit ∷ digits) rest some above = rw (not_zero digit above) refl

zero_again : (most : ℕ) (text rest : List ℕ) → text ≡ 48 ∷ [] → number_at most (text ++ rest) ≡ Some (0, rest)
unfolding number_at
zero_again most text rest is = rw is refl

-- a number is read again
pub number_again : (most n : ℕ) (rest : List ℕ) → n ≤ most → n < 2 ^ 64 → IsStop rest → number_at most (decimal n ++ rest) ≡ Some (n, rest)
number_again most zero rest last fits stop = zero_again most (decimal 0) rest (decimal_digit 0 (lit< tt))
number_again most (suc n) rest last fits stop =
    plain_again most (decimal (suc n)) rest (decimal_nonempty (suc n) fits) (first_decimal (suc n) (omega arith) fits)
    ∙ positive_again most (suc n) rest (omega arith) last fits stop

-- a number stands there as its text
pub number_told : (most : ℕ) (bytes : List ℕ) (n : ℕ) (rest : List ℕ) → most < 2 ^ 64 → number_at most bytes ≡ Some (n, rest) → IsNumber bytes 0 most n rest
unfolding number_at
number_told most [] n rest fits is = absurd (none-some (n, rest) is)
number_told most (byte ∷ bytes) n rest fits is = elim (cases_Bool (byte == 48)) [
  | inl null ↦
      let on = rw null at is in
      let (value, left) = some_pair_parts 0 n bytes rest on in
      let digit : byte ≡ 48 = eqb-true byte 48 null in
      let text : decimal n ≡ 48 ∷ [] = ap decimal (sym value) ∙ decimal_digit 0 (lit< tt) in
      record {
        split = ap (λ b. b ∷ bytes) digit ∙ ap (λ t. 48 ∷ t) left ∙ sym (ap (λ t. t ++ rest) text);
        first = omega arith;
        last = omega (arith, value);
      }
  | inr other ↦
      let on = rw other at is in
      let told = positive_told most (byte ∷ bytes) n rest fits on in
      record { split = told.split; first = omega arith; last = told.last }
]
