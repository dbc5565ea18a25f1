-- The number of a rule, in five digits.
use Rattle.std.proofs.Common.{◌≡◌, ℕ, zero, suc, ◌+◌, ◌-◌, ◌^◌, ◌<◌, ◌≤◌, ◌==◌, true, Some, None, List, [], ◌∷◌, ◌++◌, length, take, drop, replicate, refl, sym, ap, ◌∙◌, inl, inr, arith, nat_le, lit<, length-append}
use Rattle.std.specs.List.{list_all}
use Rattle.std.specs.Fmt.{decimal}
use Rattle.std.specs.Char.{is_ascii_digit}
use Rattle.std.proofs.Math.Seq.{take-append_seam, drop-append_seam}
use Rattle.std.proofs.lemmas.Bool.{cases_Bool, and_parts, le-leb, leb-true, eqb-true}
use Rattle.std.proofs.lemmas.List.{take-append-drop, append-nil, length-take-le}
use Rattle.std.proofs.lemmas.Option.{none-some, some_pair_parts}
use Rattle.std.proofs.lemmas.Fmt.{digits_decimal, digits_value-decimal, decimal-digits_value, length-decimal-le, decimal_digit}
use Rattle.rule_text.specs.Canonical.{five_digits}
use Rattle.report_reading.specs.Parts.{Part, number_on, whole, rule_number_at}
use Rattle.report_reading.proofs.Digits.{value_after, own, on_again, on_told}
use Rattle.report_reading.proofs.Numbers.{above_zero}

-- a number's decimal digits behind so many zeros that they are as many digits as these
abbrev padded : List ℕ → List ℕ
padded digits = replicate (length digits - length (decimal (value_after 0 digits))) 48 ++ decimal (value_after 0 digits)

own_text : (text digits : List ℕ) → text ≡ digits → replicate (length digits - length text) 48 ++ text ≡ digits
own_text text digits is =
    let none : length digits - length text ≡ 0 = omega (arith, ap length is) in
    rw none is

plain_padded : (digit : ℕ) (digits : List ℕ) → 48 < digit → list_all is_ascii_digit (digit ∷ digits) ≡ true
    → value_after 0 (digit ∷ digits) < 2 ^ 64 → padded (digit ∷ digits) ≡ digit ∷ digits
plain_padded digit digits above all small =
    own_text (decimal (value_after 0 (digit ∷ digits))) (digit ∷ digits)
    (decimal-digits_value own (digit ∷ digits) all (omega arith) (λ null. absurd (omega (arith, null, above))) small)

-- so many zeros
pub zeros_length : (k : ℕ) → length {A = ℕ} (replicate k 48) ≡ k
zeros_length zero = refl
zeros_length (suc k) = ap suc (zeros_length k)

one_more : (n : ℕ) (text digits : List ℕ) → replicate (n - length text) 48 ++ text ≡ digits → n ≡ length digits
    → replicate (suc n - length text) 48 ++ text ≡ 48 ∷ digits
one_more n text digits is long =
    let total : length (replicate (n - length text) 48) + length text ≡ n = sym (length-append (replicate (n - length text) 48) text) ∙ ap length is ∙ sym long in
    let next : suc n - length text ≡ suc (n - length text) = omega (arith, total, zeros_length (n - length text)) in
    rw next (ap (λ t. 48 ∷ t) is)

-- digits are the padded text of the number that they write
padded_again : (digits : List ℕ) → 0 < length digits → list_all is_ascii_digit digits ≡ true → value_after 0 digits < 2 ^ 64 → padded digits ≡ digits
padded_again [] some all small = absurd (omega arith)
padded_again (digit ∷ []) some all small = elim (cases_Bool (digit == 48)) [
  | inl null ↦
      let is : digit ≡ 48 = eqb-true digit 48 null in
      rw is (own_text (decimal 0) (48 ∷ []) (decimal_digit 0 (lit< tt)))
  | inr other ↦
      plain_padded digit [] (above_zero digit other (and_parts (is_ascii_digit digit) true all).0) all small
]
padded_again (digit ∷ next ∷ digits) some all small = elim (cases_Bool (digit == 48)) [
  | inl null ↦
      let is : digit ≡ 48 = eqb-true digit 48 null in
      let more = (and_parts (is_ascii_digit digit) (list_all is_ascii_digit (next ∷ digits)) all).1 in
      let less = rw is at small in
      let inner = padded_again (next ∷ digits) (omega arith) more less in
      rw is (one_more (length (next ∷ digits)) (decimal (value_after 0 (next ∷ digits))) (next ∷ digits) inner refl)
  | inr other ↦
      plain_padded digit (next ∷ digits) (above_zero digit other (and_parts (is_ascii_digit digit) (list_all is_ascii_digit (next ∷ digits)) all).0) all small
]

-- a text is a rule's number and a rest
pub record IsRuleNumber (bytes : List ℕ) (n : ℕ) (rest : List ℕ) : Type 0 where
  pub split : bytes ≡ five_digits n ++ rest
  pub last : n ≤ 65535

whole_told : (found : Part ℕ) (behind : List ℕ) (n : ℕ) (rest : List ℕ) → whole found behind ≡ Some (n, rest) → (found ≡ Some (n, [])) × (behind ≡ rest)
whole_told None behind n rest is = absurd (none-some (n, rest) is)
whole_told (Some (m, [])) behind n rest is =
    let (same, end) = some_pair_parts m n behind rest is in
    (ap (λ k. Some (k, [])) same, end)
whole_told (Some (m, byte ∷ bytes)) behind n rest is = absurd (none-some (n, rest) is)

five_told : (digits : List ℕ) (n : ℕ) → length digits ≡ 5 → list_all is_ascii_digit digits ≡ true → value_after 0 digits ≡ n → n ≤ 65535 → digits ≡ five_digits n
unfolding five_digits
five_told digits n long all value low =
    let again : padded digits ≡ digits = padded_again digits (omega (arith, long)) all (omega (arith, value, low)) in
    let five = rw (long, value) at again in
    sym five

-- a rule's number stands there as its five digits
pub rule_number_told : (bytes : List ℕ) (n : ℕ) (rest : List ℕ) → rule_number_at bytes ≡ Some (n, rest) → IsRuleNumber bytes n rest
unfolding rule_number_at
rule_number_told bytes n rest is = elim (cases_Bool (nat_le 5 (length bytes))) [
  | inl enough ↦
      let on = rw enough at is in
      let (found, end) = whole_told (number_on 65535 0 (take 5 bytes)) (drop 5 bytes) n rest on in
      let run = on_told 65535 0 (take 5 bytes) n [] (omega arith) found in
      let front : take 5 bytes ≡ run.digits = run.split ∙ append-nil run.digits in
      let long : length run.digits ≡ 5 = sym (ap length front) ∙ length-take-le 5 bytes (leb-true 5 (length bytes) enough) in
      let text : run.digits ≡ five_digits n = five_told run.digits n long run.all run.value run.within in
      record {
        split = sym (take-append-drop 5 bytes) ∙ ap (λ t. t ++ drop 5 bytes) (front ∙ text) ∙ ap (λ t. five_digits n ++ t) end;
        last = run.within;
      }
  | inr few ↦ let no = rw few at is in absurd (none-some (n, rest) no)
]

-- zeros before a text are digits before it
pub zeros_digits : (k : ℕ) (text : List ℕ) → list_all is_ascii_digit (replicate k 48 ++ text) ≡ list_all is_ascii_digit text
zeros_digits zero text = refl
zeros_digits (suc k) text = zeros_digits k text

-- and they write no more than it
pub zeros_value : (k : ℕ) (text : List ℕ) → value_after 0 (replicate k 48 ++ text) ≡ value_after 0 text
zeros_value zero text = refl
zeros_value (suc k) text = zeros_value k text

five_again : (digits rest : List ℕ) (n : ℕ) → length digits ≡ 5 → list_all is_ascii_digit digits ≡ true → value_after 0 digits ≡ n → n ≤ 65535
    → rule_number_at (digits ++ rest) ≡ Some (n, rest)
unfolding rule_number_at
five_again digits rest n long all value low =
    let enough : nat_le 5 (length (digits ++ rest)) ≡ true = le-leb 5 (length (digits ++ rest)) (omega (arith, length-append digits rest, long)) in
    let front : take 5 (digits ++ rest) ≡ digits = rw (← long) (take-append_seam digits rest) in
    let end : drop 5 (digits ++ rest) ≡ rest = rw (← long) (drop-append_seam digits rest) in
    let read : number_on 65535 0 digits ≡ Some (n, []) =
    ap (number_on 65535 0) (sym (append-nil digits)) ∙ on_again 65535 0 digits [] all (omega (arith, value, low)) tt ∙ ap (λ k. Some (k, [])) value in
    rw (enough, front, end, read) refl

-- a rule's number is read again
pub rule_number_again : (n : ℕ) (rest : List ℕ) → n ≤ 65535 → rule_number_at (five_digits n ++ rest) ≡ Some (n, rest)
unfolding five_digits
rule_number_again n rest low =
    let k : ℕ = 5 - length (decimal n) in
    let fits : n < 2 ^ 64 = omega (arith, low) in
    let long : length (replicate k 48 ++ decimal n) ≡ 5 =
    omega (arith, length-append (replicate k 48) (decimal n), zeros_length k, length-decimal-le 5 n (omega arith) (omega arith) fits) in
    five_again (replicate k 48 ++ decimal n) rest n long (zeros_digits k (decimal n) ∙ digits_decimal own n fits)
    (zeros_value k (decimal n) ∙ digits_value-decimal own n fits) low
