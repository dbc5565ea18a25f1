-- Digits at the front of a text.
use Rattle.std.proofs.Common.{◌≡◌, ℕ, ◌+◌, ◌-◌, ◌*◌, ◌≤◌, true, false, Some, List, [], ◌∷◌, ◌++◌, refl, ap, inl, inr, arith, rules, nat_le}
use Rattle.std.specs.List.{list_all}
use Rattle.std.specs.Char.{is_ascii_digit}
use Rattle.std.proofs.lemmas.Bool.{cases_Bool, and_parts, le-leb, leb-true}
use Rattle.std.proofs.lemmas.Option.{none-some, some_pair_parts}
use Rattle.std.proofs.lemmas.Str.Parse.{IsNumeralModel, numerals_by_fold}
use Rattle.report_reading.specs.Parts.{Part, number_on}

-- the number that digits write behind those of n
abbrev pub value_after : ℕ → List ℕ → ℕ
value_after n [] = n
value_after n (digit ∷ digits) = value_after (10 * n + (digit - 48)) digits

-- digits have this value, as std reads them
pub own : IsNumeralModel (λ ds. list_all is_ascii_digit ds ≡ true) (value_after 0)
own = numerals_by_fold _ (search rules) value_after (search rules)

-- more digits write no smaller number
pub grows : (n : ℕ) (digits : List ℕ) → n ≤ value_after n digits
grows n [] = omega arith
grows n (digit ∷ digits) = omega (arith, grows (10 * n + (digit - 48)) digits)

-- a text doesn't go on with a digit
abbrev pub IsStop : List ℕ → Type 0
IsStop [] = Unit {0}
IsStop (byte ∷ bytes) = is_ascii_digit byte ≡ false

-- digits are read again
pub on_again : (most n : ℕ) (digits rest : List ℕ) → list_all is_ascii_digit digits ≡ true → value_after n digits ≤ most → IsStop rest
    → number_on most n (digits ++ rest) ≡ Some (value_after n digits, rest)
unfolding number_on
on_again most n [] [] all low stop = refl
on_again most n [] (byte ∷ rest) all low stop = rw stop refl
on_again most n (digit ∷ digits) rest all low stop =
    let (here, more) = and_parts (is_ascii_digit digit) (list_all is_ascii_digit digits) all in
    let small : 10 * n + (digit - 48) ≤ most = omega (arith, grows (10 * n + (digit - 48)) digits) in
    rw (here, le-leb (10 * n + (digit - 48)) most small) (on_again most (10 * n + (digit - 48)) digits rest more low stop)

-- a text is digits that write a number behind those of another, and a rest
pub record IsRun (bytes : List ℕ) (most start n : ℕ) (rest : List ℕ) : Type 0 where
  pub digits : List ℕ
  pub split : bytes ≡ digits ++ rest
  pub all : list_all is_ascii_digit digits ≡ true
  pub value : value_after start digits ≡ n
  pub within : n ≤ most

-- where no digit stands, the number stays
stays : (most start : ℕ) (bytes : List ℕ) (n : ℕ) (rest : List ℕ) → start ≤ most → ◌≡◌ {A = Part ℕ} (Some (start, bytes)) (Some (n, rest)) → IsRun bytes most start n rest
stays most start bytes n rest small is =
    let (value, left) = some_pair_parts start n bytes rest is in
    let within : n ≤ most = omega (arith, value) in
    record { digits = []; split = left; all = refl; value = value; within = within }

-- what is read is digits
pub on_told : (most start : ℕ) (bytes : List ℕ) (n : ℕ) (rest : List ℕ) → start ≤ most → number_on most start bytes ≡ Some (n, rest) → IsRun bytes most start n rest
unfolding number_on
on_told most start [] n rest small is = stays most start [] n rest small is
on_told most start (byte ∷ bytes) n rest small is = elim (cases_Bool (is_ascii_digit byte)) [
  | inl digit ↦
      let on = rw digit at is in
      elim (cases_Bool (nat_le (10 * start + (byte - 48)) most)) [
        | inl low ↦
            let more = rw low at on in
            let run = on_told most (10 * start + (byte - 48)) bytes n rest (leb-true _ _ low) more in
            record { digits = byte ∷ run.digits; split = ap (λ t. byte ∷ t) run.split; all = rw digit run.all; value = run.value; within = run.within }
        | inr high ↦ let no = rw high at on in absurd (none-some (n, rest) no)
      ]
  | inr other ↦ let left = rw other at is in stays most start (byte ∷ bytes) n rest small left
]
