-- The numbers that are read.
use Rattle.std.proofs.Common.{◌≡◌, ℕ, ◌≤◌, true, false, ◌&&◌, nat_le, if◌then◌else◌, Some, None, Option, Result, Ok, Err, refl}
use Rattle.std.specs.Prelude.{IfOk, IfSome}
use Rattle.std.proofs.lemmas.Bool.{and_parts, leb-true}
use Rattle.fw_rule.specs.WellFormed.{IsFromTo}
use Rattle.ipfw_parser.specs.declared.kind.Kind.TheVariants.{NumberRange, UnknownWord}
use Rattle.ipfw_parser.specs.Reading.{Word, Fault, fault_at}
use Rattle.ipfw_parser.specs.Numbers.{number, number_by, up_to, starts_with_digit, set_number, decimal as decimal_of}
use Rattle.ipfw_parser.proofs.Forms.Following.{on_if}

by_on : (least most column : ℕ) (found : Option ℕ) → IfOk (number_by least most column found) (λ n. IsFromTo least most n)
by_on least most column None = tt
by_on least most column (Some n) =
    on_if (nat_le least n && nat_le n most) (Ok n) (fault_at column NumberRange) (λ k. IsFromTo least most k)
    (λ both. let parts = and_parts (nat_le least n) (nat_le n most) both in record { least_le = leb-true least n parts.0; most_ge = leb-true n most parts.1 })
    (λ _. tt)

-- a number that is read lies in its range
pub number_on : (least most : ℕ) (word : Word) → IfOk (number least most word) (λ n. IsFromTo least most n)
unfolding number
number_on least most word = by_on least most word.column (decimal_of 10 word.text)

-- a number that is let through is at most as great as asked for
pub up_to_on : (most : ℕ) (found : Option ℕ) → IfSome (up_to most found) (λ n. n ≤ most)
up_to_on most None = tt
up_to_on most (Some n) = elim (nat_le n most) as (λ b. nat_le n most ≡ b → IfSome (if b then Some n else None) (λ (k : ℕ). k ≤ most)) [ true ↦ λ e. leb-true n most e | false ↦ λ _. tt ] refl

weak : (r : Result ℕ Fault) → IfOk r (λ n. IsFromTo 0 31 n) → IfOk r (λ n. n ≤ 31)
weak (Ok n) p = p.most_ge
weak (Err e) p = tt

-- a set's number that is read is at most 31
pub set_on : (word : Word) → IfOk (set_number word) (λ n. n ≤ 31)
unfolding set_number
set_on word =
    on_if (starts_with_digit word.text) (number 0 31 word) (fault_at word.column UnknownWord) (λ n. n ≤ 31)
    (λ _. weak (number 0 31 word) (number_on 0 31 word)) (λ _. tt)
