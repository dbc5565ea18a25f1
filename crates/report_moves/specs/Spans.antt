-- How often something is in a list, where first and where last.
use Rattle.std.specs.Prelude.{◌≡◌, ℕ, ◌+◌, ◌-◌, ◌&&◌, Bool, not, nat_eq, if◌then◌else◌, Option, None, Some, List, length, count_by, sum_by}
use Rattle.std.specs.HashMap.{HashMap, get, values}
use Rattle.std.specs.List.{list_any, position_or_len, suffix_len}
use Rattle.report_moves.specs.declared.spans.Span.{Span}

-- both numbers of two pairs are equal
abbrev pub pair_eq : ℕ × ℕ → ℕ × ℕ → Bool
pair_eq pair other = nat_eq pair.0 other.0 && nat_eq pair.1 other.1

-- the number of the first element that passes, from 1
abbrev pub first_number : {X : Type 0} → (X → Bool) → List X → ℕ
first_number test xs = position_or_len test xs + 1

-- the number of the last element that passes, from 1
abbrev pub last_number : {X : Type 0} → (X → Bool) → List X → ℕ
last_number test xs = length xs - suffix_len (λ x. not (test x)) xs

-- how many elements pass, and the numbers of the first and the last of them; nothing where none passes
unfoldable pub span_of : {X : Type 0} → (X → Bool) → List X → Option Span
span_of test xs =
    if list_any test xs then Some (record { records = count_by test xs; first = first_number test xs; last = last_number test xs })
    else None

-- what there is behind one more element that passes, of this number
abbrev pub one_more : Option Span → ℕ → Span
one_more None number = record { records = 1; first = number; last = number }
one_more (Some span) number = record { records = span.records + 1; first = span.first; last = number }

-- one more record is counted, of this number and under this pair
pub record CountsRecord {S : Type 0} (old new : HashMap (ℕ × ℕ) Span S) (pair : ℕ × ℕ) (number : ℕ) : Type 0 where
  pub spans : (other : ℕ × ℕ) → get pair_eq new other ≡ (if pair_eq pair other then Some (one_more (get pair_eq old pair) number) else get pair_eq old other)
  pub one : sum_by (λ span. span.records) (values new) ≡ sum_by (λ span. span.records) (values old) + 1
