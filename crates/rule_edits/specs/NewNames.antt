-- The flow names that an `add` gives numbers (ipfw(8), "STATEFUL FIREWALL").
use Rattle.std.specs.Prelude.{ℕ, Bool, nat_eq, nat_le, if◌then◌else◌, Option, Some, None, List, [], ◌∷◌, ◌++◌, length, Ok, Err}
use Rattle.std.specs.Cmp.Lexicographic.{pointwise}
use Rattle.std.specs.List.{list_any}
use Rattle.rule_edits.specs.declared.apply_fault.ApplyFault.TheVariants.{TooManyNames}
use Rattle.rule_edits.specs.Answers.{Answer}

-- the name has a number
abbrev pub is_listed : List (List ℕ) → List ℕ → Bool
is_listed names name = list_any (λ other. pointwise nat_eq other name) names

-- the names after an `add` that names this one: a new one gets the next number, and there are at most 64
abbrev pub with_name : List (List ℕ) → List ℕ → Answer (List (List ℕ))
with_name names name =
    if is_listed names name then Ok names
    else if nat_le 64 (length names) then Err TooManyNames
    else Ok (names ++ name ∷ [])

-- the names after an `add` that may name one
unfoldable pub with_name_of : List (List ℕ) → Option (List ℕ) → Answer (List (List ℕ))
with_name_of names None = Ok names
with_name_of names (Some name) = with_name names name
