-- Where the rules of a number in an edition stand among all.
use Rattle.std.specs.Prelude.{◌≡◌, ℕ, ◌+◌, ◌<◌, ◌≤◌, ◌&&◌, Bool, true, false, nat_eq, Option, None, Some, List, length, slice_index_or}
use Rattle.std.specs.HashMap.{HashMap, get}
use Rattle.report_values.specs.Outcomes.{is_numbered}
use Rattle.report_values.specs.declared.known_rules.Stretch.{Stretch}
use Rattle.report_values.specs.declared.rules.KnownRule.{KnownRule}

-- both numbers of two pairs are equal
abbrev pub pair_eq : ℕ × ℕ → ℕ × ℕ → Bool
pair_eq pair other = nat_eq pair.0 other.0 && nat_eq pair.1 other.1

-- one more rule is found at this place
abbrev pub stretch_to : Option Stretch → ℕ → Stretch
stretch_to None place = record { first = place; end = place + 1 }
stretch_to (Some stretch) place = record { first = stretch.first; end = place + 1 }

-- Among so many rules those of this edition and number stand within the stretch, or there are none.
abbrev pub IsStretchOf : List KnownRule → ℕ → ℕ × ℕ → Option Stretch → Type 0
IsStretchOf rules count pair None = (place : ℕ) (none : KnownRule) → place < count → is_numbered pair.0 pair.1 (slice_index_or rules place none) ≡ false
IsStretchOf rules count pair (Some stretch) =
    (stretch.first ≤ stretch.end) × (stretch.end ≤ count)
    × ((place : ℕ) (none : KnownRule) → place < count → is_numbered pair.0 pair.1 (slice_index_or rules place none) ≡ true
    → (stretch.first ≤ place) × (place < stretch.end))

-- the map tells of each edition and number where their rules stand
abbrev pub AreFound : {S : Type 0} → List KnownRule → HashMap (ℕ × ℕ) Stretch S → Type 0
AreFound rules stretches = (pair : ℕ × ℕ) → IsStretchOf rules (length rules) pair (get pair_eq stretches pair)
