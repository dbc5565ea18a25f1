-- Runs of zero groups (RFC 5952 section 4.2.3).
use Rattle.std.specs.Prelude.{◌≡◌, ℕ, ◌+◌, ◌<◌, ◌≤◌, Some, List, length, slice_get}
use Rattle.rule_text.specs.Address6Text.{longest_run, place_of_run}

-- so many zero groups stand from this place on
pub record IsZeroRun (groups : List ℕ) (place count : ℕ) : Type 0 where
  pub within : place + count ≤ length groups
  pub zeros : (k : ℕ) → k < count → slice_get groups (place + k) ≡ Some 0

-- no run of zero groups is longer, and none as long begins before it
pub record IsFirstLongestRun (groups : List ℕ) (place count : ℕ) : Type 0 where
  pub run : IsZeroRun groups place count
  pub longest : (other size : ℕ) → IsZeroRun groups other size → size ≤ count
  pub first : (other : ℕ) → IsZeroRun groups other count → place ≤ other

-- what is shortened is the longest run of zero groups, the first of equal ones
abbrev pub FirstLongestRunsAreFound : Type 0
FirstLongestRunsAreFound = (groups : List ℕ) → IsFirstLongestRun groups (place_of_run (longest_run groups) groups) (longest_run groups)
