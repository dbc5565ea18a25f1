-- The moves so far.
use Rattle.std.proofs.Common.{◌≡◌, ℕ, ◌<◌, List, [], length, get_or}
use Rattle.report_flows.specs.Counting.{AreTold, Entries, entries_at}
use Rattle.report_flows.specs.declared.flow_counts.FlowSpan.{FlowSpan}

-- what was counted for so many moves is told
pub record ToldSoFar (counts : List Entries) (at : ℕ) (told : List (List FlowSpan)) : Type 0 where
  pub count : length told ≡ at
  pub each : (place : ℕ) → place < at → AreTold (entries_at counts place) (get_or told place [])
