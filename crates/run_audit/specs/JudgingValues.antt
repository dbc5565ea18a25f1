-- What was judged so far, as a value.
use Rattle.std.specs.Prelude.{ℕ, ◌+◌, ◌-◌, List, [], length, map, slice_get, unwrap_or}
use Rattle.eval_engine.specs.Dockets.{DocketValue}
use Rattle.eval_engine.specs.declared.docket_entry.DocketEntry.{DocketEntry}
use Rattle.run_audit.specs.Entering.{JudgingValue}
use Rattle.run_audit.specs.declared.judging.Judging.{Judging}

-- the entries of each docket
abbrev pub entries_of_each : List DocketValue → List (List DocketEntry)
entries_of_each dockets = map (λ docket. docket.entries) dockets

-- the entries of the docket in this place; none where there is no such docket
abbrev pub entries_at : List DocketValue → ℕ → List DocketEntry
entries_at dockets place = unwrap_or (slice_get (entries_of_each dockets) place) []

-- what was entered and counted
abbrev pub judging_value : Judging → JudgingValue
judging_value judging = record { dockets = entries_of_each judging.dockets.items; tallies = judging.tallies.items }

-- the number of a lane's next record
abbrev pub next_number : Judging → ℕ → ℕ
next_number judging lane = length (entries_at judging.dockets.items (lane - 1)) + 1
