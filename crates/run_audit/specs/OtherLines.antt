-- The lines that are tested behind the records: lines of records that no capture gives, asks of records that weren't
-- judged, and the lines of lanes.
use Rattle.std.specs.Prelude.{◌≡◌, ℕ, ◌+◌, ◌-◌, ◌≤◌, ◌<◌, ◌==◌, Option, None, Some, IsSomeAnd, List, length, find, slice_get, option_and_then}
use Rattle.eval_engine.specs.Dockets.{judgement_in}
use Rattle.eval_engine.specs.declared.docket_entry.DocketEntry.{DocketEntry}
use Rattle.eval_engine.specs.declared.judgement.Judgement.{Judgement}
use Rattle.fw_world.specs.Sections.{AreSections}
use Rattle.report_reading.specs.Readings.{LineValue, OfRecord, OfPublication, OfAsk, OfLane, OfOther}
use Rattle.run_audit.specs.Judging.{ToldValue}
use Rattle.run_audit.specs.declared.told_report.ToldLane.{ToldLane}

-- the entry of this record, where these dockets have one
abbrev pub entry_at : List (List DocketEntry) → ℕ → ℕ → Option DocketEntry
entry_at dockets lane at = option_and_then (λ entries. slice_get entries (at - 1)) (slice_get dockets (lane - 1))

-- the judgement of this record, where it was judged
abbrev pub judgement_at : List (List DocketEntry) → ℕ → ℕ → Option Judgement
judgement_at dockets lane at = option_and_then judgement_in (entry_at dockets lane at)

-- the first line that names this lane
abbrev pub lane_naming : ToldValue → ℕ → Option ToldLane
lane_naming told lane = find (λ one. one.told.lane == lane) told.lanes

-- a lane's docket of these entries has the sections that this line tells
abbrev pub HasSections : ToldValue → List DocketEntry → ToldLane → Type 0
HasSections told entries one =
    AreSections (length told.editions) (record { entries = entries; refused = one.told.refused }) one.told.tracker

-- The line of this number tells something that is left over: a record that its capture doesn't give, an ask of a record
-- that wasn't judged, or, as the first line of a lane, other sections than its docket has.
abbrev pub IsLeftOver : ToldValue → List (List DocketEntry) → ℕ → LineValue → Type 0
IsLeftOver told dockets number (OfRecord one) = entry_at dockets one.capture one.at ≡ None
IsLeftOver told dockets number (OfPublication edition) = ⊥
IsLeftOver told dockets number (OfAsk one) = judgement_at dockets one.lane one.at ≡ None
IsLeftOver told dockets number (OfLane one) =
    (lane_naming told one.lane ≡ Some (record { line = number; told = one }))
    × IsSomeAnd (slice_get dockets (one.lane - 1)) (λ entries. HasSections told entries (record { line = number; told = one }) → ⊥)
IsLeftOver told dockets number OfOther = ⊥

-- some lane has no line
pub record LacksLane (told : ToldValue) (dockets : List (List DocketEntry)) : Type 0 where
  pub lane : ℕ
  pub first : 1 ≤ lane
  pub last : lane ≤ length dockets
  pub none : lane_naming told lane ≡ None

-- this line is left over, or lacks behind the last one
pub data IsWrongBehind (told : ToldValue) (values : List LineValue) (dockets : List (List DocketEntry)) (number : ℕ) : Type 0 where
  LeftOver : (value : LineValue) → slice_get values (number - 1) ≡ Some value → 1 ≤ number → IsLeftOver told dockets number value
      → IsWrongBehind told values dockets number
  Lacks : number ≡ told.lines + 1 → LacksLane told dockets → IsWrongBehind told values dockets number

-- this is the first line that is wrong behind the records
pub record IsFirstBehind (told : ToldValue) (values : List LineValue) (dockets : List (List DocketEntry)) (line : ℕ) : Type 0 where
  pub wrong : IsWrongBehind told values dockets line
  pub first : (other : ℕ) → other < line → IsWrongBehind told values dockets other → ⊥
