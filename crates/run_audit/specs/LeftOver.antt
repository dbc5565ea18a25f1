-- Whether a line is left over behind the records, as tests.
use Rattle.std.specs.Prelude.{ℕ, ◌+◌, ◌-◌, nat_le, Bool, true, false, ◌&&◌, ◌==◌, not, is_some, if◌then◌else◌, Option, Some, None, List, [], ◌∷◌, length, slice_get}
use Rattle.eval_engine.specs.declared.docket_entry.DocketEntry.{DocketEntry}
use Rattle.fw_world.specs.Sections.{judged_editions, tracker_after}
use Rattle.report_reading.specs.Readings.{LineValue, OfRecord, OfPublication, OfAsk, OfLane, OfOther}
use Rattle.report_reading.specs.declared.lane_lines.LaneLine.{LaneLine}
use Rattle.run_audit.specs.Judging.{ToldValue}
use Rattle.run_audit.specs.OtherLines.{entry_at, judgement_at, lane_naming}
use Rattle.fw_base.specs.Chain.{or_else}
use Rattle.run_audit.specs.declared.told_report.ToldLane.{ToldLane}

-- these don't fall, from this number on
abbrev pub rises_from : ℕ → List ℕ → Bool
rises_from least [] = true
rises_from least (number ∷ numbers) = nat_le least number && rises_from number numbers

-- a lane's docket of these entries has the sections that this line tells, where there are so many editions
abbrev pub has_sections : ℕ → List DocketEntry → LaneLine → Bool
has_sections editions entries told =
    rises_from 0 (judged_editions entries) && (nat_le told.refused (editions - 1) && told.tracker == tracker_after (length (judged_editions entries) + told.refused))

-- this line is the first of its lane
abbrev pub is_first : Option ToldLane → ℕ → LaneLine → Bool
is_first None number told = false
is_first (Some one) number told =
    one.line == number && (one.told.lane == told.lane && (one.told.refused == told.refused && one.told.tracker == told.tracker))

-- a lane has other sections than its docket
abbrev pub differs : ℕ → Option (List DocketEntry) → LaneLine → Bool
differs editions None told = false
differs editions (Some entries) told = not (has_sections editions entries told)

-- a record was judged
abbrev pub is_judged : List (List DocketEntry) → ℕ → ℕ → Bool
is_judged dockets lane at = is_some (judgement_at dockets lane at)

-- the line of this number is the first of its lane, and tells other sections than its docket has
abbrev pub is_wrong_lane : ToldValue → List (List DocketEntry) → ℕ → LaneLine → Bool
is_wrong_lane told dockets number one = is_first (lane_naming told one.lane) number one && differs (length told.editions) (slice_get dockets (one.lane - 1)) one

-- what the line of this number tells is left over
abbrev pub is_left_over : ToldValue → List (List DocketEntry) → ℕ → LineValue → Bool
is_left_over told dockets number (OfRecord one) = not (is_some (entry_at dockets one.capture one.at))
is_left_over told dockets number (OfPublication edition) = false
is_left_over told dockets number (OfAsk one) = not (is_judged dockets one.lane one.at)
is_left_over told dockets number (OfLane one) = is_wrong_lane told dockets number one
is_left_over told dockets number OfOther = false

-- the first of these lines that is left over; the first of them has this number
abbrev pub first_left_over : ToldValue → List (List DocketEntry) → ℕ → List LineValue → Option ℕ
first_left_over told dockets number [] = None
first_left_over told dockets number (value ∷ values) =
    if is_left_over told dockets number value then Some number else first_left_over told dockets (number + 1) values

-- each of these lanes has a line, from this lane on
abbrev pub has_each_lane : ToldValue → ℕ → List (List DocketEntry) → Bool
has_each_lane told lane [] = true
has_each_lane told lane (entries ∷ dockets) = is_some (lane_naming told lane) && has_each_lane told (lane + 1) dockets

-- the line behind the last one, where a lane has none
abbrev pub lacking_line : ToldValue → List (List DocketEntry) → Option ℕ
lacking_line told dockets = if has_each_lane told 1 dockets then None else Some (told.lines + 1)

-- the first line that is wrong behind the records
abbrev pub first_behind : ToldValue → List LineValue → List (List DocketEntry) → Option ℕ
first_behind told values dockets = or_else (first_left_over told dockets 1 values) (lacking_line told dockets)
