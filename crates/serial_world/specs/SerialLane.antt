-- A lane of the serial world within a section, and what the calls make of a lane.
use Rattle.std.specs.Prelude.{ℕ, zero, suc, ◌==◌, if◌then◌else◌, ◌+◌, ◌*◌, ◌%◌, ◌^◌, Bool, false, not, is_some, Option, Some, None, List, [], ◌∷◌}
use Rattle.fw_world.specs.Caches.{first_cache}
use Rattle.fw_world.specs.Lane.{LaneValue, one_looser}
use Rattle.fw_world.specs.LaneKept.{IsLane, pending_of}

-- a lane within a section, and whether it has judged a packet there
pub record InsideValue : Type 0 where
  pub lane : LaneValue
  pub judged : Bool

-- what holds of a lane within a section
abbrev pub IsInside : InsideValue → Type 0
IsInside inside = IsLane (pending_of inside.judged) inside.lane

-- a new lane, with a cache for so many verdicts or with none
abbrev pub first_lane : Option ℕ → ℕ → LaneValue
first_lane cache place = record {
  place = place;
  number = 1;
  refusal = None;
  tracker = 0;
  docket = record { entries = []; refused = 0 };
  tally = [];
  cache = first_cache cache;
  failed = false;
  loose = 0;
}

-- so many new lanes, from this place on
abbrev pub first_lanes : Option ℕ → ℕ → ℕ → List LaneValue
first_lanes cache place zero = []
first_lanes cache place (suc count) = first_lane cache place ∷ first_lanes cache (place + 1) count

-- the lane began a section: it is in, under the edition that it holds
abbrev pub inside_after_entry : LaneValue → InsideValue
inside_after_entry lane = record {
  lane = record lane { tracker = (lane.tracker + 2) % 2 ^ 64; loose = one_looser (is_some lane.refusal) lane.loose };
  judged = false;
}

-- the lane began a section and was refused with the number that was published
abbrev pub lane_after_refusal : ℕ → LaneValue → LaneValue
lane_after_refusal published lane = record lane {
  tracker = (lane.tracker + 2) % 2 ^ 64;
  docket = record lane.docket { refused = (lane.docket.refused + 1) % 2 ^ 64 };
  refusal = Some published;
  loose = one_looser (is_some lane.refusal) lane.loose;
}

-- the lane left its section
abbrev pub lane_after_leave : InsideValue → LaneValue
lane_after_leave inside = record inside.lane { loose = one_looser (not inside.judged) inside.lane.loose }

-- the lane regained what was published
abbrev pub lane_after_regain : ℕ → LaneValue → LaneValue
lane_after_regain published lane = record lane { number = published; refusal = None }

-- the lane tried to begin a section
abbrev pub lane_after_try : ℕ → LaneValue → LaneValue
lane_after_try published lane = if lane.number == published then (inside_after_entry lane).lane else lane_after_refusal published lane

-- how often a lane that no refusal stands against is refused until it is in
abbrev pub refusals : ℕ → LaneValue → ℕ
refusals published lane = if lane.number == published then 0 else 1

-- the lane is in, under what is published; where it was refused it regained first
abbrev pub lane_after_admission : ℕ → LaneValue → LaneValue
lane_after_admission published lane = record lane {
  number = published;
  refusal = None;
  tracker = (lane.tracker + 2 * (refusals published lane + 1)) % 2 ^ 64;
  docket = record lane.docket { refused = if lane.number == published then lane.docket.refused else (lane.docket.refused + 1) % 2 ^ 64 };
}
