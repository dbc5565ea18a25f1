-- What closing a world leaves.
use Rattle.std.specs.Prelude.{ℕ, List, map}
use Rattle.std.specs.List.{AllByRecursion}
use Rattle.fw_world.specs.ByPlace.{HavePlacesFrom, StandFrom, EachWith}
use Rattle.fw_world.specs.Inputs.{Input}
use Rattle.fw_world.specs.Lane.{LaneValue}
use Rattle.fw_world.specs.RecordValue.{RecordValue}
use Rattle.fw_world.specs.RecordedHits.{counted_by}
use Rattle.fw_world.specs.World.{WorldValue, IsLaneOf, LaneStandsFor}

-- the lanes are those of this world from this place on, each once, in the order of their places
abbrev pub AreLanesFrom : WorldValue → ℕ → List LaneValue → Type 0
AreLanesFrom world place lanes = HavePlacesFrom (λ lane. lane.place) (IsLaneOf world) place lanes

-- the lanes are this world's, each once, and this is their order from place 1 on
abbrev pub AreLanesOf : WorldValue → List LaneValue → List LaneValue → Type 0
AreLanesOf world lanes ordered = AllByRecursion (IsLaneOf world) lanes × StandFrom (λ lane. lane.place) 1 lanes ordered

-- each lane stands for its inputs
abbrev pub EachStandsFor : WorldValue → List LaneValue → List (List Input) → Type 0
EachStandsFor world lanes inputs = EachWith (LaneStandsFor world) lanes inputs

-- the record of a world and its lanes
abbrev pub record_of_world : WorldValue → List LaneValue → RecordValue
record_of_world world lanes = record {
  editions = world.editions;
  journal = world.journal;
  dockets = map (λ lane. lane.docket) lanes;
  tallies = map (λ lane. lane.tally) lanes;
  trackers = map (λ lane. lane.tracker) lanes;
  hits = counted_by lanes;
}
