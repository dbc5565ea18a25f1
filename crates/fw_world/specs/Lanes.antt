-- Facts of each lane of a record.
use Rattle.std.specs.Prelude.{ℕ, ◌+◌, ⊤, List, [], ◌∷◌, length}
use Rattle.std.specs.List.Sorted.{IsNonDecreasing}
use Rattle.counter_book.specs.declared.tally.Count.{Count}
use Rattle.eval_engine.specs.Dockets.{DocketValue}
use Rattle.fw_world.specs.Asks.{lane_asks}
use Rattle.fw_world.specs.Inputs.{Input}
use Rattle.fw_world.specs.RecordValue.{RecordValue}
use Rattle.fw_world.specs.Sections.{AreSections, judged_editions}
use Rattle.fw_world.specs.Standing.{StandFor}

-- one fact for each lane, of its inputs, docket, tally and tracker word, from this lane on
abbrev pub EachLane : (ℕ → List Input → DocketValue → List Count → ℕ → Type 0) → ℕ → List (List Input) → List DocketValue → List (List Count) → List ℕ → Type 0
EachLane P lane [] [] [] [] = ⊤
EachLane P lane (inputs ∷ others) (docket ∷ dockets) (tally ∷ tallies) (tracker ∷ trackers) =
    P lane inputs docket tally tracker × EachLane P (lane + 1) others dockets tallies trackers
EachLane P lane others dockets tallies trackers = ⊥

-- the lane stands for its inputs
abbrev pub LaneStands : RecordValue → ℕ → List Input → DocketValue → List Count → ℕ → Type 0
LaneStands r lane inputs docket tally tracker = StandFor r.editions (lane_asks lane r.journal.entries) docket tally inputs

-- its sections are those of its docket
abbrev pub LaneCounts : RecordValue → ℕ → List Input → DocketValue → List Count → ℕ → Type 0
LaneCounts r lane inputs docket tally tracker = AreSections (length r.editions) docket tracker

-- editions never fall within a lane
abbrev pub LaneRises : ℕ → List Input → DocketValue → List Count → ℕ → Type 0
LaneRises lane inputs docket tally tracker = IsNonDecreasing (judged_editions docket.entries)
