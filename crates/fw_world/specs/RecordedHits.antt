-- The hits that a record tells of, one number a lane: as many of the packets that it judged as the definition of
-- hits says. Where the lanes have no cache there is no number.
use Rattle.std.specs.Prelude.{◌≡◌, ℕ, ◌-◌, ◌^◌, min, Option, Some, None, List, [], ◌∷◌}
use Rattle.std.specs.List.{AllByRecursion}
use Rattle.eval_engine.specs.Dockets.{DocketValue}
use Rattle.generation_store.specs.Published.{Published}
use Rattle.cached_verdicts.specs.Visits.{hits_in}
use Rattle.fw_world.specs.Caches.{capacity_of, counted_before}
use Rattle.fw_world.specs.Inputs.{Input}
use Rattle.fw_world.specs.Lane.{LaneValue}
use Rattle.fw_world.specs.RecordValue.{RecordValue}
use Rattle.fw_world.specs.Visits.{lane_visits}

-- the hits of one lane, with room for so many verdicts; a count stands still at the end of 64 bits
abbrev pub lane_hits_of : ℕ → List Published → List Input → DocketValue → ℕ
lane_hits_of capacity editions inputs docket = min (hits_in capacity (lane_visits editions inputs docket.entries)) (2 ^ 64 - 1)

-- those of each lane
abbrev pub hits_of_each : ℕ → List Published → List (List Input) → List DocketValue → List ℕ
hits_of_each capacity editions [] dockets = []
hits_of_each capacity editions (inputs ∷ others) [] = []
hits_of_each capacity editions (inputs ∷ others) (docket ∷ dockets) = lane_hits_of capacity editions inputs docket ∷ hits_of_each capacity editions others dockets

-- those of a record whose lanes have a cache for so many verdicts, or have none
abbrev pub recorded_hits : Option ℕ → List (List Input) → RecordValue → List ℕ
recorded_hits None inputs r = []
recorded_hits (Some capacity) inputs r = hits_of_each capacity r.editions inputs r.dockets

-- the record's hits are those of its packets
abbrev pub TellsHits : Option ℕ → List (List Input) → RecordValue → Type 0
TellsHits cache inputs r = r.hits ≡ recorded_hits cache inputs r

-- each lane has a cache for so many verdicts, or each has none
abbrev pub EachHasRoom : Option ℕ → List LaneValue → Type 0
EachHasRoom cache lanes = AllByRecursion (λ lane. capacity_of lane.cache ≡ cache) lanes

-- the hits that the lanes' caches have counted
abbrev pub counted_by : List LaneValue → List ℕ
counted_by [] = []
counted_by (lane ∷ lanes) = counted_before lane.cache (counted_by lanes)
