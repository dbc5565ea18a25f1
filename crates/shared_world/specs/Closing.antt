-- A shared world as it opens and as it closes.
use Rattle.std.specs.Prelude.{◌≡◌, ℕ, ◌+◌, ⊤, Option, List, [], ◌∷◌, map}
use Rattle.std.specs.List.{AllByRecursion}
use Rattle.atomic_table.specs.Seated.{TableId}
use Rattle.fw_world.specs.Asks.{lane_asks}
use Rattle.fw_world.specs.ByPlace.{HavePlacesFrom, StandFrom, EachWith}
use Rattle.fw_world.specs.Caches.{capacity_of}
use Rattle.fw_world.specs.Inputs.{Input}
use Rattle.fw_world.specs.RecordValue.{RecordValue}
use Rattle.fw_world.specs.RecordedHits.{counted_by}
use Rattle.fw_world.specs.Sections.{tracker_after}
use Rattle.shared_world.specs.SharedDesk.{SharedDesk}
use Rattle.shared_world.specs.SharedLane.{SharedLane, new_lane, plain_lane}
use Rattle.shared_world.specs.Standing.{LaneStandsFor}

-- new lanes of this world, from this place on, each with a cache for so many verdicts or with none, and each of
-- which stands for no input
abbrev pub AreNewLanes : TableId → Option ℕ → ℕ → List SharedLane → Type 0
AreNewLanes world cache place [] = ⊤
AreNewLanes world cache place (lane ∷ lanes) = (lane ≡ new_lane world cache place) × LaneStandsFor lane [] × AreNewLanes world cache (place + 1) lanes

-- the lanes are those of this world from this place on, each once, in the order of their places
abbrev pub AreLanesFrom : TableId → ℕ → List SharedLane → Type 0
AreLanesFrom world place lanes = HavePlacesFrom (λ lane. lane.place) (λ lane. lane.world ≡ world) place lanes

-- the lanes are this world's, each once, and this is their order from place 1 on
abbrev pub AreLanesOf : TableId → List SharedLane → List SharedLane → Type 0
AreLanesOf world lanes ordered = AllByRecursion (λ lane. lane.world ≡ world) lanes × StandFrom (λ lane. lane.place) 1 lanes ordered

-- each lane stands for its inputs
abbrev pub EachStandsFor : List SharedLane → List (List Input) → Type 0
EachStandsFor lanes inputs = EachWith LaneStandsFor lanes inputs

-- each lane has a cache for so many verdicts, or each has none
abbrev pub EachHasRoom : Option ℕ → List SharedLane → Type 0
EachHasRoom cache lanes = AllByRecursion (λ lane. capacity_of lane.cache ≡ cache) lanes

-- The record of a world: its editions are the desk's, its dockets and tallies those of the lanes, each tracker
-- word is twice the sections of its lane, modulo 2^64, its hits are those that the lanes' caches have counted, and
-- the asks of each lane in its journal are the lane's.
pub record IsRecordOf (desk : SharedDesk) (lanes : List SharedLane) (r : RecordValue) : Type 0 where
  pub editions : r.editions ≡ desk.editions
  pub dockets : r.dockets ≡ map (λ lane. lane.docket) lanes
  pub tallies : r.tallies ≡ map (λ lane. lane.tally) lanes
  pub trackers : r.trackers ≡ map (λ lane. tracker_after lane.sections) lanes
  pub hits : r.hits ≡ counted_by (map plain_lane lanes)
  pub lanes_are : r.journal.lanes ≡ desk.lanes
  pub asks : AllByRecursion (λ lane. lane_asks lane.place r.journal.entries ≡ lane.asks) lanes
