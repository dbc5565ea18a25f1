-- A world of one lane with its desk: what the worked rows of the tests go through.
use Rattle.std.specs.Prelude.{◌≡◌, None, List}
use Rattle.fw_world.specs.Caches.{capacity_of}
use Rattle.fw_world.specs.Lane.{LaneValue}
use Rattle.fw_world.specs.World.{WorldValue, IsLaneOf}
use Rattle.generation_store.specs.Published.{Published}

-- The desk shows the world's editions, and the lane, which has no cache, is the one lane of the world.
pub record IsOneLane (world : WorldValue) (desk : List Published) (lane : LaneValue) : Type 0 where
  pub shows : desk ≡ world.editions
  pub of_world : IsLaneOf world lane
  pub first : lane.place ≡ 1
  pub alone : world.journal.lanes ≡ 1
  pub cacheless : capacity_of lane.cache ≡ None
