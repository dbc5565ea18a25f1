-- A world of two lanes with its desk: what the workstation of the tests goes through.
use Rattle.std.specs.Prelude.{◌≡◌, None, List, [], ◌∷◌}
use Rattle.fw_world.specs.Caches.{capacity_of}
use Rattle.fw_world.specs.Closing.{AreLanesFrom}
use Rattle.fw_world.specs.Lane.{LaneValue}
use Rattle.fw_world.specs.World.{WorldValue}
use Rattle.generation_store.specs.Published.{Published}

-- The desk shows the world's editions, and the lanes, which have no cache, are the two lanes of
-- the world.
pub record AreTwoLanes (world : WorldValue) (desk : List Published) (first second : LaneValue) : Type 0 where
  pub shows : desk ≡ world.editions
  pub lanes : AreLanesFrom world 1 (first ∷ second ∷ [])
  pub both : world.journal.lanes ≡ 2
  pub cacheless : (capacity_of first.cache ≡ None) × (capacity_of second.cache ≡ None)
