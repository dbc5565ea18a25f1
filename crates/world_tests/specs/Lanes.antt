-- Lanes that judge packets of one port, and what a world is closed with.
use Rattle.std.specs.Prelude.{◌≡◌, ℕ}
use Rattle.atomic_table.specs.Seated.{TableId}
use Rattle.fw_base.specs.declared.port.Port.{Port}
use Rattle.fw_world.specs.Caches.{IsPortFor}
use Rattle.shared_world.specs.SharedLane.{SharedLane}

-- the lane of this world at this place, which may judge packets of that port
abbrev pub IsLaneAt : TableId → ℕ → Port → SharedLane → Type 0
IsLaneAt world place port lane = (lane.world ≡ world) × (lane.place ≡ place) × IsPortFor lane.cache port
