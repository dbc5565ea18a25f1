-- New lanes without a cache.
use Rattle.std.proofs.Common.{◌≡◌, ℕ, ◌+◌, None, List, [], ◌∷◌, ap}
use Rattle.std.specs.Prelude.{All}
use Rattle.std.specs.List.{AllByRecursion}
use Rattle.std.proofs.lemmas.List.Elements.{All-from_recursion}
use Rattle.atomic_table.specs.Seated.{TableId}
use Rattle.shared_world.specs.Closing.{AreNewLanes}
use Rattle.shared_world.specs.SharedLane.{SharedLane}

-- each is of its world, and has none
each_idle : (world : TableId) (place : ℕ) (lanes : List SharedLane) → AreNewLanes world None place lanes → AllByRecursion (λ (lane : SharedLane). (lane.world ≡ world) × (lane.cache ≡ None)) lanes
each_idle world place [] h = tt
each_idle world place (lane ∷ lanes) h = ((ap (λ (l : SharedLane). l.world) h.0, ap (λ (l : SharedLane). l.cache) h.0), each_idle world (place + 1) lanes h.2)

pub all_idle : (world : TableId) (place : ℕ) (lanes : List SharedLane) → AreNewLanes world None place lanes → All (λ (lane : SharedLane). (lane.world ≡ world) × (lane.cache ≡ None)) lanes
all_idle world place lanes h = All-from_recursion (λ (lane : SharedLane). (lane.world ≡ world) × (lane.cache ≡ None)) lanes (each_idle world place lanes h)
