-- A lane at its post: outside of a section, ready for the next record of its capture.
use Rattle.std.specs.Prelude.{◌≡◌, ℕ, ⊤, None, false, List, [], ◌∷◌, ◌++◌}
use Rattle.atomic_table.specs.Seated.{TableId}
use Rattle.fw_base.specs.declared.port.Port.{Port}
use Rattle.fw_world.specs.Caches.{capacity_of, IsPortFor}
use Rattle.fw_world.specs.Inputs.{Input, Other, Malformed, Packet}
use Rattle.shared_world.specs.SharedLane.{SharedLane, SharedInside}
use Rattle.shared_world.specs.Standing.{LaneStandsFor, KeepsStanding}

-- The lane is one of this world, no refusal stands against it, and no section of it is loose.
pub record IsPosted (world : TableId) (lane : SharedLane) : Type 0 where
  pub of_world : lane.world ≡ world
  pub heeded : lane.refusal ≡ None
  pub clean : lane.loose ≡ 0

-- The lane is at its post as before, with its cache, and stands for what it stood for.
pub record StaysPosted (world : TableId) (before after : SharedLane) : Type 0 where
  pub place : after.place ≡ before.place
  pub cache : after.cache ≡ before.cache
  pub posted : IsPosted world after
  pub stands : KeepsStanding before after

-- The lane is in a section, in which nothing was judged yet.
pub record AdmitsLane (world : TableId) (before : SharedLane) (inside : SharedInside) : Type 0 where
  pub stays : StaysPosted world before inside.lane
  pub fresh : inside.judged ≡ false

-- a packet was captured there; of a record that isn't judged this says nothing
abbrev pub IsCapturedAt : Port → Input → Type 0
IsCapturedAt port Other = ⊤
IsCapturedAt port (Malformed kind) = ⊤
IsCapturedAt port (Packet packet at second) = at ≡ port

-- The lane is at its post as before, and stands for one input more. Its cache has as much room, and is for packets
-- of the same port.
pub record TakesInput (world : TableId) (input : Input) (before after : SharedLane) : Type 0 where
  pub place : after.place ≡ before.place
  pub posted : IsPosted world after
  pub room : capacity_of after.cache ≡ capacity_of before.cache
  pub at_port : (port : Port) → IsCapturedAt port input → IsPortFor before.cache port → IsPortFor after.cache port
  pub stands : (inputs : List Input) → LaneStandsFor before inputs → LaneStandsFor after (inputs ++ input ∷ [])
