-- What contracts see of a world: its editions and its journal; and when a lane and a desk are those of it.
use Rattle.std.specs.Prelude.{ℕ, ◌≤◌, IfSome, List, length, All}
use Rattle.fw_rule.specs.declared.command.Command.{Command}
use Rattle.generation_store.specs.Published.{Published}
use Rattle.rule_chain.specs.Configuration.{Configuration}
use Rattle.state_journal.specs.Journal.{Journal}
use Rattle.fw_world.specs.Asks.{lane_asks}
use Rattle.fw_world.specs.Caches.{IsCacheAmong}
use Rattle.fw_world.specs.Editions.{AreEditions}
use Rattle.fw_world.specs.Inputs.{Input}
use Rattle.fw_world.specs.Lane.{LaneValue}
use Rattle.fw_world.specs.Standing.{StandWithCache}
use Rattle.fw_world.specs.Sections.{judged_editions}

-- The editions from the first on, and the journal of all asks.
pub record WorldValue : Type 0 where
  pub editions : List Published
  pub journal : Journal

-- the number that is published
abbrev pub published_count : WorldValue → ℕ
published_count world = length world.editions

-- The lane is one of this world: its place is, it knows of no edition that wasn't published here, and its cache
-- keeps what is true under the edition of its number.
pub record IsLaneOf (world : WorldValue) (lane : LaneValue) : Type 0 where
  pub first : 1 ≤ lane.place
  pub last : lane.place ≤ world.journal.lanes
  pub held : lane.number ≤ published_count world
  pub heard : IfSome lane.refusal (λ number. number ≤ published_count world)
  pub judged : All (λ number. number ≤ published_count world) (judged_editions lane.docket.entries)
  pub cached : IsCacheAmong world.editions lane.cache

-- the lane stands for these inputs, together with its world
abbrev pub LaneStandsFor : WorldValue → LaneValue → List Input → Type 0
LaneStandsFor world lane inputs = StandWithCache world.editions (lane_asks lane.place world.journal.entries) lane.docket lane.tally lane.cache inputs

-- the desk, which shows these editions, stands for a first configuration and these commands
abbrev pub DeskStandsFor : List Published → Configuration → List Command → Type 0
DeskStandsFor editions first commands = AreEditions first commands editions
