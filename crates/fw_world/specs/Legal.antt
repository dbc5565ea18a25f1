-- When a record is legal: it is what the manual's packet filter does with the first configuration, the
-- commands and the lanes' inputs, in some order of lanes and commands.
use Rattle.std.specs.Prelude.{◌≡◌, List, length}
use Rattle.fw_rule.specs.declared.command.Command.{Command}
use Rattle.rule_chain.specs.Configuration.{Configuration}
use Rattle.state_journal.specs.Entries.{AreOfLanes}
use Rattle.state_journal.specs.Journal.{no_states, object_from}
use Rattle.fw_world.specs.Editions.{AreEditions}
use Rattle.fw_world.specs.Inputs.{Input}
use Rattle.fw_world.specs.Lanes.{EachLane, LaneStands, LaneCounts, LaneRises}
use Rattle.fw_world.specs.Publications.{PublishesEach, IsLawful, facts_of}
use Rattle.fw_world.specs.RecordValue.{RecordValue}

-- The record of a first configuration, of the commands that were accepted, and of each lane's inputs.
pub record IsLegal (first : Configuration) (commands : List Command) (inputs : List (List Input)) (r : RecordValue) : Type 0 where
  -- The rule set begins as the first configuration, and each command changes the one before.
  pub editions : AreEditions first commands r.editions
  -- Each change takes effect once, and in order.
  pub published : PublishesEach r.editions r.journal.entries
  -- Packets of all lanes meet the same dynamic states: each reply is what they tell after all that was asked
  -- and changed before.
  pub lawful : IsLawful r.editions r.journal.entries
  -- The clock and the live states at the end are those that all of this leaves.
  pub object : r.journal.object ≡ object_from no_states (facts_of r.editions) r.journal.entries
  -- Each record of a lane is entered in order; each packet is compared with the rules of one edition, with
  -- the replies to its own asks, until one matches, and counted under each rule that counts it.
  pub lanes : EachLane (LaneStands r) 1 inputs r.dockets r.tallies r.trackers
  -- Nobody but the lanes asks for states.
  pub asked : AreOfLanes (length inputs) r.journal.entries
  -- No packet of a lane is compared with an older edition than the one before it, and each section that the
  -- lane began is counted.
  pub sections : EachLane (LaneCounts r) 1 inputs r.dockets r.tallies r.trackers

-- The record is legal but for the count of sections, which some lane left loose.
pub record IsLegalButSections (first : Configuration) (commands : List Command) (inputs : List (List Input)) (r : RecordValue) : Type 0 where
  pub editions : AreEditions first commands r.editions
  pub published : PublishesEach r.editions r.journal.entries
  pub lawful : IsLawful r.editions r.journal.entries
  pub object : r.journal.object ≡ object_from no_states (facts_of r.editions) r.journal.entries
  pub lanes : EachLane (LaneStands r) 1 inputs r.dockets r.tallies r.trackers
  pub asked : AreOfLanes (length inputs) r.journal.entries
  -- no packet of a lane is compared with an older edition than the one before it
  pub rising : EachLane LaneRises 1 inputs r.dockets r.tallies r.trackers
