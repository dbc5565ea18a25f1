-- What the calls of a lane do that judge nothing.
use Rattle.std.specs.Prelude.{◌≡◌, ℕ, ◌<◌, ◌≤◌, true, false, IfSome, OnOk, OnErr, Result, Some, List, [], ◌∷◌, ◌++◌, slice_get}
use Rattle.fw_base.specs.declared.failure.OutOfMemory.{OutOfMemory}
use Rattle.fw_world.specs.Inputs.{Input}
use Rattle.fw_world.specs.Skips.{entry_for, skipped_input}
use Rattle.fw_world.specs.declared.skipped.Skipped.{Skipped}
use Rattle.generation_store.specs.Published.{Published}
use Rattle.rule_chain.specs.Configuration.{Configuration}
use Rattle.shared_world.specs.SharedLane.{SharedLane, SharedInside, lane_after_entry, lane_after_refusal, lane_after_leave, lane_after_regain, with_entry}
use Rattle.shared_world.specs.Standing.{LaneStandsFor, KeepsStanding}
use Rattle.shared_world.specs.declared.lane_entry.LaneEntry.{LaneEntry}
use Rattle.shared_world.specs.declared.lane_entry.LaneEntry.TheVariants.{In, Revoked}

-- no edition that the lane read has a greater number
abbrev pub SeesUpTo : SharedLane → ℕ → Type 0
SeesUpTo lane number = (j seen : ℕ) (config : Configuration) → slice_get lane.seen j ≡ Some (seen, config) → seen ≤ number

-- each edition that the lane read under this number was of this configuration
abbrev pub SeesAs : SharedLane → ℕ → Configuration → Type 0
SeesAs lane number config = (j : ℕ) (other : Configuration) → slice_get lane.seen j ≡ Some (number, other) → other ≡ config

-- The lane is in a new section, and reads an edition of the number that it held, which none that it read
-- before is past. Each that it read before under this number was of the same configuration.
pub record EntersIn (lane : SharedLane) (inside : SharedInside) : Type 0 where
  pub edition : Published
  pub reads : inside.edition ≡ Some edition
  pub held : edition.number ≡ lane.number
  pub latest : SeesUpTo lane edition.number
  pub named : SeesAs lane edition.number edition.config
  pub lane_is : inside.lane ≡ lane_after_entry edition lane
  pub fresh : inside.judged ≡ false
  pub stands : KeepsStanding lane inside.lane

-- The lane was refused with that number, which is greater than the one that it holds.
pub record IsRefused (lane after : SharedLane) (number : ℕ) : Type 0 where
  pub above : lane.number < number
  pub lane_is : after ≡ lane_after_refusal number lane
  pub stands : KeepsStanding lane after

-- what a try to begin a section does
abbrev pub EntersLane : SharedLane → LaneEntry → Type 0
EntersLane lane (In inside) = EntersIn lane inside
EntersLane lane (Revoked after number) = IsRefused lane after number

-- The lane took the lock behind once, and holds the edition of the number that it read under it. That number is
-- at least the one that it held, every one that it was refused with since, and every one that it saw.
pub record RegainsLane (lane after : SharedLane) : Type 0 where
  pub number : ℕ
  pub held : lane.number ≤ number
  pub heard : IfSome lane.refusal (λ refused. refused ≤ number)
  pub latest : SeesUpTo lane number
  pub lane_is : after ≡ lane_after_regain number lane
  pub stands : KeepsStanding lane after

-- The lane left its section.
pub record LeavesLane (inside : SharedInside) (after : SharedLane) : Type 0 where
  pub lane_is : after ≡ lane_after_leave inside
  pub stands : KeepsStanding inside.lane after

-- A record of a lane was entered that isn't judged, or memory was wanted.
pub record SkipsNext (before after : SharedLane) (entry : Skipped) (result : Result (Unit {0}) OutOfMemory) : Type 0 where
  pub lane_is : OnOk result (after ≡ with_entry (entry_for entry) before)
  -- the lane stands for one input more
  pub stands : OnOk result ((inputs : List Input) → LaneStandsFor before inputs → LaneStandsFor after (inputs ++ skipped_input entry ∷ []))
  pub working : OnOk result (before.failed ≡ false)
  pub failed : OnErr result (after ≡ record before { failed = true })
