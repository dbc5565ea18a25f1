-- The tallies: how many states there are, and how many a limit counts.
use Rattle.std.specs.Prelude.{◌≡◌, true, List, count_by}
use Rattle.fw_rule.specs.declared.state_opt.LimitMask.TheVariants.{SrcAddr, SrcPort, DstAddr, DstPort}
use Rattle.dyn_states.specs.declared.state.State.{State}
use Rattle.dyn_states.specs.declared.tallies.Tallies.{Tallies}
use Rattle.dyn_states.specs.LimitCounts.{Counts, HasPairRoom}
use Rattle.dyn_states.specs.Slots.{is_held}

-- what limits count is that of the held states
pub record CountsLimits (slots : List State) (t : Tallies) : Type 0 where
  pub by_source : Counts SrcAddr slots t.by_source
  pub by_source_port : Counts SrcPort slots t.by_source_port
  pub by_destination : Counts DstAddr slots t.by_destination
  pub by_destination_port : Counts DstPort slots t.by_destination_port

-- the number of states is that of the held ones, and so is what limits count, once limits are counted
pub record IsTallied (slots : List State) (t : Tallies) : Type 0 where
  pub live : t.live ≡ count_by is_held slots
  pub limits : t.is_counting ≡ true → CountsLimits slots t

-- each tally knows no more pairs than states were counted, and has memory for as many as there is room
pub record HasTallyRoom (t : Tallies) : Type 0 where
  pub source : HasPairRoom t.counted t.room t.by_source
  pub source_port : HasPairRoom t.counted t.room t.by_source_port
  pub destination : HasPairRoom t.counted t.room t.by_destination
  pub destination_port : HasPairRoom t.counted t.room t.by_destination_port
