-- The first slots are taken into the lines and the queue, and each slot holds a state.
use Rattle.std.proofs.Common.{◌≡◌, ◌≤◌, take}
use Rattle.dyn_states.specs.ExpiryQueue.{entry_count}
use Rattle.dyn_states.specs.StateTable.{slots_of, HasParts, HasRoom}
use Rattle.dyn_states.proofs.state_table.StateTable.compact.Given as goal

abbrev pub invariant-loop-place : goal.invariant-loop-place
invariant-loop-place l = record {
  parts : HasParts (take l.place (slots_of l.self)) l.self;
  room : HasRoom l.self;
  queue : entry_count l.self.queue ≤ l.place;
  slots : l.self.slots ≡ l.initial.self.slots;
  tallies : l.self.tallies ≡ l.initial.self.tallies;
  most : l.self.most ≡ l.initial.self.most;
}
