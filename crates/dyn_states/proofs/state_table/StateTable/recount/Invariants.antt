-- The first slots are counted, each once.
use Rattle.std.proofs.Common.{◌≡◌, ◌≤◌, take}
use Rattle.dyn_states.specs.StateTable.{slots_of, HasRoom}
use Rattle.dyn_states.specs.Tallies.{IsTallied}
use Rattle.dyn_states.proofs.state_table.StateTable.recount.Given as goal

abbrev pub invariant-loop-place : goal.invariant-loop-place
invariant-loop-place l = record {
  tallied : IsTallied (take l.place (slots_of l.self)) l.self.tallies;
  room : HasRoom l.self;
  counting : l.self.tallies.is_counting ≡ l.is_counting;
  counted : l.self.tallies.counted ≤ l.place;
  pairs : l.self.tallies.room ≡ l.initial.self.tallies.room;
  slots : l.self.slots ≡ l.initial.self.slots;
  lines : l.self.lines ≡ l.initial.self.lines;
  queue : l.self.queue ≡ l.initial.self.queue;
  most : l.self.most ≡ l.initial.self.most;
}
