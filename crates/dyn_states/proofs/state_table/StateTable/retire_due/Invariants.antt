-- Whatever lives at the second is still there, and the table stands.
use Rattle.std.proofs.Common.{◌≡◌}
use Rattle.std.specs.Prelude.{filter}
use Rattle.dyn_states.specs.StateObject as object
use Rattle.dyn_states.specs.ExpiryQueue.{due_count}
use Rattle.dyn_states.specs.StateTable.{slots_of, IsStateTable}
use Rattle.dyn_states.proofs.state_table.StateTable.retire_due.Given as goal

abbrev pub invariant-loop-place : goal.invariant-loop-place
invariant-loop-place l = record {
  table : IsStateTable l.self;
  live : filter (object.is_live l.clock) (slots_of l.self) ≡ filter (object.is_live l.clock) (slots_of l.initial.self);
  most : l.self.most ≡ l.initial.self.most;
}

abbrev pub decreases-loop-place : goal.decreases-loop-place
decreases-loop-place l = due_count l.clock l.self.queue
