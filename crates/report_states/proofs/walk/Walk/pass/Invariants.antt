use Rattle.std.proofs.Common.{◌≡◌, length}
use Rattle.std.specs.Prelude.{filter, max}
use Rattle.report_states.specs.LiveCounts.{is_before, most_states}
use Rattle.report_states.specs.Walks.{GoesOnAt, objects_left}
use Rattle.report_states.proofs.walk.Walk.pass.Given as goal

abbrev pub invariant-loop-entry : goal.invariant-loop-entry
invariant-loop-entry l = record {
  most : most_states (filter (is_before l.end) (objects_left l.fn.self)) ≡ max l.most (most_states (filter (is_before l.end) (objects_left l.self)));
  on : GoesOnAt l.end l.fn.self l.self;
  room : l.self.states.room ≡ l.fn.self.states.room;
}

abbrev pub decreases-loop-entry : goal.decreases-loop-entry
decreases-loop-entry l = length l.self.entries.now
