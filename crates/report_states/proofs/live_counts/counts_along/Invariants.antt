use Rattle.std.proofs.Common.{◌≡◌, ◌≤◌, ◌+◌, ◌*◌, ◌-◌, ◌++◌, ℕ}
use Rattle.report_states.specs.LiveCounts.{counts_from, live_counts, most_living, objects_along}
use Rattle.report_states.specs.Walks.{IsAt, objects_left}
use Rattle.state_journal.specs.Journal.{no_states}
use Rattle.report_states.proofs.live_counts.counts_along.Given as goal

abbrev pub invariant-loop-column : goal.invariant-loop-column
invariant-loop-column l = record {
  counted : l.counts.items ++ counts_from (l.columns.count - l.column) l.begin l.columns.seconds no_states (objects_along no_states l.book.facts l.book.entries) ≡ live_counts l.columns l.book;
  begins : l.begin ≡ l.columns.first + l.column * l.columns.seconds;
  at : IsAt l.begin l.walk;
  on : (begin end : ℕ) → l.begin ≤ begin
      → most_living begin end no_states (objects_along no_states l.book.facts l.book.entries) ≡ most_living begin end l.walk.states.object (objects_left l.walk);
  room : 65536 ≤ l.walk.states.room;
}
