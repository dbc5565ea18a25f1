use Rattle.std.proofs.Common.{◌+◌, ◌-◌, ◌*◌}
use Rattle.lock_tests.proofs.table_rows.threads.+fn-sections_in_threads-join+arg3+sections_in_threads.Given as goal

abbrev pub decreases-join+arg3 : goal.decreases-join+arg3
decreases-join+arg3 g l = 2 * (l.processors + 1 - l.place)

abbrev pub decreases-sections_in_threads : goal.decreases-sections_in_threads
decreases-sections_in_threads g l = 2 * (l.processors + 1 - l.place) + 1
