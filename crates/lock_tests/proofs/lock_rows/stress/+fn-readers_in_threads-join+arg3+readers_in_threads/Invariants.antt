use Rattle.std.proofs.Common.{◌+◌, ◌*◌}
use Rattle.std.specs.Prelude.{vec_len}
use Rattle.lock_tests.proofs.lock_rows.stress.+fn-readers_in_threads-join+arg3+readers_in_threads.Given as goal

abbrev pub decreases-join+arg3 : goal.decreases-join+arg3
decreases-join+arg3 g l = 2 * vec_len l.readers + 2

abbrev pub decreases-readers_in_threads : goal.decreases-readers_in_threads
decreases-readers_in_threads g l = 2 * vec_len l.readers + 1
