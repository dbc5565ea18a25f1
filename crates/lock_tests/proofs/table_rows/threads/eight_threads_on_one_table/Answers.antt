use Rattle.std.proofs.Common.{arith}
use Rattle.rm_table.proofs.Writes.{joined_all}
use Rattle.lock_tests.proofs.table_rows.threads.eight_threads_on_one_table.Goals as goal

pub close-closed-requires-clause-joined : goal.close-closed-requires-clause-joined
close-closed-requires-clause-joined g c = joined_all c.sections_in_threads-operator.result.me.0 c.sections_in_threads-operator.result.me.1 (omega (arith, c.sections_in_threads-operator.ensures.count)) c.sections_in_threads-operator.ensures.rejoined
