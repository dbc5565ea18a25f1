use Rattle.std.proofs.Common.{rules}
use Rattle.lock_tests.proofs.Callers.{one_each}
use Rattle.lock_tests.proofs.lock_rows.one_processor.close_single.Goals as goal

pub close-requires-clause-each : goal.close-requires-clause-each
close-requires-clause-each c = one_each c.args.operator.view.count c.args.processor c.push_reserved.new.self.items (search rules) (search rules) (search rules)
