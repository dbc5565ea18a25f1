use Rattle.std.proofs.Common.{rules}
use Rattle.lock_tests.proofs.Callers.{two_each}
use Rattle.lock_tests.proofs.lock_rows.beside.close_pair.Goals as goal

pub close-requires-clause-each : goal.close-requires-clause-each
close-requires-clause-each c = two_each c.args.tokens.operator.view.count c.args.tokens.first c.args.tokens.second c.push_reserved-2.new.self.items (search rules) (search rules) (search rules) (search rules)
