use Rattle.lock_tests.proofs.Callers.{only_token}
use Rattle.lock_tests.proofs.lock_rows.one_processor.open_single.Goals as goal

pub returns-clause-processor : goal.returns-clause-processor
returns-clause-processor g c = only_token _ c.in_ok-lock.field-0.processors.items c.pop.new.self.items c.in-Some.processor c.in_ok-lock.ensures.tokens c.in-Some.ensures.items
