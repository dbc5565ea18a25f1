use Rattle.lock_tests.proofs.Callers.{both_tokens}
use Rattle.lock_tests.proofs.lock_rows.two_processors.open_pair.Goals as goal

pub returns-clause-first : goal.returns-clause-first
returns-clause-first g c = (both_tokens _ c.in_ok-lock.field-0.processors.items c.pop.new.self.items c.pop-2.new.self.items c.in-Some-Some.first c.in-Some-Some.second c.in_ok-lock.ensures.tokens c.in-Some-Some.ensures.items c.in-Some-Some.ensures'.items).0

pub returns-clause-second : goal.returns-clause-second
returns-clause-second g c = (both_tokens _ c.in_ok-lock.field-0.processors.items c.pop.new.self.items c.pop-2.new.self.items c.in-Some-Some.first c.in-Some-Some.second c.in_ok-lock.ensures.tokens c.in-Some-Some.ensures.items c.in-Some-Some.ensures'.items).1
