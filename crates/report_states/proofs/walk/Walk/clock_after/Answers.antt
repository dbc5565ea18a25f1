use Rattle.std.proofs.Common.{sym, ◌∙◌}
use Rattle.report_states.proofs.Clocks.{clock_asked, clock_published}
use Rattle.report_states.proofs.walk.Walk.clock_after.Goals as goal

pub returns-in-Publish : goal.returns-in-Publish
returns-in-Publish c = rw c.in-Publish.is (c.clock.ensures ∙ sym (clock_published c.args.self.now.states.object c.args.self.now.facts.now))

pub returns-in-Ask : goal.returns-in-Ask
returns-in-Ask c = rw (c.in-Ask.is, clock_asked c.args.self.now.states.object c.in-Ask.op, ← c.clock-in-Ask.ensures, ← c.second.ensures) c.max.ensures
