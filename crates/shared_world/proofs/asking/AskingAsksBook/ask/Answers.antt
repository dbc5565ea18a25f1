use Rattle.std.proofs.Common.{sym, ◌∙◌}
use Rattle.shared_world.proofs.Visits.{kept_asked, kept_missed}
use Rattle.shared_world.proofs.asking.AskingAsksBook.ask.Goals as goal

pub invariant_of-self : goal.invariant_of-self
invariant_of-self g c =
    kept_asked c.self.inside.lock.now c.self.inside.reading c.self.inside.asks c.self.invariant c.in-Some.reading c.ask_once-reading.result.0 (sym c.in-Some.is ∙ c.take.ensures.value) c.ask_once-reading.ensures.lock
    c.args.at c.args.op.now c.ask_once-reading.result.1 (sym c.is_ok.ensures.value ∙ c.if-is_ok.true) c.ask_once-reading.ensures.asked

pub invariant_of-self-else-is_ok : goal.invariant_of-self-else-is_ok
invariant_of-self-else-is_ok g c =
    kept_missed c.self.inside.lock.now c.self.inside.reading c.self.inside.asks c.self.invariant c.in-Some.reading c.ask_once-reading.result.0 (sym c.in-Some.is ∙ c.take.ensures.value) c.ask_once-reading.ensures.lock
    c.ask_once-reading.result.1 (sym c.is_ok.ensures.value ∙ c.if-is_ok.false) c.ask_once-reading.ensures.missed
