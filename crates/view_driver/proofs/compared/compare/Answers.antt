use Rattle.view_driver.proofs.OutcomesTold.{has_outcomes}
use Rattle.view_driver.proofs.compared.compare.Goals as goal

pub returns-clause-outcomes : goal.returns-clause-outcomes
returns-clause-outcomes c =
    has_outcomes _ _ _ c.args.old.now.captures.items c.args.new.now.captures.items _ c.into_vec.ensures.texts c.into_vec.ensures.distinct
    c.in_ok-old.ensures.outcomes c.in_ok-new.ensures.outcomes (rw (c.deref.ensures.value, c.deref-2.ensures.value) at c.verdicts_between-other_verdicts.ensures)
