use Rattle.report_values.proofs.TextNumbers.{none_numbered}
use Rattle.report_values.proofs.outcome_texts.OutcomeTexts.new.Goals as goal

pub invariant_of-result : goal.invariant_of-result
invariant_of-result c = rw c.new.ensures.items (none_numbered c.new-2.result c.new-2.ensures.empty)
