use Rattle.rule_edits.proofs.Untouched.{untouched_rules_stay}
use Rattle.rule_edits.proofs.laws.untouched_rules_stay.Goals as goal

pub returns : goal.returns
returns c = untouched_rules_stay
