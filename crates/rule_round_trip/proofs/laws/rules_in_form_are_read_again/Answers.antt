use Rattle.rule_round_trip.proofs.Rules.Drafts.{form_again}
use Rattle.rule_round_trip.proofs.laws.rules_in_form_are_read_again.Goals as goal

pub returns : goal.returns
returns c = form_again
