use Rattle.rule_round_trip.proofs.Rules.Drafts.{again}
use Rattle.rule_round_trip.proofs.laws.rules_are_read_again.Goals as goal

pub returns : goal.returns
returns c = again
