use Rattle.rule_round_trip.proofs.Rules.Drafts.{texts_apart}
use Rattle.rule_round_trip.proofs.laws.texts_tell_rules_apart.Goals as goal

pub returns : goal.returns
returns c = texts_apart
