use Rattle.rule_round_trip.proofs.Rules.Drafts.{readable}
use Rattle.rule_round_trip.proofs.laws.canonical_texts_are_readable.Goals as goal

pub returns : goal.returns
returns c = readable
