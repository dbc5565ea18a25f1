use Rattle.rule_round_trip.proofs.Addresses.Four.{prefix_again}
use Rattle.rule_round_trip.proofs.laws.prefixes_are_read_again.Goals as goal

pub returns : goal.returns
returns c = prefix_again
