use Rattle.rule_round_trip.proofs.Addresses.Six.{prefix6_again}
use Rattle.rule_round_trip.proofs.laws.prefixes6_are_read_again.Goals as goal

pub returns : goal.returns
returns c = prefix6_again
