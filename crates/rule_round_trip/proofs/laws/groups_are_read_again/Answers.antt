use Rattle.rule_round_trip.proofs.Addresses.Six.{groups_again}
use Rattle.rule_round_trip.proofs.laws.groups_are_read_again.Goals as goal

pub returns : goal.returns
returns c = groups_again
