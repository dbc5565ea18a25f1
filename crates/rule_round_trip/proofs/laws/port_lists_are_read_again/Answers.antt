use Rattle.rule_round_trip.proofs.Addresses.Ports.{ranges_again}
use Rattle.rule_round_trip.proofs.laws.port_lists_are_read_again.Goals as goal

pub returns : goal.returns
returns c = ranges_again
