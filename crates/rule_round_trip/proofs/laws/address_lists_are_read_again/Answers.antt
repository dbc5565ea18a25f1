use Rattle.rule_round_trip.proofs.Addresses.Items.{items_again}
use Rattle.rule_round_trip.proofs.laws.address_lists_are_read_again.Goals as goal

pub returns : goal.returns
returns c = items_again
