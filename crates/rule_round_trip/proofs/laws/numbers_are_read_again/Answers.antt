use Rattle.rule_round_trip.proofs.Numbers.Decimal.{number_again}
use Rattle.rule_round_trip.proofs.laws.numbers_are_read_again.Goals as goal

pub returns : goal.returns
returns c = number_again
