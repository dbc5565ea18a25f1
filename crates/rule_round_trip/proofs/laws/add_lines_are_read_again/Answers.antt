use Rattle.rule_round_trip.proofs.AddLines.{add_again}
use Rattle.rule_round_trip.proofs.laws.add_lines_are_read_again.Goals as goal

pub returns : goal.returns
returns c = add_again
