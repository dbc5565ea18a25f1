use Rattle.rule_round_trip.proofs.Words.Spaced.{words_again}
use Rattle.rule_round_trip.proofs.laws.words_are_read_again.Goals as goal

pub returns : goal.returns
returns c = words_again
