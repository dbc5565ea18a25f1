use Rattle.ipfw_parser.proofs.Places.Rules.{rule_stands}
use Rattle.ipfw_parser.proofs.laws.faults_stand_at_words.Goals as goal

pub returns : goal.returns
returns c = rule_stands
