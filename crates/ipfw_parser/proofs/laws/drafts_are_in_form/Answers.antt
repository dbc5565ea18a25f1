use Rattle.ipfw_parser.proofs.Forms.Rules.{rule_in_on}
use Rattle.ipfw_parser.proofs.laws.drafts_are_in_form.Goals as goal

pub returns : goal.returns
returns c = rule_in_on
