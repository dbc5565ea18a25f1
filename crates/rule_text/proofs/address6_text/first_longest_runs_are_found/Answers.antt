use Rattle.rule_text.proofs.RunLaw.{first_longest}
use Rattle.rule_text.proofs.address6_text.first_longest_runs_are_found.Goals as goal

pub returns : goal.returns
returns c = first_longest
