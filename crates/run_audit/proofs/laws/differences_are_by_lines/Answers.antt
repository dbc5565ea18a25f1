use Rattle.run_audit.proofs.ByLines.{by_lines}
use Rattle.run_audit.proofs.laws.differences_are_by_lines.Goals as goal

pub returns : goal.returns
returns c = λ line written text. by_lines line written text
