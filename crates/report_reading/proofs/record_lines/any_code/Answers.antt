use Rattle.std.proofs.Common.{ℕ, ap, ◌∙◌}
use Rattle.fw_rule.specs.Names.{unreach_names}
use Rattle.fw_base.specs.Chain.{or_else}
use Rattle.report_reading.specs.Parts.{Part, positive_at}
use Rattle.report_reading.specs.RecordLines.{plain_code, any_code_at}
use Rattle.report_reading.proofs.record_lines.any_code.Goals as goal

pub returns-in-Some : goal.returns-in-Some
unfolding any_code_at unreach_names
returns-in-Some c = ap (λ (named : Part ℕ). or_else named (plain_code (positive_at 255 c.args.text.now))) c.in-Some.ensures

pub returns-in-None : goal.returns-in-None
unfolding any_code_at unreach_names
returns-in-None c = c.plain_code.ensures ∙ ap (λ (named : Part ℕ). or_else named (plain_code (positive_at 255 c.args.text.now))) c.in-None.ensures
