use Rattle.rule_text.proofs.Lists.{spaced-options}
use Rattle.rule_text.proofs.WriteSteps.{goes, breaks_off}
use Rattle.rule_text.proofs.options.write_options.Goals as goal

pub returns-in_err-write_option : goal.returns-in_err-write_option
returns-in_err-write_option g c = breaks_off _ _ _ c.loop-option.invariant (spaced-options _ _ _ c.option-item.is c.loop-option-test.true) c.in_err-write_option.was c.write_option.ensures c.from_residual.ensures.1

pub loop-option-preserved : goal.loop-option-preserved
loop-option-preserved g c = goes _ c.loop-option.invariant (spaced-options _ _ _ c.option-item.is c.loop-option-test.true) c.in_ok-write_option.was c.write_option.ensures
