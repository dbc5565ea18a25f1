use Rattle.std.proofs.Common.{refl}
use Rattle.fw_base.proofs.Texts.{starts}
use Rattle.rule_text.proofs.Lists.{spaced-option}
use Rattle.rule_text.proofs.WriteSteps.{goes, breaks_off, finishes}
use Rattle.rule_text.proofs.options.write_option.Goals as goal

pub returns-in_err-write_text : goal.returns-in_err-write_text
returns-in_err-write_text g c = breaks_off _ _ _ (starts _ _) (rw (← c.option_start.ensures) at (spaced-option c.args.option.now)) c.in_err-write_text.was c.write_text.ensures c.from_residual.ensures.1

pub returns : goal.returns
returns g c = finishes _ (goes _ (starts _ _) (rw (← c.option_start.ensures) at (spaced-option c.args.option.now)) c.in_ok-write_text.was c.write_text.ensures) refl c.write_test.ensures
