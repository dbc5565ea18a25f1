use Rattle.std.proofs.Common.{refl}
use Rattle.fw_base.proofs.Texts.{starts}
use Rattle.rule_text.specs.Canonical.{rule_text, rest_text, five_digits, rest_words}
use Rattle.rule_text.proofs.Lists.{join_spaces}
use Rattle.rule_text.proofs.WriteSteps.{goes, breaks_off, finishes}
use Rattle.rule_text.proofs.rule_text.write_whole.Goals as goal

pub returns-in_err-write_five_digits : goal.returns-in_err-write_five_digits
unfolding rule_text rest_text
returns-in_err-write_five_digits g c =
    breaks_off _ _ _ (starts _ _) (join_spaces (five_digits c.args.rule.now.number) (rest_words c.args.rule.now)) c.in_err-write_five_digits.was c.write_five_digits.ensures c.from_residual.ensures.1

pub returns : goal.returns
unfolding rule_text rest_text
returns g c =
    finishes _ (goes _ (starts _ _) (join_spaces (five_digits c.args.rule.now.number) (rest_words c.args.rule.now)) c.in_ok-write_five_digits.was c.write_five_digits.ensures) refl c.write_words.ensures
