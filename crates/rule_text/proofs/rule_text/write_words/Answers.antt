use Rattle.std.proofs.Common.{refl}
use Rattle.fw_base.proofs.Texts.{starts}
use Rattle.rule_text.specs.Canonical.{rest_text, set_words, action_words, log_words, optional_body}
use Rattle.rule_text.proofs.Lists.{words-split}
use Rattle.rule_text.proofs.WriteSteps.{goes, breaks_off, finishes}
use Rattle.rule_text.proofs.rule_text.write_words.Goals as goal

pub returns-in_err-write_set : goal.returns-in_err-write_set
unfolding rest_text
returns-in_err-write_set g c =
    breaks_off _ _ _ (starts _ _) (words-split (set_words c.args.rule.now.set) (action_words c.args.rule.now.action) (log_words c.args.rule.now.log) (optional_body c.args.rule.now.body)) c.in_err-write_set.was c.write_set.ensures c.from_residual.ensures.1

pub returns-in_err-write_action : goal.returns-in_err-write_action
unfolding rest_text
returns-in_err-write_action g c =
    breaks_off _ _ _ (goes _ (starts _ _) (words-split (set_words c.args.rule.now.set) (action_words c.args.rule.now.action) (log_words c.args.rule.now.log) (optional_body c.args.rule.now.body)) c.in_ok-write_set.was c.write_set.ensures) refl c.in_err-write_action.was c.write_action.ensures c.from_residual-in_err-write_action.ensures.1

pub returns-in_err-write_log : goal.returns-in_err-write_log
unfolding rest_text
returns-in_err-write_log g c =
    breaks_off _ _ _ (goes _ (goes _ (starts _ _) (words-split (set_words c.args.rule.now.set) (action_words c.args.rule.now.action) (log_words c.args.rule.now.log) (optional_body c.args.rule.now.body)) c.in_ok-write_set.was c.write_set.ensures) refl c.in_ok-write_action.was c.write_action.ensures) refl c.in_err-write_log.was c.write_log.ensures c.from_residual-in_err-write_log.ensures.1

pub returns : goal.returns
unfolding rest_text
returns g c =
    finishes _ (goes _ (goes _ (goes _ (starts _ _) (words-split (set_words c.args.rule.now.set) (action_words c.args.rule.now.action) (log_words c.args.rule.now.log) (optional_body c.args.rule.now.body)) c.in_ok-write_set.was c.write_set.ensures) refl c.in_ok-write_action.was c.write_action.ensures) refl c.in_ok-write_log.was c.write_log.ensures) refl c.write_optional_body.ensures
