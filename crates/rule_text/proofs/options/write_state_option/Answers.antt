use Rattle.std.proofs.Common.{refl, ap, ◌∙◌}
use Rattle.fw_base.proofs.Texts.{starts}
use Rattle.rule_text.specs.Canonical.{spaced_text, state_option_words, limit_words, flow_words}
use Rattle.fw_rule.specs.declared.state_opt.StateOpt.{StateOpt}
use Rattle.rule_text.proofs.Lists.{spaced-append}
use Rattle.rule_text.proofs.WriteSteps.{goes, breaks_off, finishes}
use Rattle.rule_text.proofs.options.write_state_option.Goals as goal

pub returns-in_err-write_text-in-Keep : goal.returns-in_err-write_text-in-Keep
returns-in_err-write_text-in-Keep g c =
    breaks_off _ _ _ (starts _ _) (ap (λ (s : StateOpt). spaced_text (state_option_words s)) c.in-Keep.is) c.in_err-write_text-in-Keep.was c.write_text.ensures c.from_residual.ensures.1

pub returns-in_err-write_limit-in-Limit : goal.returns-in_err-write_limit-in-Limit
returns-in_err-write_limit-in-Limit g c =
    breaks_off _ _ _ (starts _ _)
    (ap (λ (s : StateOpt). spaced_text (state_option_words s)) c.in-Limit.is ∙ spaced-append (limit_words c.in-Limit.mask c.in-Limit.most) (flow_words c.in-Limit.name))
    c.in_err-write_limit-in-Limit.was c.write_limit.ensures c.from_residual-in_err-write_limit-in-Limit.ensures.1

pub returns-in_ok-write_text-in-Keep : goal.returns-in_ok-write_text-in-Keep
returns-in_ok-write_text-in-Keep g c =
    finishes _ (goes _ (starts _ _) (ap (λ (s : StateOpt). spaced_text (state_option_words s)) c.in-Keep.is) c.in_ok-write_text-in-Keep.was c.write_text.ensures) refl c.write_flow_name.ensures

pub returns-in_ok-write_limit-in-Limit : goal.returns-in_ok-write_limit-in-Limit
returns-in_ok-write_limit-in-Limit g c =
    finishes _
    (goes _ (starts _ _)
    (ap (λ (s : StateOpt). spaced_text (state_option_words s)) c.in-Limit.is ∙ spaced-append (limit_words c.in-Limit.mask c.in-Limit.most) (flow_words c.in-Limit.name))
    c.in_ok-write_limit-in-Limit.was c.write_limit.ensures) refl c.write_flow_name-in-Limit.ensures
