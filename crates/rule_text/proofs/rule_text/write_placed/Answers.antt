use Rattle.std.proofs.Common.{◌∙◌, refl, ap, take, drop}
use Rattle.fw_base.proofs.Texts.{starts}
use Rattle.rule_text.specs.Canonical.{state_words}
use Rattle.rule_text.proofs.Lists.{placed-split}
use Rattle.rule_text.proofs.WriteSteps.{goes, breaks_off, finishes}
use Rattle.rule_text.proofs.rule_text.write_placed.Goals as goal

pub returns-in_err-write_options : goal.returns-in_err-write_options
returns-in_err-write_options g c =
    let front = c.split_at.ensures.front ∙ ap (λ n. take n c.args.options.now) c.min.ensures in
    let back = c.split_at.ensures.back ∙ ap (λ n. drop n c.args.options.now) c.min.ensures in
    breaks_off _ _ _ (starts _ _) (placed-split _ _ _ _ (state_words c.args.state.now) front back) c.in_err-write_options.was c.write_options.ensures c.from_residual.ensures.1

pub returns-in_err-write_state : goal.returns-in_err-write_state
returns-in_err-write_state g c =
    let front = c.split_at.ensures.front ∙ ap (λ n. take n c.args.options.now) c.min.ensures in
    let back = c.split_at.ensures.back ∙ ap (λ n. drop n c.args.options.now) c.min.ensures in
    breaks_off _ _ _ (goes _ (starts _ _) (placed-split _ _ _ _ (state_words c.args.state.now) front back) c.in_ok-write_options.was c.write_options.ensures) refl c.in_err-write_state.was c.write_state.ensures c.from_residual-in_err-write_state.ensures.1

pub returns : goal.returns
returns g c =
    let front = c.split_at.ensures.front ∙ ap (λ n. take n c.args.options.now) c.min.ensures in
    let back = c.split_at.ensures.back ∙ ap (λ n. drop n c.args.options.now) c.min.ensures in
    finishes _ (goes _ (goes _ (starts _ _) (placed-split _ _ _ _ (state_words c.args.state.now) front back) c.in_ok-write_options.was c.write_options.ensures) refl c.in_ok-write_state.was c.write_state.ensures) refl c.write_options-2.ensures
