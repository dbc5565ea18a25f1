use Rattle.std.proofs.Common.{ℕ, ◌∙◌, ap, length, min, take, drop, refl}
use Rattle.std.proofs.lemmas.List.{take_min, drop_min}
use Rattle.fw_base.proofs.Texts.{starts}
use Rattle.rule_text.proofs.WriteSteps.{goes, breaks_off, finishes}
use Rattle.view_driver.specs.FlowsText.{told_count, flows_text}
use Rattle.view_driver.proofs.flows_text.write_flows.Goals as goal

pub returns-in_err-write_told : goal.returns-in_err-write_told
unfolding flows_text
returns-in_err-write_told g c =
    let flows = c.args.flows.now in
    let count = c.min.ensures ∙ ap (λ (n : ℕ). min n (length flows)) c.told_count.ensures in
    let front = c.split_at.ensures.front ∙ ap (λ (n : ℕ). take n flows) count ∙ take_min (told_count (length flows)) flows in
    breaks_off _ _ _ (starts _ _) refl c.in_err-write_told.was (rw front at c.write_told.ensures) c.from_residual.ensures.1

pub returns : goal.returns
unfolding flows_text
returns g c =
    let flows = c.args.flows.now in
    let count = c.min.ensures ∙ ap (λ (n : ℕ). min n (length flows)) c.told_count.ensures in
    let front = c.split_at.ensures.front ∙ ap (λ (n : ℕ). take n flows) count ∙ take_min (told_count (length flows)) flows in
    let back = c.split_at.ensures.back ∙ ap (λ (n : ℕ). drop n flows) count ∙ drop_min (told_count (length flows)) flows in
    finishes _ (goes _ (starts _ _) refl c.in_ok-write_told.was (rw front at c.write_told.ensures)) refl (rw back at c.write_rest.ensures)
