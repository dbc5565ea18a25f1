use Rattle.std.proofs.Common.{ℕ, ◌++◌, ap, ◌∙◌}
use Rattle.std.specs.Fmt.{decimal}
use Rattle.report_values.specs.Outcomes.{unknown_part}
use Rattle.report_values.proofs.OutcomeParts.{four_parts}
use Rattle.report_values.proofs.outcome_parts.put_unknown.Goals as goal

pub returns : goal.returns
unfolding unknown_part
returns c =
    four_parts c.args.text.now.items c.put_text.new.text.items c.put_number.new.text.items c.put_text-2.new.text.items
    c.put_number-2.new.text.items _ _ _ _ c.in_ok-put_text.ensures
    (c.in_ok-put_number.ensures ∙ ap (λ (n : ℕ). c.put_text.new.text.items ++ decimal n) c.from.ensures) c.in_ok-put_text-2.ensures
    c.in_ok-put_number-2.ensures
