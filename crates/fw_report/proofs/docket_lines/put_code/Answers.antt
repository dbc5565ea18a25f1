use Rattle.std.proofs.Common.{◌∙◌, ◌++◌, ℕ, List, sym, ap, arith}
use Rattle.std.specs.Fmt.{decimal}
use Rattle.fw_rule.specs.Names.{unreach_names}
use Rattle.rule_text.proofs.Lists.{code_named, code_unnamed}
use Rattle.fw_report.proofs.docket_lines.put_code.Goals as goal

pub returns-then-place-lt16-clause-items : goal.returns-then-place-lt16-clause-items
unfolding unreach_names
returns-then-place-lt16-clause-items c =
    c.put_text.ensures.items ∙ ap (λ (name : List ℕ). name ++ c.args.line.now) (code_named c.args.code c.from-place.result _ c.from-place.ensures c.name_at.ensures)

pub returns-else-place-lt16-clause-items : goal.returns-else-place-lt16-clause-items
returns-else-place-lt16-clause-items c =
    c.put_number.ensures.items ∙ ap (λ (digits : List ℕ). digits ++ c.args.line.now) (ap decimal c.from.ensures ∙ sym (code_unnamed c.args.code (omega arith)))
