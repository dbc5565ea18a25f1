use Rattle.std.proofs.Common.{◌≡◌, ℕ, List, ◌++◌, sym, ap, ◌∙◌, subst, arith}
use Rattle.std.specs.Prelude.{OnOk}
use Rattle.std.specs.Fmt.{decimal}
use Rattle.fw_rule.specs.Names.{unreach_names}
use Rattle.rule_text.proofs.Lists.{code_named, code_unnamed}
use Rattle.report_values.proofs.outcome_parts.put_code.Goals as goal

pub returns-then-place-lt16 : goal.returns-then-place-lt16
unfolding unreach_names
returns-then-place-lt16 c =
    subst (λ (name : List ℕ). OnOk c.put_text.result (c.put_text.new.text.items ≡ c.args.text.now.items ++ name))
    (code_named c.args.code c.from-place.result _ c.from-place.ensures c.name_at.ensures) c.put_text.ensures

pub returns-else-place-lt16 : goal.returns-else-place-lt16
returns-else-place-lt16 c =
    subst (λ (digits : List ℕ). OnOk c.put_number.result (c.put_number.new.text.items ≡ c.args.text.now.items ++ digits))
    (ap decimal c.from.ensures ∙ sym (code_unnamed c.args.code (omega arith))) c.put_number.ensures
