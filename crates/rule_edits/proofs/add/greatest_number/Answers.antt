use Rattle.std.proofs.Common.{ℕ, ◌<◌, map, ap, ◌∙◌, sym, subst, arith}
use Rattle.std.specs.Arc.{arc_value}
use Rattle.fw_rule.specs.declared.rule.Rule.{Rule}
use Rattle.rule_edits.proofs.Greatest.{greatest_few, greatest_at, greatest_below}
use Rattle.rule_edits.proofs.add.greatest_number.Goals as goal

pub returns-then-rules-lt2-clause-value : goal.returns-then-rules-lt2-clause-value
returns-then-rules-lt2-clause-value c = sym (greatest_few arc_value 1 c.args.rules.now c.requires (omega (arith, c.if-rules-lt2.true)))

pub returns-else-rules-lt2-clause-value : goal.returns-else-rules-lt2-clause-value
returns-else-rules-lt2-clause-value c =
    ap (λ (r : Rule). r.number) (c.deref.ensures ∙ ap arc_value c.index-rules-rules.is)
    ∙ sym (greatest_at arc_value 1 c.args.rules.now c.index-rules-rules.result c.requires (omega (arith, c.if-rules-lt2.false)))

pub returns-else-rules-lt2-clause-below : goal.returns-else-rules-lt2-clause-below
returns-else-rules-lt2-clause-below c =
    let below : ℕ → Type 0 = λ n. n < 65535 in
    subst below (sym (returns-else-rules-lt2-clause-value c)) (greatest_below (map arc_value c.args.rules.now))
