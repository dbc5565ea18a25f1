use Rattle.std.proofs.Common.{subst, sym, ap, ◌∙◌}
use Rattle.fw_rule.specs.declared.rule.Rule.{Rule}
use Rattle.generation_store.specs.Published.{flow_name}
use Rattle.eval_engine.specs.Place.{IsRuleAt}
use Rattle.eval_engine.specs.Question.{Question}
use Rattle.eval_engine.proofs.Configured.{rule_read}
use Rattle.eval_engine.proofs.encounter.name_at.Goals as goal

pub returns-clause-value : goal.returns-clause-value
returns-clause-value c =
    let config = c.question.inside.edition.now.config in
    let there = subst (λ (q : Question). IsRuleAt q c.args.place c.args.rule.now) (sym c.question.view_is) c.requires in
    rw (← c.question.view_is)
    (c.name_of.ensures c.args.rule.now ∙ ap (λ (r : Rule). flow_name config.names r) (rule_read config.rules c.args.place c.args.rule.now _ there.there))

pub returns-clause-numbered : goal.returns-clause-numbered
returns-clause-numbered c =
    rw (returns-clause-value c) c.requires.named
