use Rattle.std.proofs.Common.{ap, ◌∙◌}
use Rattle.fw_rule.specs.declared.rule.Rule.{Rule}
use Rattle.generation_store.specs.Published.{flow_name}
use Rattle.eval_engine.proofs.Configured.{rule_read}
use Rattle.evaluation_laws.proofs.encounter.name_at.Goals as goal

pub returns : goal.returns
returns c =
    let config = c.args.question.now.edition.now.config in
    c.name_of.ensures c.args.rule.now ∙ ap (λ (r : Rule). flow_name config.names r) (rule_read config.rules c.args.place c.args.rule.now _ c.requires.there)
