use Rattle.std.proofs.Common.{ap, ◌∙◌}
use Rattle.rule_chain.specs.Configuration.{Configuration}
use Rattle.rule_chain.specs.Chain.{IsConfiguration}
use Rattle.eval_engine.proofs.Configured.{rule_there, shared_within, shared_there}
use Rattle.evaluation_laws.specs.Views.{viewed_question}
use Rattle.evaluation_laws.proofs.encounter.rule_at.Goals as goal

pub returns-then-place-rules : goal.returns-then-place-rules
returns-then-place-rules c =
    let config = c.args.question.now.edition.now.config in
    let lawful : IsConfiguration config = rw (← c.config.ensures.value) c.rules-rules.ensures.lawful in
    let are = c.rules-rules.ensures.value ∙ ap (λ (k : Configuration). k.rules) c.config.ensures.value in
    let within = shared_within config.rules c.rules-rules.result.now c.args.place are c.if-place-rules.true in
    let read = shared_there config.rules c.rules-rules.result.now c.args.place c.index-rules-place.result _ are c.if-place-rules.true c.index-rules-place.is c.deref.ensures in
    rule_there (viewed_question c.args.question.now) c.args.place _ lawful within read
