use Rattle.eval_engine.specs.Question.{rules_of}
use Rattle.eval_engine.proofs.Configured.{rule_there, shared_within, shared_there}
use Rattle.eval_engine.proofs.encounter.rule_at.Goals as goal

pub returns-then-place-rules : goal.returns-then-place-rules
returns-then-place-rules c =
    let q = c.args.question.now in
    let are = c.rules-rules.ensures.value in
    let within = shared_within (rules_of q) c.rules-rules.result.now c.args.place are c.if-place-rules.true in
    let read = shared_there (rules_of q) c.rules-rules.result.now c.args.place c.index-rules-place.result _ are c.if-place-rules.true c.index-rules-place.is c.deref.ensures in
    rule_there q c.args.place _ c.rules-rules.ensures.lawful within read
