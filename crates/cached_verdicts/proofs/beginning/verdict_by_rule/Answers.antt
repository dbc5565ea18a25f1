use Rattle.std.proofs.Common.{◌≡◌, Some, ap, sym, ◌∙◌}
use Rattle.fw_rule.specs.declared.rule.Rule.{Rule}
use Rattle.rule_chain.specs.Configuration.{Configuration}
use Rattle.generation_store.specs.Published.{is_identity}
use Rattle.eval_engine.proofs.Configured.{shared_there}
use Rattle.cached_verdicts.proofs.Begun.{not_placed, one_place, shared_place}
use Rattle.cached_verdicts.proofs.beginning.verdict_by_rule.Goals as goal

pub returns-in_err-place-clause-found : goal.returns-in_err-place-clause-found
returns-in_err-place-clause-found c = λ rule found.
    absurd (not_placed (is_identity c.args.judgement.rule.id) c.args.edition.now.config.rules rule found c.in_err-place.ensures)

pub returns-clause-found : goal.returns-clause-found
returns-clause-found c = λ rule found.
    let rules = c.args.edition.now.config.rules in
    let are = c.rules-rules.ensures.value ∙ ap (λ (k : Configuration). k.rules) c.config.ensures.value in
    let within = shared_place (is_identity c.args.judgement.rule.id) rules c.rules-rules.result.now rule c.in_ok-place.place are found c.in_ok-place.ensures in
    let read = shared_there rules c.rules-rules.result.now c.in_ok-place.place c.index-rules-place.result _ are within c.index-rules-place.is c.deref.ensures in
    let there = one_place (is_identity c.args.judgement.rule.id) rules rule c.in_ok-place.place found c.in_ok-place.ensures c.deref.result.now in
    let same : c.deref.result.now ≡ rule = sym read ∙ there in
    ap (λ (r : Rule). Some (record { judgement = c.args.judgement; counter = r.counter })) same
