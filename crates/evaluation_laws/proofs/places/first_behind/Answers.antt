use Rattle.std.proofs.Common.{sym, ap, ◌∙◌, ◌≡◌, ℕ, ◌+◌, ◌<◌, List, length, drop, arith}
use Rattle.std.specs.Arc.{arc_value}
use Rattle.fw_rule.specs.declared.rule.Rule.{Rule}
use Rattle.generation_store.specs.Jumps.{first_from}
use Rattle.rule_chain.specs.Chain.{IsConfiguration}
use Rattle.rule_chain.specs.Configuration.{Configuration}
use Rattle.rule_chain.proofs.Lists.{map_length}
use Rattle.eval_engine.proofs.Configured.{none_above}
use Rattle.eval_engine.proofs.Places.{first_within}
use Rattle.evaluation_laws.specs.Views.{viewed_question}
use Rattle.evaluation_laws.proofs.Stepping.{later_than}
use Rattle.evaluation_laws.proofs.places.first_behind.Goals as goal

pub returns-in-Some-clause-within : goal.returns-in-Some-clause-within
returns-in-Some-clause-within c = rw c.first_from.ensures (first_within c.in-Some.next c.args.question.now.edition.now.config.rules)

pub returns-in-Some-clause-later : goal.returns-in-Some-clause-later
returns-in-Some-clause-later c =
    let rules = c.args.question.now.edition.now.config.rules in
    let more : c.args.place < first_from (c.args.rule.now.number + 1) rules = later_than (viewed_question c.args.question.now) c.args.place c.args.rule.now c.requires in
    let next : c.in-Some.next ≡ c.args.rule.now.number + 1 = grind arith in
    rw (c.first_from.ensures, next) more

pub returns-in-None-clause-there : goal.returns-in-None-clause-there
returns-in-None-clause-there c =
    let rules = c.args.question.now.edition.now.config.rules in
    let last : c.args.rule.now.number + 1 ≡ 65536 = let past = c.in-None.ensures in grind arith in
    let lawful : IsConfiguration c.args.question.now.edition.now.config = rw (← c.config.ensures.value) c.rules.ensures.lawful in
    let are = c.rules.ensures.value ∙ ap (λ (k : Configuration). k.rules) c.config.ensures.value in
    let size : length c.rules.result.now ≡ first_from 65536 rules = sym (map_length arc_value c.rules.result.now) ∙ ap (λ (rs : List Rule). length rs) are ∙ sym (none_above (viewed_question c.args.question.now) lawful) in
    rw last (ap (λ (n : ℕ). drop n rules) size)
