use Rattle.std.proofs.Common.{◌≡◌, ◌+◌, ◌<◌, length, subst, arith}
use Rattle.rule_chain.specs.Chain.{IsConfiguration}
use Rattle.rule_chain.specs.Configuration.{Configuration}
use Rattle.eval_engine.specs.Question.{question_under}
use Rattle.run_audit.specs.ToldEvaluations.{replies_told}
use Rattle.run_audit.proofs.ToldEntries.{on_some_map, rises_fitted}
use Rattle.run_audit.proofs.told_entries.judged_under.Goals as goal

pub returns-clause-counted : goal.returns-clause-counted
returns-clause-counted c =
    let same = c.config-config.ensures.value in
    let lawful : IsConfiguration c.args.edition.now.config = subst (λ (config : Configuration). IsConfiguration config) same c.law_of_configuration.ensures in
    let counted = c.counters.ensures in
    let greatest = subst (λ (config : Configuration). c.counters.result ≡ config.greatest_counter + 1) same counted in
    let within : c.args.edition.now.config.greatest_counter < length c.fit.new.self = omega (arith, greatest, c.in_ok-fit.ensures.fitted) in
    on_some_map _ _ c.evaluate_told.result
    (λ is. rises_fitted (question_under c.args.edition.now c.args.packet.now c.args.port.now c.args.second) (replies_told c.args.asked.now) c.args.tally.now c.fit.new.self c.evaluate_told.new.tally lawful within c.in_ok-fit.ensures.counts is)
    c.evaluate_told.ensures.counted
