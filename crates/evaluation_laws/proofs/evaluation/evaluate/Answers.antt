use Rattle.std.proofs.Common.{ap, subst, ◌∙◌}
use Rattle.rule_chain.specs.Chain.{IsConfiguration}
use Rattle.rule_chain.specs.Configuration.{Configuration}
use Rattle.eval_engine.specs.Evaluated.{Evaluated}
use Rattle.eval_engine.specs.Question.{Question, question_under}
use Rattle.eval_engine.specs.Trace.{Seen}
use Rattle.evaluation_laws.specs.Runs.{Runs, Meets}
use Rattle.evaluation_laws.specs.Views.{story_of}
use Rattle.evaluation_laws.proofs.Sound.{runs_are_evaluations}
use Rattle.evaluation_laws.proofs.evaluation.evaluate.Goals as goal

pub returns-clause-asks : goal.returns-clause-asks
returns-clause-asks c =
    let q : Question = question_under c.args.edition.now c.args.packet.now c.args.port.now c.args.second in
    let story = story_of c.in_ok-story.story in
    let run = c.in_ok-story.ensures in
    let runs = subst (λ (seen : Seen). Runs q 0 seen (Meets q.edition.config.rules) c.args.replies.now story) c.none.ensures run.runs in
    let lawful = subst (λ (config : Configuration). IsConfiguration config) c.config.ensures.value c.law_of_configuration.ensures in
    let is = runs_are_evaluations q c.args.replies.now story lawful.ordered runs in
    ap (λ (e : Evaluated). e.asks) is

pub returns-clause-hits : goal.returns-clause-hits
returns-clause-hits c =
    let q : Question = question_under c.args.edition.now c.args.packet.now c.args.port.now c.args.second in
    let story = story_of c.in_ok-story.story in
    let run = c.in_ok-story.ensures in
    let runs = subst (λ (seen : Seen). Runs q 0 seen (Meets q.edition.config.rules) c.args.replies.now story) c.none.ensures run.runs in
    let lawful = subst (λ (config : Configuration). IsConfiguration config) c.config.ensures.value c.law_of_configuration.ensures in
    let is = runs_are_evaluations q c.args.replies.now story lawful.ordered runs in
    ap (λ (e : Evaluated). e.hits) is

pub returns-clause-outcome : goal.returns-clause-outcome
returns-clause-outcome c =
    let q : Question = question_under c.args.edition.now c.args.packet.now c.args.port.now c.args.second in
    let story = story_of c.in_ok-story.story in
    let run = c.in_ok-story.ensures in
    let runs = subst (λ (seen : Seen). Runs q 0 seen (Meets q.edition.config.rules) c.args.replies.now story) c.none.ensures run.runs in
    let lawful = subst (λ (config : Configuration). IsConfiguration config) c.config.ensures.value c.law_of_configuration.ensures in
    let is = runs_are_evaluations q c.args.replies.now story lawful.ordered runs in
    c.outcome_by-outcome.ensures ∙ ap (λ (e : Evaluated). e.outcome) is
