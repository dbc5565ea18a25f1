use Rattle.std.proofs.Common.{◌<◌, length, take}
use Rattle.eval_engine.specs.Question.{question_under}
use Rattle.eval_engine.specs.Standing.{StandsAt}
use Rattle.run_audit.specs.ToldEvaluations.{ops_told, replies_told}
use Rattle.run_audit.proofs.told_evaluations.evaluate_told.Given as goal

abbrev pub invariant-loop-ask : goal.invariant-loop-ask
invariant-loop-ask l = record {
  fitted : l.edition.config.greatest_counter < length l.tally;
  stands : StandsAt (question_under l.edition l.fn.packet l.port l.second) (ops_told (take l.ask-index l.told)) (replies_told (take l.ask-index l.told)) l.fn.tally l.judged l.paused l.tally;
}
