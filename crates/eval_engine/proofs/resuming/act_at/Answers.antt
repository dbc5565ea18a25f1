use Rattle.std.proofs.Common.{List, ap}
use Rattle.fw_rule.specs.declared.rule.Rule.{Rule}
use Rattle.eval_engine.specs.Standing.{callers_of, seen_by}
use Rattle.eval_engine.specs.Steps.{judged_at}
use Rattle.eval_engine.specs.Walk.{acts_from}
use Rattle.eval_engine.specs.declared.judgement.Cause.TheVariants as causes
use Rattle.eval_engine.specs.declared.judgement.Verdict.TheVariants as verdicts
use Rattle.eval_engine.proofs.Leading.{comes_at_once, denied_there}
use Rattle.eval_engine.proofs.resuming.act_at.Goals as goal

pub returns-in-Some : goal.returns-in-Some
returns-in-Some c =
    let q = c.args.question.now in
    let acts = ap (λ (suffix : List Rule). acts_from q (seen_by c.args.searched.now) (callers_of c.args.at.now.callers) suffix) c.in-Some.ensures.there in
    rw acts (c.act.ensures c.args.searched.now)

pub returns-in-None : goal.returns-in-None
returns-in-None c =
    let q = c.args.question.now in
    let denied = denied_there q c.args.searched.now c.args.at.now verdicts.Deny causes.Rule c.in-None.ensures in
    let comes = comes_at_once q _ (judged_at q verdicts.Deny causes.Rule c.args.at.now) _ c.args.tally.now denied in
    let ended = ap (λ (suffix : List Rule). acts_from q (seen_by c.args.searched.now) (callers_of c.args.at.now.callers) suffix) c.in-None.ensures in
    rw ended comes
