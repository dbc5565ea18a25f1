use Rattle.std.proofs.Common.{◌∙◌, List, ap}
use Rattle.fw_rule.specs.declared.rule.Rule.{Rule}
use Rattle.eval_engine.specs.Standing.{callers_of, seen_by}
use Rattle.eval_engine.specs.Steps.{judged_at, walk_at, PassesTo}
use Rattle.eval_engine.specs.Walk.{walk_from}
use Rattle.eval_engine.specs.declared.judgement.Cause.TheVariants as causes
use Rattle.eval_engine.specs.declared.position.Step.TheVariants.{Decides}
use Rattle.eval_engine.specs.declared.judgement.Verdict.TheVariants as verdicts
use Rattle.eval_engine.proofs.Leading.{comes_at_once, denied_there, leads_passed}
use Rattle.eval_engine.proofs.Walks.{walk_ends}
use Rattle.eval_engine.proofs.walking.step.Goals as goal

pub returns-in-Some : goal.returns-in-Some
returns-in-Some c =
    leads_passed c.args.question.now c.args.searched.now _ _ c.meet.result c.meet.new.at c.args.tally.now c.meet.new.tally
    (c.pass_shut_gates-is_told.ensures.passes (seen_by c.args.searched.now)) c.meet.ensures

pub returns-in-None : goal.returns-in-None
returns-in-None c =
    let q = c.args.question.now in
    let seen = seen_by c.args.searched.now in
    let next = c.pass_shut_gates-is_told.new.at in
    let callers = callers_of next.callers in
    let ended = ap (λ (suffix : List Rule). walk_from q seen callers suffix 0) c.in-None.ensures ∙ walk_ends q seen callers in
    let passes : PassesTo (walk_at q seen c.args.at.now) (walk_at q seen next) = c.pass_shut_gates-is_told.ensures.passes seen in
    leads_passed q c.args.searched.now _ _ (Decides verdicts.Deny causes.Rule) next c.args.tally.now c.args.tally.now passes
    (rw ended (comes_at_once q _ (judged_at q verdicts.Deny causes.Rule next) _ c.args.tally.now (denied_there q c.args.searched.now next verdicts.Deny causes.Rule c.in-None.ensures)))
