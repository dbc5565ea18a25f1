use Rattle.std.proofs.Common.{arith, sym, ◌∙◌}
use Rattle.eval_engine.proofs.Progressing.{stands-length}
use Rattle.run_audit.proofs.ToldSteps.{told_more, none_told, still_waits, asks_told, replies_fit, all_told, judged_so, counted_so, only_so}
use Rattle.run_audit.proofs.told_evaluations.evaluate_told.Goals as goal

pub loop-ask-init : goal.loop-ask-init
loop-ask-init c =
    record {
      fitted = omega (arith, stands-length _ _ _ _ _ _ _ c.begin-judged.ensures, c.requires.fitted);
      stands = rw c.new-question.ensures at c.begin-judged.ensures;
    }

pub returns-then-is_some-clause-only : goal.returns-then-is_some-clause-only
returns-then-is_some-clause-only c = λ judgement comes.
    absurd (none_told _ c.args.told.now c.loop-ask.ask-index _ _ judgement _ _ c.loop-ask-test.true (sym c.is_some.ensures ∙ c.if-is_some.true) c.loop-ask.invariant.stands comes)

pub returns-then-not-is_same-clause-only : goal.returns-then-not-is_same-clause-only
returns-then-not-is_same-clause-only c = λ judgement comes.
    let stands = still_waits _ _ _ _ _ _ _ (sym c.is_some.ensures ∙ c.if-is_some.false) c.loop-ask.invariant.stands in
    let same = asks_told _ c.args.told.now c.loop-ask.ask-index _ _ judgement _ _ c.loop-ask-test.true stands comes in
    let told = c.is_same.ensures.all (c.ask.ensures ∙ same) in
    let other = c.if-not-is_same.true in
    absurd (cc)

pub returns-then-not-is_reply_to-clause-only : goal.returns-then-not-is_reply_to-clause-only
returns-then-not-is_reply_to-clause-only c = λ judgement comes.
    let stands = still_waits _ _ _ _ _ _ _ (sym c.is_some.ensures ∙ c.if-is_some.false) c.loop-ask.invariant.stands in
    let other = rw c.ask-in-loop-ask.ensures at (sym c.is_reply_to.ensures ∙ c.if-not-is_reply_to.true) in
    absurd (replies_fit _ c.args.told.now c.loop-ask.ask-index _ _ judgement _ _ c.loop-ask-test.true stands comes other)

pub resume-judged-requires-clause-fitted : goal.resume-judged-requires-clause-fitted
resume-judged-requires-clause-fitted c = rw c.new-question.ensures c.loop-ask.invariant.fitted

pub loop-ask-preserved : goal.loop-ask-preserved
loop-ask-preserved c =
    let stands = still_waits _ _ _ _ _ _ _ (sym c.is_some.ensures ∙ c.if-is_some.false) c.loop-ask.invariant.stands in
    let resumed = rw c.new-question.ensures at c.resume-judged.ensures in
    let next = resumed _ _ _ stands in
    let same = sym c.ask.ensures ∙ c.is_same.ensures.same c.if-not-is_same.false in
    let (ops, replies) = told_more c.args.told.now c.loop-ask.ask-index _ _ c.loop-ask-test.true same in
    record {
      fitted = omega (arith, stands-length _ _ _ _ _ _ _ next, c.requires.fitted);
      stands = rw (ops, replies) next;
    }

pub returns : goal.returns
returns c =
    let stands = all_told _ _ _ _ _ _ _ (omega (arith, c.loop-ask-test.false)) c.loop-ask.invariant.stands in
    record {
      judged = judged_so _ _ _ _ _ _ stands;
      counted = counted_so _ _ _ _ _ _ stands;
      only = only_so _ _ _ _ _ _ stands;
    }
