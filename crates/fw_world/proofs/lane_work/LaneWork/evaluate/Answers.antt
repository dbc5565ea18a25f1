use Rattle.std.proofs.Common.{◌≡◌, None, List, length, refl, [], ◌∷◌, ◌++◌, ap, arith, rules, subst, ◌∙◌}
use Rattle.state_asks.specs.declared.op.Op.{Op}
use Rattle.state_asks.specs.declared.reply.Reply.{Reply}
use Rattle.counter_book.specs.declared.tally.Count.{Count}
use Rattle.eval_engine.proofs.Progressing.{stands-length}
use Rattle.eval_engine.specs.Question.{Question, question_under}
use Rattle.eval_engine.specs.Standing.{StandsAt, asked_by}
use Rattle.generation_store.specs.Published.{Published}
use Rattle.fw_world.proofs.Running.{IsReached-ended, IsReached-answered}
use Rattle.fw_world.proofs.lane_work.LaneWork.evaluate.Goals as goal

pub loop-judged-init : goal.loop-judged-init
loop-judged-init g c =
    let lent = c.new-question.ensures ∙ ap (λ (e : Published). question_under e c.args.packet.now c.args.port.now c.args.second) c.edition.ensures in
    let stands = subst (λ (q : Question). StandsAt q [] [] c.args.self.now.tally c.in_ok-judged.judged c.begin_beside.new.paused c.begin_beside.new.tally) lent c.in_ok-judged.ensures.stands in
    record {
      serves = c.requires.lane;
      same = refl;
      fitted = omega (arith, stands-length _ _ _ _ _ _ _ stands, c.requires.fitted);
      reached = record { asks = []; replies = []; stands = stands; entered = refl };
    }

pub returns-in-Some-clause-evaluated : goal.returns-in-Some-clause-evaluated
returns-in-Some-clause-evaluated g c =
    let reached = rw c.in-Some.is at c.loop-judged.invariant.reached in
    record {
      judged = IsReached-ended _ _ _ _ _ _ c.in-Some.judgement c.loop-judged.paused c.requires.lawful c.requires.fitted reached;
      asked = search rules;
      cache = search rules;
      seen = search rules;
    }

pub loop-judged-preserved : goal.loop-judged-preserved
loop-judged-preserved g c =
    let old = c.loop-judged.invariant in
    let reached = rw c.in-None.is at old.reached in
    let told = c.in_ok-reply-in-None.ensures in
    let lent = c.new-question-in-None.ensures
    ∙ ap (λ (e : Published). question_under e c.args.packet.now c.args.port.now c.args.second) (c.edition-in-None.ensures ∙ told.same ∙ old.same) in
    let asked = rw c.entries.ensures at (rw c.ask.ensures at told.entered) in
    let goes = subst (λ (q : Question). (asks : List Op) (replies : List Reply) (start : List Count)
    → StandsAt q asks replies start None c.loop-judged.paused c.loop-judged.tally
    → StandsAt q (asks ++ asked_by c.loop-judged.paused ∷ []) (replies ++ c.in_ok-reply-in-None.reply ∷ []) start c.resume-judged.result c.resume-judged.new.paused c.resume-judged.new.tally) lent c.resume-judged.ensures in
    let now = IsReached-answered _ _ _ c.ask-in-None.new.self _ _ c.loop-judged.tally c.resume-judged.new.tally c.loop-judged.paused c.in_ok-reply-in-None.reply c.resume-judged.result c.resume-judged.new.paused reached asked goes in
    let start : length c.resume-judged.new.tally ≡ length c.args.self.now.tally = stands-length _ _ _ _ _ _ _ now.stands in
    record {
      serves = told.lanes _ old.serves;
      same = told.same ∙ old.same;
      fitted = omega (arith, start, c.requires.fitted);
      reached = now;
    }
