use Rattle.std.proofs.Common.{Some, None, drop, subst}
use Rattle.eval_engine.specs.Standing.{callers_of, seen_by}
use Rattle.eval_engine.specs.Steps.{Comes, paused_at}
use Rattle.eval_engine.specs.Walk.{leads_to}
use Rattle.eval_engine.specs.declared.position.Position.{Position}
use Rattle.eval_engine.proofs.Progressing.{stands_resumed}
use Rattle.eval_engine.proofs.Leading.{comes_by}
use Rattle.eval_engine.proofs.resuming.resume.Goals as goal

pub returns-in-On : goal.returns-in-On
returns-in-On c = λ asks replies start stands.
    let q = c.args.question.now in
    let searched = c.search_on.new.paused.searched in
    let paused = paused_at searched c.walk.new.at in
    let leads = λ (at : Position). leads_to q (seen_by searched) (callers_of at.callers) (drop at.place q.edition.config.rules) c.args.reply in
    let comes = comes_by q (leads c.search_on.new.paused.position) _ c.walk.result paused c.args.tally.now _ c.walk.new.tally c.in-On.ensures.remains c.walk.ensures in
    stands_resumed q searched c.args.paused.now c.args.reply asks replies start c.args.tally.now c.walk.new.tally c.walk.result paused
    c.search_on.ensures.seen stands c.requires.answered
    (subst (λ (at : Position). Comes q (leads at) c.walk.result paused c.args.tally.now c.walk.new.tally) c.search_on.ensures.stays comes)

pub returns-in-Decides : goal.returns-in-Decides
returns-in-Decides c = λ asks replies start stands.
    let q = c.args.question.now in
    let searched = c.search_on.new.paused.searched in
    let paused = paused_at searched c.answered.new.at in
    let leads = λ (at : Position). leads_to q (seen_by searched) (callers_of at.callers) (drop at.place q.edition.config.rules) c.args.reply in
    stands_resumed q searched c.args.paused.now c.args.reply asks replies start c.args.tally.now c.answered.new.tally (Some c.judgement_at.result) paused
    c.search_on.ensures.seen stands c.requires.answered
    (subst (λ (at : Position). Comes q (leads at) (Some c.judgement_at.result) paused c.args.tally.now c.answered.new.tally) c.search_on.ensures.stays (rw c.judgement_at.ensures c.in-Decides.ensures))

pub returns-in-Waits : goal.returns-in-Waits
returns-in-Waits c = λ asks replies start stands.
    let q = c.args.question.now in
    let searched = c.search_on.new.paused.searched in
    let paused = paused_at searched c.answered.new.at in
    let leads = λ (at : Position). leads_to q (seen_by searched) (callers_of at.callers) (drop at.place q.edition.config.rules) c.args.reply in
    stands_resumed q searched c.args.paused.now c.args.reply asks replies start c.args.tally.now c.answered.new.tally None paused
    c.search_on.ensures.seen stands c.requires.answered
    (subst (λ (at : Position). Comes q (leads at) None paused c.args.tally.now c.answered.new.tally) c.search_on.ensures.stays c.in-Waits.ensures)
