use Rattle.std.proofs.Common.{◌≡◌, ℕ, suc, ◌+◌, ◌-◌, ◌<◌, ◌≤◌, false, List, ◌∷◌, drop, refl, ap, sym, ◌∙◌, subst, inl, inr, ◌⊎◌, arith, Bor}
use Rattle.state_asks.specs.declared.op.Op.{Op}
use Rattle.state_asks.specs.declared.reply.Reply.{Reply}
use Rattle.state_asks.specs.declared.reply.Reply.TheVariants.{Found}
use Rattle.eval_engine.specs.Encounter.{rule_ref, lookup_by, install_by}
use Rattle.eval_engine.specs.Evaluation.{is_reply_to}
use Rattle.eval_engine.specs.Laws.{verdict_of}
use Rattle.eval_engine.specs.declared.judgement.Judgement.{Judgement}
use Rattle.eval_engine.specs.Question.{Question}
use Rattle.eval_engine.specs.Trace.{Seen, with_seen}
use Rattle.eval_engine.specs.declared.judgement.Cause.TheVariants as causes
use Rattle.eval_engine.specs.declared.judgement.Verdict.TheVariants as verdicts
use Rattle.evaluation_laws.specs.Story as told
use Rattle.evaluation_laws.specs.Runs.{Moment, Meets, Tests, Acts, HasEnded, judgement_under}
use Rattle.evaluation_laws.specs.Running.{IsRun}
use Rattle.evaluation_laws.specs.Views.{viewed_question, seen_by, story_of, ending_of}
use Rattle.evaluation_laws.specs.declared.story.Ending.{Ending}
use Rattle.evaluation_laws.specs.declared.story.Ending.TheVariants as endings
use Rattle.evaluation_laws.proofs.Lifts as lift
use Rattle.evaluation_laws.proofs.Lifts.{each, told_so, none_left}
use Rattle.evaluation_laws.proofs.running.+runs.Goals as goal

-- with this story
abbrev Has : Question → ℕ → Seen → Moment → List Reply → told.Story → Type 0
Has q depth seen moment replies story = IsRun q depth seen moment replies story

-- an ending that is no return
has_ended : (ending : Ending) → ((judgement : Judgement) × (left : Bor (List Reply)) × ending ≡ endings.Ends judgement left) ⊎ (((op : Op) × ending ≡ endings.OpensAt op) ⊎ (ending ≡ endings.Mistakes)) → HasEnded (ending_of ending)
has_ended ending (inl is) = subst (λ (e : Ending). HasEnded (ending_of e)) (sym is.2) tt
has_ended ending (inr (inl is)) = subst (λ (e : Ending). HasEnded (ending_of e)) (sym is.1) tt
has_ended ending (inr (inr is)) = subst (λ (e : Ending). HasEnded (ending_of e)) (sym is) tt

pub act-returns-in-Allow : goal.act-returns-in-Allow
act-returns-in-Allow t c =
    let q = viewed_question c.args.question.now in
    let rule = c.args.rule.now in
    let rest = drop (c.args.place + 1) q.edition.config.rules in
    told_so story_of (told.story_with_hit rule.counter (told.plain_story (told.Ends (judgement_under q verdicts.Allow (rule_ref rule) causes.Rule) c.args.replies.now)))
    (Has q c.args.depth (seen_by c.args.searched.now) (Acts rule rest) c.args.replies.now) c.decided.result c.decided.ensures
    (lift.decided q c.args.depth (seen_by c.args.searched.now) c.args.place rule c.requires.there c.args.replies.now verdicts.Allow (ap verdict_of c.in-Allow.is))

pub act-returns-in-Deny : goal.act-returns-in-Deny
act-returns-in-Deny t c =
    let q = viewed_question c.args.question.now in
    let rule = c.args.rule.now in
    let rest = drop (c.args.place + 1) q.edition.config.rules in
    told_so story_of (told.story_with_hit rule.counter (told.plain_story (told.Ends (judgement_under q verdicts.Deny (rule_ref rule) causes.Rule) c.args.replies.now)))
    (Has q c.args.depth (seen_by c.args.searched.now) (Acts rule rest) c.args.replies.now) c.decided-in-Deny.result c.decided-in-Deny.ensures
    (lift.decided q c.args.depth (seen_by c.args.searched.now) c.args.place rule c.requires.there c.args.replies.now verdicts.Deny (ap verdict_of c.in-Deny.is))

pub act-returns-in-Reset : goal.act-returns-in-Reset
act-returns-in-Reset t c =
    let q = viewed_question c.args.question.now in
    let rule = c.args.rule.now in
    let rest = drop (c.args.place + 1) q.edition.config.rules in
    told_so story_of (told.story_with_hit rule.counter (told.plain_story (told.Ends (judgement_under q verdicts.Reset (rule_ref rule) causes.Rule) c.args.replies.now)))
    (Has q c.args.depth (seen_by c.args.searched.now) (Acts rule rest) c.args.replies.now) c.decided-in-Reset.result c.decided-in-Reset.ensures
    (lift.decided q c.args.depth (seen_by c.args.searched.now) c.args.place rule c.requires.there c.args.replies.now verdicts.Reset (ap verdict_of c.in-Reset.is))

pub act-returns-in-Unreach : goal.act-returns-in-Unreach
act-returns-in-Unreach t c =
    let q = viewed_question c.args.question.now in
    let rule = c.args.rule.now in
    let rest = drop (c.args.place + 1) q.edition.config.rules in
    told_so story_of (told.story_with_hit rule.counter (told.plain_story (told.Ends (judgement_under q (verdicts.Unreach c.in-Unreach.code) (rule_ref rule) causes.Rule) c.args.replies.now)))
    (Has q c.args.depth (seen_by c.args.searched.now) (Acts rule rest) c.args.replies.now) c.decided-in-Unreach.result c.decided-in-Unreach.ensures
    (lift.decided q c.args.depth (seen_by c.args.searched.now) c.args.place rule c.requires.there c.args.replies.now (verdicts.Unreach c.in-Unreach.code) (ap verdict_of c.in-Unreach.is))

pub act-returns-in_ok-meet-in-SkipTo : goal.act-returns-in_ok-meet-in-SkipTo
act-returns-in_ok-meet-in-SkipTo t c =
    let q = viewed_question c.args.question.now in
    let rule = c.args.rule.now in
    let rest = drop (c.args.place + 1) q.edition.config.rules in
    let story = story_of c.in_ok-meet-in-SkipTo.field-0 in
    told_so story_of (told.story_with_hit rule.counter story) (Has q c.args.depth (seen_by c.args.searched.now) (Acts rule rest) c.args.replies.now) c.hit.result c.hit.ensures
    (lift.skips q c.args.depth (seen_by c.args.searched.now) c.args.place rule c.requires.there c.args.replies.now story c.in-SkipTo.number c.place_skipped-next.result c.in-SkipTo.is
    c.place_skipped-next.ensures.there c.in_ok-meet-in-SkipTo.ensures)

pub act-returns-in_ok-meet-in-Return : goal.act-returns-in_ok-meet-in-Return
act-returns-in_ok-meet-in-Return t c =
    let q = viewed_question c.args.question.now in
    let rule = c.args.rule.now in
    let rest = drop (c.args.place + 1) q.edition.config.rules in
    let story = story_of c.in_ok-meet-in-Return.field-0 in
    told_so story_of (told.story_with_hit rule.counter story) (Has q c.args.depth (seen_by c.args.searched.now) (Acts rule rest) c.args.replies.now) c.hit-then-depth-eq0.result c.hit-then-depth-eq0.ensures
    (lift.returns_none q c.args.depth (seen_by c.args.searched.now) c.args.place rule c.requires.there c.args.replies.now story c.in-Return.is c.if-depth-eq0.true c.in_ok-meet-in-Return.ensures)

pub act-returns-else-depth-eq0 : goal.act-returns-else-depth-eq0
act-returns-else-depth-eq0 t c =
    let q = viewed_question c.args.question.now in
    let rule = c.args.rule.now in
    let rest = drop (c.args.place + 1) q.edition.config.rules in
    let has = Has q c.args.depth (seen_by c.args.searched.now) (Acts rule rest) c.args.replies.now in
    let apart = c.if-depth-eq0.false in
    let more : c.args.depth ≡ suc (c.args.depth - 1) = omega (arith, apart) in
    told_so story_of (told.story_with_hit rule.counter (story_of c.plainly.result)) has c.hit-else-depth-eq0.result c.hit-else-depth-eq0.ensures
    (subst (λ (s : told.Story). IsRun q c.args.depth (seen_by c.args.searched.now) (Acts rule rest) c.args.replies.now (told.story_with_hit rule.counter s)) (sym c.plainly.ensures)
    (lift.returns_in q c.args.depth (seen_by c.args.searched.now) c.args.place rule c.requires.there c.args.replies.now c.in-Return.is (c.args.depth - 1) more))

pub act-returns-in_ok-meet-in-Count : goal.act-returns-in_ok-meet-in-Count
act-returns-in_ok-meet-in-Count t c =
    let q = viewed_question c.args.question.now in
    let rule = c.args.rule.now in
    let rest = drop (c.args.place + 1) q.edition.config.rules in
    let story = story_of c.in_ok-meet-in-Count.field-0 in
    told_so story_of (told.story_with_hit rule.counter story) (Has q c.args.depth (seen_by c.args.searched.now) (Acts rule rest) c.args.replies.now) c.hit-in-Count.result c.hit-in-Count.ensures
    (elim c.in-Count.is [
      | inl is ↦ lift.counts q c.args.depth (seen_by c.args.searched.now) c.args.place rule c.requires.there c.args.replies.now story is c.in_ok-meet-in-Count.ensures
      | inr is ↦ lift.checks q c.args.depth (seen_by c.args.searched.now) c.args.place rule c.requires.there c.args.replies.now story is.0 is.1 c.in_ok-meet-in-Count.ensures
    ])

pub call-returns-then-depth-eq-MOST_CALLS : goal.call-returns-then-depth-eq-MOST_CALLS
call-returns-then-depth-eq-MOST_CALLS t c =
    let q = viewed_question c.args.question.now in
    let rule = c.args.rule.now in
    let rest = drop (c.args.place + 1) q.edition.config.rules in
    let story = story_of c.in_ok-meet.field-0 in
    let last = c.if-depth-eq-MOST_CALLS.true in
    let deepest : 16 ≤ c.args.depth = omega (arith, last) in
    told_so story_of (told.story_with_hit rule.counter story) (Has q c.args.depth (seen_by c.args.searched.now) (Acts rule rest) c.args.replies.now) c.hit.result c.hit.ensures
    (lift.deepest q c.args.depth (seen_by c.args.searched.now) c.args.place rule c.requires.there c.args.replies.now story c.args.number c.requires.calling deepest c.in_ok-meet.ensures)

pub call-returns-in_ok-behind-in-Returns : goal.call-returns-in_ok-behind-in-Returns
call-returns-in_ok-behind-in-Returns t c =
    let q = viewed_question c.args.question.now in
    let rule = c.args.rule.now in
    let rest = drop (c.args.place + 1) q.edition.config.rules in
    let apart = c.if-depth-eq-MOST_CALLS.false in
    let shallow = c.requires.shallow in
    let lt : c.args.depth < 16 = omega (arith, apart, shallow) in
    let more : c.args.depth + 1 ≡ suc c.args.depth = omega arith in
    let inner = story_of c.in_ok-inner.inner in
    let story = story_of c.in_ok-story-in-Returns.story in
    told_so story_of (told.story_with_hit rule.counter (story_of c.in_ok-behind-in-Returns.field-0)) (Has q c.args.depth (seen_by c.args.searched.now) (Acts rule rest) c.args.replies.now) c.hit-in-Returns.result c.hit-in-Returns.ensures
    (subst (λ (s : told.Story). IsRun q c.args.depth (seen_by c.args.searched.now) (Acts rule rest) c.args.replies.now (told.story_with_hit rule.counter s)) (sym c.in_ok-behind-in-Returns.ensures)
    (lift.returned q c.args.depth (seen_by c.args.searched.now) c.args.place rule c.requires.there c.args.replies.now inner story c.args.number c.first_from-start.result (c.args.depth + 1) c.first_behind-next.result
    (seen_by c.in-Returns.later) c.in-Returns.left.now c.requires.calling lt more c.first_from-start.ensures.there (ap ending_of c.in-Returns.is) c.first_behind-next.ensures.there c.in_ok-inner.ensures c.in_ok-story-in-Returns.ensures))

pub call-returns-in-Ends : goal.call-returns-in-Ends
call-returns-in-Ends t c =
    let q = viewed_question c.args.question.now in
    let rule = c.args.rule.now in
    let rest = drop (c.args.place + 1) q.edition.config.rules in
    let apart = c.if-depth-eq-MOST_CALLS.false in
    let shallow = c.requires.shallow in
    let lt : c.args.depth < 16 = omega (arith, apart, shallow) in
    let more : c.args.depth + 1 ≡ suc c.args.depth = omega arith in
    let inner = story_of c.in_ok-inner.inner in
    told_so story_of (told.story_with_hit rule.counter inner) (Has q c.args.depth (seen_by c.args.searched.now) (Acts rule rest) c.args.replies.now) c.hit-in-Ends.result c.hit-in-Ends.ensures
    (lift.ended q c.args.depth (seen_by c.args.searched.now) c.args.place rule c.requires.there c.args.replies.now inner c.args.number c.first_from-start.result (c.args.depth + 1) c.requires.calling lt more
    c.first_from-start.ensures.there (has_ended c.in_ok-inner.inner.ending c.in-Ends.is) c.in_ok-inner.ensures)

pub install-returns-in_default : goal.install-returns-in_default
install-returns-in_default t c =
    let q = viewed_question c.args.question.now in
    let rule = c.args.rule.now in
    let rest = drop (c.args.place + 1) q.edition.config.rules in
    let op = c.install_by-op.result in
    told_so story_of (told.story_with_ask op (told.plain_story (told.OpensAt op))) (Has q c.args.depth (seen_by c.args.searched.now) (Tests rule rest) c.args.replies.now) c.open_at.result c.open_at.ensures
    (subst (λ (o : Op). IsRun q c.args.depth (seen_by c.args.searched.now) (Tests rule rest) c.args.replies.now (told.story_with_ask o (told.plain_story (told.OpensAt o)))) (sym c.install_by-op.ensures)
    (lift.waiting q c.args.depth (seen_by c.args.searched.now) c.args.place rule c.requires.there c.args.replies.now c.args.state.now c.args.flow c.requires.plain c.requires.held c.requires.made c.requires.flowing
    (none_left c.args.replies.now c.in_default.ensures.cases)))

pub install-returns-in-LimitReached : goal.install-returns-in-LimitReached
install-returns-in-LimitReached t c =
    let q = viewed_question c.args.question.now in
    let rule = c.args.rule.now in
    let rest = drop (c.args.place + 1) q.edition.config.rules in
    let op = c.install_by-op.result in
    let left = c.in-Some.left.now in
    let judgement = judgement_under q verdicts.Deny (rule_ref rule) (causes.Limit c.in-LimitReached.count) in
    told_so story_of (told.story_with_ask op (told.plain_story (told.Ends judgement left))) (Has q c.args.depth (seen_by c.args.searched.now) (Tests rule rest) c.args.replies.now) c.refused.result c.refused.ensures
    (subst (λ (o : Op). IsRun q c.args.depth (seen_by c.args.searched.now) (Tests rule rest) c.args.replies.now (told.story_with_ask o (told.plain_story (told.Ends judgement left)))) (sym c.install_by-op.ensures)
    (lift.limited q c.args.depth (seen_by c.args.searched.now) c.args.place rule c.requires.there c.args.replies.now c.args.state.now c.args.flow c.requires.plain c.requires.held c.requires.made c.requires.flowing
    c.in-LimitReached.count left (c.in-Some.ensures.cases.0 ∙ ap (λ (reply : Reply). reply ∷ left) c.in-LimitReached.is)))

pub install-returns-in-TableFull : goal.install-returns-in-TableFull
install-returns-in-TableFull t c =
    let q = viewed_question c.args.question.now in
    let rule = c.args.rule.now in
    let rest = drop (c.args.place + 1) q.edition.config.rules in
    let op = c.install_by-op.result in
    let left = c.in-Some.left.now in
    let judgement = judgement_under q verdicts.Deny (rule_ref rule) (causes.Full c.in-TableFull.count) in
    told_so story_of (told.story_with_ask op (told.plain_story (told.Ends judgement left))) (Has q c.args.depth (seen_by c.args.searched.now) (Tests rule rest) c.args.replies.now) c.refused-in-TableFull.result c.refused-in-TableFull.ensures
    (subst (λ (o : Op). IsRun q c.args.depth (seen_by c.args.searched.now) (Tests rule rest) c.args.replies.now (told.story_with_ask o (told.plain_story (told.Ends judgement left)))) (sym c.install_by-op.ensures)
    (lift.full q c.args.depth (seen_by c.args.searched.now) c.args.place rule c.requires.there c.args.replies.now c.args.state.now c.args.flow c.requires.plain c.requires.held c.requires.made c.requires.flowing
    c.in-TableFull.count left (c.in-Some.ensures.cases.0 ∙ ap (λ (reply : Reply). reply ∷ left) c.in-TableFull.is)))

pub install-returns-in-Found : goal.install-returns-in-Found
install-returns-in-Found t c =
    let q = viewed_question c.args.question.now in
    let rule = c.args.rule.now in
    let rest = drop (c.args.place + 1) q.edition.config.rules in
    let op = c.install_by-op.result in
    told_so story_of (told.story_with_ask op (told.plain_story told.Mistakes)) (Has q c.args.depth (seen_by c.args.searched.now) (Tests rule rest) c.args.replies.now) c.mistaken.result c.mistaken.ensures
    (subst (λ (o : Op). IsRun q c.args.depth (seen_by c.args.searched.now) (Tests rule rest) c.args.replies.now (told.story_with_ask o (told.plain_story told.Mistakes))) (sym c.install_by-op.ensures)
    (lift.misread q c.args.depth (seen_by c.args.searched.now) c.args.place rule c.requires.there c.args.replies.now c.args.state.now c.args.flow c.requires.plain c.requires.held c.requires.made c.requires.flowing
    c.in-Some.reply.now c.in-Some.left.now c.in-Some.ensures.cases.0
    (elim c.in-Found.is [
      | inl is ↦ subst (λ (reply : Reply). is_reply_to q.edition.config.rules (install_by q rule c.args.state.now c.args.flow) reply ≡ false) (sym is.2) refl
      | inr is ↦ subst (λ (reply : Reply). is_reply_to q.edition.config.rules (install_by q rule c.args.state.now c.args.flow) reply ≡ false) (sym is) refl
    ])))

pub install-returns-in_ok-act-in-Created : goal.install-returns-in_ok-act-in-Created
install-returns-in_ok-act-in-Created t c =
    let q = viewed_question c.args.question.now in
    let rule = c.args.rule.now in
    let rest = drop (c.args.place + 1) q.edition.config.rules in
    let op = c.install_by-op.result in
    let left = c.in-Some.left.now in
    let story = story_of c.in_ok-act-in-Created.field-0 in
    told_so story_of (told.story_with_ask op story) (Has q c.args.depth (seen_by c.args.searched.now) (Tests rule rest) c.args.replies.now) c.asked.result c.asked.ensures
    (subst (λ (o : Op). IsRun q c.args.depth (seen_by c.args.searched.now) (Tests rule rest) c.args.replies.now (told.story_with_ask o story)) (sym c.install_by-op.ensures)
    (elim c.in-Created.is [
      | inl is ↦ lift.made_now q c.args.depth (seen_by c.args.searched.now) c.args.place rule c.requires.there c.args.replies.now c.args.state.now c.args.flow c.requires.plain c.requires.held c.requires.made c.requires.flowing
          left story (c.in-Some.ensures.cases.0 ∙ ap (λ (reply : Reply). reply ∷ left) is) c.in_ok-act-in-Created.ensures
      | inr is ↦ lift.made_before q c.args.depth (seen_by c.args.searched.now) c.args.place rule c.requires.there c.args.replies.now c.args.state.now c.args.flow c.requires.plain c.requires.held c.requires.made c.requires.flowing
          left story (c.in-Some.ensures.cases.0 ∙ ap (λ (reply : Reply). reply ∷ left) is) c.in_ok-act-in-Created.ensures
    ]))

pub look-returns-in_default : goal.look-returns-in_default
look-returns-in_default t c =
    let q = viewed_question c.args.question.now in
    let rule = c.args.rule.now in
    let op = c.lookup_by-op.result in
    told_so story_of (told.story_with_ask op (told.plain_story (told.OpensAt op))) (Has q c.args.depth (seen_by c.args.searched.now) (Meets (drop c.args.place q.edition.config.rules)) c.args.replies.now) c.open_at.result c.open_at.ensures
    (subst (λ (o : Op). IsRun q c.args.depth (seen_by c.args.searched.now) (Meets (drop c.args.place q.edition.config.rules)) c.args.replies.now (told.story_with_ask o (told.plain_story (told.OpensAt o)))) (sym c.lookup_by-op.ensures)
    (lift.unanswered q c.args.depth (seen_by c.args.searched.now) c.args.place rule c.requires.there c.args.replies.now c.args.flow c.requires.enabled c.requires.due (none_left c.args.replies.now c.in_default.ensures.cases)))

pub look-returns-in_ok-story-in-Some-place_of : goal.look-returns-in_ok-story-in-Some-place_of
look-returns-in_ok-story-in-Some-place_of t c =
    let q = viewed_question c.args.question.now in
    let rule = c.args.rule.now in
    let op = c.lookup_by-op.result in
    let left = c.in-Some.left.now in
    let story = story_of c.in_ok-story-in-Some-place_of.story in
    let found = c.in-Some-place_of.found.now in
    told_so story_of (told.story_with_ask op story) (Has q c.args.depth (seen_by c.args.searched.now) (Meets (drop c.args.place q.edition.config.rules)) c.args.replies.now) c.asked.result c.asked.ensures
    (subst (λ (o : Op). IsRun q c.args.depth (seen_by c.args.searched.now) (Meets (drop c.args.place q.edition.config.rules)) c.args.replies.now (told.story_with_ask o story)) (sym c.lookup_by-op.ensures)
    (lift.found q c.args.depth (seen_by c.args.searched.now) c.args.place rule c.requires.there c.args.replies.now c.args.flow c.requires.enabled c.requires.due c.in-Found.maker c.in-Found.field-0 left c.in-Some-place_of.at found story
    (c.in-Some.ensures.cases.0 ∙ ap (λ (reply : Reply). reply ∷ left) c.in-Found.is) c.in-Some-place_of.ensures
    (subst (λ (s : Seen). IsRun q c.args.depth s (Acts found (drop (c.in-Some-place_of.at + 1) q.edition.config.rules)) left story) c.done.ensures c.in_ok-story-in-Some-place_of.ensures)))

pub look-returns-in-None : goal.look-returns-in-None
look-returns-in-None t c =
    let q = viewed_question c.args.question.now in
    let rule = c.args.rule.now in
    let op = c.lookup_by-op.result in
    let left = c.in-Some.left.now in
    told_so story_of (told.story_with_ask op (told.plain_story told.Mistakes)) (Has q c.args.depth (seen_by c.args.searched.now) (Meets (drop c.args.place q.edition.config.rules)) c.args.replies.now) c.mistaken.result c.mistaken.ensures
    (subst (λ (o : Op). IsRun q c.args.depth (seen_by c.args.searched.now) (Meets (drop c.args.place q.edition.config.rules)) c.args.replies.now (told.story_with_ask o (told.plain_story told.Mistakes))) (sym c.lookup_by-op.ensures)
    (lift.mistaken q c.args.depth (seen_by c.args.searched.now) c.args.place rule c.requires.there c.args.replies.now c.args.flow c.requires.enabled c.requires.due (Found c.in-Found.field-0 c.in-Found.maker) left
    (c.in-Some.ensures.cases.0 ∙ ap (λ (reply : Reply). reply ∷ left) c.in-Found.is) c.in-None.ensures))

pub look-returns-in_ok-test-in-NotFound : goal.look-returns-in_ok-test-in-NotFound
look-returns-in_ok-test-in-NotFound t c =
    let q = viewed_question c.args.question.now in
    let rule = c.args.rule.now in
    let rest = drop (c.args.place + 1) q.edition.config.rules in
    let op = c.lookup_by-op.result in
    let left = c.in-Some.left.now in
    let story = story_of c.in_ok-test-in-NotFound.field-0 in
    let seen = c.with-searched.ensures ∙ ap (λ name. with_seen (seen_by c.args.searched.now) name) c.name_at.ensures in
    told_so story_of (told.story_with_ask op story) (Has q c.args.depth (seen_by c.args.searched.now) (Meets (drop c.args.place q.edition.config.rules)) c.args.replies.now) c.asked-in-NotFound.result c.asked-in-NotFound.ensures
    (subst (λ (o : Op). IsRun q c.args.depth (seen_by c.args.searched.now) (Meets (drop c.args.place q.edition.config.rules)) c.args.replies.now (told.story_with_ask o story)) (sym c.lookup_by-op.ensures)
    (lift.not_found q c.args.depth (seen_by c.args.searched.now) c.args.place rule c.requires.there c.args.replies.now c.args.flow c.requires.enabled c.requires.due left story
    (c.in-Some.ensures.cases.0 ∙ ap (λ (reply : Reply). reply ∷ left) c.in-NotFound.is)
    (subst (λ (s : Seen). IsRun q c.args.depth s (Tests rule rest) left story) seen c.in_ok-test-in-NotFound.ensures)))

pub look-returns-in-Created : goal.look-returns-in-Created
look-returns-in-Created t c =
    let q = viewed_question c.args.question.now in
    let rule = c.args.rule.now in
    let op = c.lookup_by-op.result in
    let left = c.in-Some.left.now in
    told_so story_of (told.story_with_ask op (told.plain_story told.Mistakes)) (Has q c.args.depth (seen_by c.args.searched.now) (Meets (drop c.args.place q.edition.config.rules)) c.args.replies.now) c.mistaken-in-Created.result c.mistaken-in-Created.ensures
    (subst (λ (o : Op). IsRun q c.args.depth (seen_by c.args.searched.now) (Meets (drop c.args.place q.edition.config.rules)) c.args.replies.now (told.story_with_ask o (told.plain_story told.Mistakes))) (sym c.lookup_by-op.ensures)
    (lift.mistaken q c.args.depth (seen_by c.args.searched.now) c.args.place rule c.requires.there c.args.replies.now c.args.flow c.requires.enabled c.requires.due c.in-Some.reply.now left c.in-Some.ensures.cases.0
    (elim c.in-Created.is [
      | inl is ↦ subst (λ (reply : Reply). is_reply_to q.edition.config.rules (lookup_by q rule c.args.flow) reply ≡ false) (sym is) refl
      | inr (inl is) ↦ subst (λ (reply : Reply). is_reply_to q.edition.config.rules (lookup_by q rule c.args.flow) reply ≡ false) (sym is) refl
      | inr (inr (inl is)) ↦ subst (λ (reply : Reply). is_reply_to q.edition.config.rules (lookup_by q rule c.args.flow) reply ≡ false) (sym is.1) refl
      | inr (inr (inr is)) ↦ subst (λ (reply : Reply). is_reply_to q.edition.config.rules (lookup_by q rule c.args.flow) reply ≡ false) (sym is.1) refl
    ])))

pub meet-returns-in_default : goal.meet-returns-in_default
meet-returns-in_default t c =
    let q = viewed_question c.args.question.now in
    rw (c.plainly.ensures, c.last_judgement.ensures) (lift.behind_all q c.args.depth (seen_by c.args.searched.now) (drop c.args.place q.edition.config.rules) c.args.replies.now c.in_default.ensures)

pub meet-returns-then-is_disabled : goal.meet-returns-then-is_disabled
meet-returns-then-is_disabled t c =
    let q = viewed_question c.args.question.now in
    each _ _ c.meet.result c.meet.ensures
    (λ s on. lift.disabled q c.args.depth (seen_by c.args.searched.now) c.args.place c.in-Some.rule.now c.in-Some.ensures c.args.replies.now (story_of s) (sym c.if-is_disabled.ensures) on)

pub meet-returns-in-None : goal.meet-returns-in-None
meet-returns-in-None t c =
    let q = viewed_question c.args.question.now in
    each _ _ c.test.result c.test.ensures
    (λ s on. lift.unasked q c.args.depth (seen_by c.args.searched.now) c.args.place c.in-Some.rule.now c.in-Some.ensures c.args.replies.now (story_of s) (sym c.if-is_disabled.ensures) (sym c.in-None.ensures) on)

pub test-returns-then-is_check_state : goal.test-returns-then-is_check_state
test-returns-then-is_check_state t c =
    let q = viewed_question c.args.question.now in
    each _ _ c.meet.result c.meet.ensures
    (λ s on. lift.checked_only q c.args.depth (seen_by c.args.searched.now) c.args.place c.args.rule.now c.requires.there c.args.replies.now (story_of s) (sym c.if-is_check_state.ensures) on)

pub test-returns-then-not-is_held : goal.test-returns-then-not-is_held
test-returns-then-not-is_held t c =
    let q = viewed_question c.args.question.now in
    each _ _ c.meet-then-not-is_held.result c.meet-then-not-is_held.ensures
    (λ s on. lift.unheld q c.args.depth (seen_by c.args.searched.now) c.args.place c.args.rule.now c.requires.there c.args.replies.now (story_of s) (sym c.if-is_check_state.ensures) (sym c.if-not-is_held.ensures) on)

pub test-returns-in_default : goal.test-returns-in_default
test-returns-in_default t c =
    let q = viewed_question c.args.question.now in
    each _ _ c.act.result c.act.ensures
    (λ s on. lift.stateless q c.args.depth (seen_by c.args.searched.now) c.args.place c.args.rule.now c.requires.there c.args.replies.now (story_of s) (sym c.if-is_check_state.ensures) (sym c.if-not-is_held.ensures) (sym c.in_default.ensures) on)

pub test-returns-in-None : goal.test-returns-in-None
test-returns-in-None t c =
    let q = viewed_question c.args.question.now in
    each _ _ c.meet-in-None.result c.meet-in-None.ensures
    (λ s on. lift.flowless q c.args.depth (seen_by c.args.searched.now) c.args.place c.args.rule.now c.requires.there c.args.replies.now (story_of s) c.in-Some.state.now (sym c.if-is_check_state.ensures) (sym c.if-not-is_held.ensures)
    (sym c.in-Some.ensures) (sym c.in-None.ensures) on)
