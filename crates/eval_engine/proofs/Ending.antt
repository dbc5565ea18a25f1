-- An evaluation ends once.
use Rattle.std.proofs.Common.{◌≡◌, List, [], ◌∷◌, ◌++◌, refl, ap, ◌∙◌, arith}
use Rattle.state_asks.specs.declared.reply.Reply.{Reply}
use Rattle.eval_engine.specs.Evaluated.{Whole}
use Rattle.eval_engine.specs.Evaluation.{Progress, progress_by, progress_of, progress_from, progress_after_reply, evaluate, outcome_of}
use Rattle.eval_engine.specs.Laws.{EndsOnce}
use Rattle.eval_engine.specs.Question.{Question}
use Rattle.eval_engine.specs.Trace.{Stop, EndsWith, WaitsFor, Mismatch}
use Rattle.eval_engine.specs.Walk.{first_trace}
use Rattle.eval_engine.specs.declared.judgement.Judgement.{Judgement}

-- replies in two lists, one after the other
pub progress_in_two : (q : Question) (progress : Progress) (replies more : List Reply) → progress_from q progress (replies ++ more) ≡ progress_from q (progress_from q progress replies) more
unfolding progress_from
progress_in_two q progress [] more = refl
progress_in_two q progress (reply ∷ replies) more = progress_in_two q (progress_after_reply q progress.asks progress.hits reply progress.stop) replies more

-- a mismatch stays one
pub mismatch_stays : (q : Question) (progress : Progress) (more : List Reply) → progress.stop ≡ Mismatch → (progress_from q progress more).stop ≡ Mismatch
unfolding progress_from
mismatch_stays q progress [] is = is
mismatch_stays q progress (reply ∷ more) is =
    mismatch_stays q (progress_after_reply q progress.asks progress.hits reply progress.stop) more (ap (λ (s : Stop). (progress_after_reply q progress.asks progress.hits reply s).stop) is)

-- behind a judgement no reply is due
pub no_reply_due : (q : Question) (progress : Progress) (reply : Reply) (stop : Stop) (judgement : Judgement) → outcome_of stop ≡ Whole judgement → (progress_after_reply q progress.asks progress.hits reply stop).stop ≡ Mismatch
no_reply_due q progress reply (EndsWith judged) judgement is = refl
no_reply_due q progress reply (WaitsFor op pause) judgement is = absurd (grind arith)
no_reply_due q progress reply Mismatch judgement is = refl

-- with more replies a whole evaluation is neither whole nor open
pub ends_once : EndsOnce
unfolding evaluate progress_from
ends_once q judgement replies reply more is =
    let so_far : Progress = progress_of q replies in
    ap (λ (p : Progress). outcome_of p.stop) (progress_in_two q (progress_by [] [] (first_trace q)) replies (reply ∷ more))
    ∙ ap (λ (s : Stop). outcome_of s) (mismatch_stays q (progress_after_reply q so_far.asks so_far.hits reply so_far.stop) more (no_reply_due q so_far reply so_far.stop judgement is))
