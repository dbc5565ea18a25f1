-- Evaluations with some replies, and with more.
use Rattle.std.proofs.Common.{◌≡◌, ℕ, Bool, true, false, cond, List, [], ◌∷◌, ◌++◌, refl, ap, sym, ◌∙◌, append_assoc}
use Rattle.std.proofs.lemmas.List.{append-nil}
use Rattle.state_asks.specs.declared.op.Op.{Op}
use Rattle.state_asks.specs.declared.reply.Reply.{Reply}
use Rattle.eval_engine.specs.Evaluated.{Whole, Neither}
use Rattle.eval_engine.specs.Evaluation.{Progress, progress_by, progress_of, progress_from, progress_after_reply, progress_result, is_reply_to, asks_at_stop, outcome_of, evaluate}
use Rattle.eval_engine.specs.Question.{Question}
use Rattle.eval_engine.specs.Trace.{Stop, EndsWith, WaitsFor, Mismatch, stop_of_trace}
use Rattle.eval_engine.specs.Walk.{first_trace, trace_after_reply}
use Rattle.eval_engine.specs.declared.judgement.Judgement.{Judgement}

-- the later replies move on what those before them came to
pub progress_from-more : (q : Question) (progress : Progress) (front more : List Reply) → progress_from q progress (front ++ more) ≡ progress_from q (progress_from q progress front) more
unfolding progress_from
progress_from-more q progress [] more = refl
progress_from-more q progress (reply ∷ front) more = progress_from-more q (progress_after_reply q progress.asks progress.hits reply progress.stop) front more

-- a reply adds asks behind those that were made
reply_adds : (q : Question) (asks : List Op) (hits : List ℕ) (reply : Reply) (stop : Stop) → (rest : List Op) × ((progress_after_reply q asks hits reply stop).asks ≡ asks ++ rest)
reply_adds q asks hits reply (EndsWith judgement) = ([], sym (append-nil asks))
reply_adds q asks hits reply (WaitsFor op pause) = decided (is_reply_to q.edition.config.rules op reply)
  where
    decided : (b : Bool) → (rest : List Op) × ((cond b (progress_by asks hits (trace_after_reply q pause reply)) (record { asks = asks; hits = hits; stop = Mismatch })).asks ≡ asks ++ rest)
    decided true = (asks_at_stop (stop_of_trace (trace_after_reply q pause reply)), refl)
    decided false = ([], sym (append-nil asks))
reply_adds q asks hits reply Mismatch = ([], sym (append-nil asks))

-- so do several
replies_add : (q : Question) (progress : Progress) (more : List Reply) → (rest : List Op) × ((progress_from q progress more).asks ≡ progress.asks ++ rest)
unfolding progress_from
replies_add q progress [] = ([], sym (append-nil progress.asks))
replies_add q progress (reply ∷ more) =
    let one = reply_adds q progress.asks progress.hits reply progress.stop in
    let others = replies_add q (progress_after_reply q progress.asks progress.hits reply progress.stop) more in
    (one.0 ++ others.0, others.1 ∙ ap (λ (asks : List Op). asks ++ others.0) one.1 ∙ append_assoc progress.asks one.0 others.0)

-- the asks with more replies begin with those that were made before
pub begins_with : (q : Question) (front more : List Reply) → (rest : List Op) × ((evaluate q (front ++ more)).asks ≡ (evaluate q front).asks ++ rest)
unfolding evaluate
begins_with q front more =
    let added = replies_add q (progress_of q front) more in
    (added.0, ap (λ (p : Progress). p.asks) (progress_from-more q (progress_by [] [] (first_trace q)) front more) ∙ added.1)

-- where a reply wasn't one to its ask no other changes anything
mismatch_stays : (q : Question) (asks : List Op) (hits : List ℕ) (more : List Reply)
    → progress_from q (record { asks = asks; hits = hits; stop = Mismatch }) more ≡ record { asks = asks; hits = hits; stop = Mismatch }
unfolding progress_from
mismatch_stays q asks hits [] = refl
mismatch_stays q asks hits (reply ∷ more) = mismatch_stays q asks hits more

-- where the evaluation ended no reply brings an ask or a hit
ended_stays : (q : Question) (asks : List Op) (hits : List ℕ) (judgement : Judgement) (more : List Reply)
    → let after : Progress = progress_from q (record { asks = asks; hits = hits; stop = EndsWith judgement }) more in (after.asks ≡ asks) × (after.hits ≡ hits)
unfolding progress_from
ended_stays q asks hits judgement [] = (refl, refl)
ended_stays q asks hits judgement (reply ∷ more) = (ap (λ (p : Progress). p.asks) (mismatch_stays q asks hits more), ap (λ (p : Progress). p.hits) (mismatch_stays q asks hits more))

is_mismatch : (stop : Stop) → outcome_of stop ≡ Neither → stop ≡ Mismatch
is_mismatch (EndsWith judgement) is = cc
is_mismatch (WaitsFor op pause) is = cc
is_mismatch Mismatch is = refl

is_end : (stop : Stop) (judgement : Judgement) → outcome_of stop ≡ Whole judgement → stop ≡ EndsWith judgement
is_end (EndsWith other) judgement is = cc
is_end (WaitsFor op pause) judgement is = cc
is_end Mismatch judgement is = cc

-- an evaluation that is neither open nor whole stays what it is
pub stays : (q : Question) (front more : List Reply) → (evaluate q front).outcome ≡ Neither → evaluate q (front ++ more) ≡ evaluate q front
unfolding evaluate
stays q front more is =
    let so_far : Progress = progress_of q front in
    let closed : Progress = record { asks = so_far.asks; hits = so_far.hits; stop = Mismatch } in
    let same : so_far ≡ closed = ap (λ (s : Stop). let p : Progress = record { asks = so_far.asks; hits = so_far.hits; stop = s } in p) (is_mismatch so_far.stop is) in
    ap progress_result (progress_from-more q (progress_by [] [] (first_trace q)) front more
    ∙ ap (λ (p : Progress). progress_from q p more) same ∙ mismatch_stays q so_far.asks so_far.hits more ∙ sym same)

-- an evaluation that has ended asks nothing more and counts nothing more
pub stays_ended : (q : Question) (front more : List Reply) (judgement : Judgement) → (evaluate q front).outcome ≡ Whole judgement
    → ((evaluate q (front ++ more)).asks ≡ (evaluate q front).asks) × ((evaluate q (front ++ more)).hits ≡ (evaluate q front).hits)
unfolding evaluate
stays_ended q front more judgement is =
    let so_far : Progress = progress_of q front in
    let ended : Progress = record { asks = so_far.asks; hits = so_far.hits; stop = EndsWith judgement } in
    let same : so_far ≡ ended = ap (λ (s : Stop). let p : Progress = record { asks = so_far.asks; hits = so_far.hits; stop = s } in p) (is_end so_far.stop judgement is) in
    let after : progress_of q (front ++ more) ≡ progress_from q ended more =
    progress_from-more q (progress_by [] [] (first_trace q)) front more ∙ ap (λ (p : Progress). progress_from q p more) same in
    let kept = ended_stays q so_far.asks so_far.hits judgement more in
    (ap (λ (p : Progress). p.asks) after ∙ kept.0, ap (λ (p : Progress). p.hits) after ∙ kept.1)
