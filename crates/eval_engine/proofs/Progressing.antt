-- How far an evaluation is behind one reply more.
use Rattle.std.proofs.Common.{◌≡◌, ℕ, true, Option, Some, None, List, [], ◌∷◌, ◌++◌, refl, ap, sym, ◌∙◌, subst, drop, length, slice_set, arith}
use Rattle.std.proofs.lemmas.List.{length-set}
use Rattle.counter_book.specs.declared.tally.Count.{Count}
use Rattle.counter_book.specs.Counts.{count_after_packet, counted_under}
use Rattle.state_asks.specs.declared.op.Op.{Op}
use Rattle.state_asks.specs.declared.reply.Reply.{Reply}
use Rattle.fw_rule.specs.declared.rule.Rule.{Rule}
use Rattle.ip6_headers.specs.Either.{total_of}
use Rattle.eval_engine.specs.Evaluation.{Progress, progress_by, progress_of, progress_from, progress_after_reply, is_reply_to, asks_at_stop, outcome_of, evaluate}
use Rattle.eval_engine.specs.Question.{Question}
use Rattle.eval_engine.specs.Standing.{StandsAt, AnswersOpenAsk, counts_after, asked_by, stop_at, pause_of, seen_by, callers_of, asks_at, outcome_at}
use Rattle.eval_engine.specs.Steps.{Comes, walk_at}
use Rattle.eval_engine.specs.Trace.{Seen, no_names, Pause, Stop, WaitsFor, Trace, hits_of, stop_of_trace}
use Rattle.eval_engine.specs.Walk.{first_trace, trace_after_reply, leads_to, seen_after}
use Rattle.eval_engine.specs.declared.judgement.Judgement.{Judgement}
use Rattle.eval_engine.specs.declared.paused.Paused.{Paused}
use Rattle.eval_engine.specs.declared.position.Position.{Position}
use Rattle.eval_engine.specs.declared.searched.Searched.{Searched}

-- the counts after one packet more
pub counts_after-append : (bytes : ℕ) (hits more : List ℕ) (counts : List Count) → counts_after bytes (hits ++ more) counts ≡ counts_after bytes more (counts_after bytes hits counts)
unfolding counts_after
counts_after-append bytes [] more counts = refl
counts_after-append bytes (counter ∷ hits) more counts = counts_after-append bytes hits more _

-- the last reply moves on what those before it came to
pub progress_from-append : (q : Question) (progress : Progress) (replies : List Reply) (reply : Reply)
    → let before : Progress = progress_from q progress replies in progress_from q progress (replies ++ reply ∷ []) ≡ progress_after_reply q before.asks before.hits reply before.stop
unfolding progress_from
progress_from-append q progress [] reply = refl
progress_from-append q progress (first ∷ replies) reply = progress_from-append q (progress_after_reply q progress.asks progress.hits first progress.stop) replies reply

asks_stop : (q : Question) (judged : Option Judgement) (paused : Paused) → asks_at_stop (stop_at q judged paused) ≡ asks_at judged paused
asks_stop q (Some judgement) paused = refl
asks_stop q None paused = refl

outcome_stop : (q : Question) (judged : Option Judgement) (paused : Paused) → outcome_of (stop_at q judged paused) ≡ outcome_at judged paused
outcome_stop q (Some judgement) paused = refl
outcome_stop q None paused = refl

-- an evaluation that begins
pub stands_first : (q : Question) (trace : Trace) (judged : Option Judgement) (paused : Paused) (before now : List Count) → trace ≡ first_trace q → Comes q trace judged paused before now
    → StandsAt q [] [] before judged paused now
unfolding evaluate progress_from
stands_first q trace judged paused before now is comes =
    let stop : stop_of_trace (first_trace q) ≡ stop_at q judged paused = ap (λ (t : Trace). stop_of_trace t) (sym is) ∙ comes.stop in
    record {
      asked = ap (λ (s : Stop). asks_at_stop s) stop ∙ asks_stop q judged paused;
      outcome = ap (λ (s : Stop). outcome_of s) stop ∙ outcome_stop q judged paused;
      tallied = comes.tallied ∙ ap (λ (t : Trace). counts_after (total_of q.packet) (hits_of t) before) is;
      waiting = comes.asked;
      stop = stop;
    }

replied_by : (q : Question) (asks : List Op) (hits : List ℕ) (reply : Reply) (op : Op) (pause : Pause) → is_reply_to q.edition.config.rules op reply ≡ true
    → progress_after_reply q asks hits reply (WaitsFor op pause) ≡ progress_by asks hits (trace_after_reply q pause reply)
replied_by q asks hits reply op pause fits = rw fits refl

-- an evaluation that goes on with a reply
pub stands_next : (q : Question) (judged : Option Judgement) (waits paused : Paused) (reply : Reply) (asks : List Op) (replies : List Reply) (start before now : List Count)
    → StandsAt q asks replies start None waits before → AnswersOpenAsk q waits reply → Comes q (trace_after_reply q (pause_of q waits) reply) judged paused before now
    → StandsAt q (asks ++ asked_by waits ∷ []) (replies ++ reply ∷ []) start judged paused now
unfolding evaluate
stands_next q judged waits paused reply asks replies start before now stands answered comes =
    let op : Op = asked_by waits in
    let so_far : Progress = progress_of q replies in
    let trace : Trace = trace_after_reply q (pause_of q waits) reply in
    let next : progress_of q (replies ++ reply ∷ []) ≡ progress_by so_far.asks so_far.hits trace =
    progress_from-append q (progress_by [] [] (first_trace q)) replies reply
    ∙ ap (λ (s : Stop). progress_after_reply q so_far.asks so_far.hits reply s) stands.stop
    ∙ replied_by q so_far.asks so_far.hits reply op (pause_of q waits) answered in
    record {
      asked = ap (λ (p : Progress). p.asks) next ∙ ap (λ (xs : List Op). xs ++ asks_at_stop (stop_of_trace trace)) stands.asked
          ∙ ap (λ (s : Stop). (asks ++ op ∷ []) ++ asks_at_stop s) comes.stop ∙ ap (λ (xs : List Op). (asks ++ op ∷ []) ++ xs) (asks_stop q judged paused);
      outcome = ap (λ (p : Progress). outcome_of p.stop) next ∙ ap (λ (s : Stop). outcome_of s) comes.stop ∙ outcome_stop q judged paused;
      tallied = comes.tallied ∙ ap (λ (counts : List Count). counts_after (total_of q.packet) (hits_of trace) counts) stands.tallied
          ∙ sym (counts_after-append (total_of q.packet) so_far.hits (hits_of trace) start)
          ∙ ap (λ (p : Progress). counts_after (total_of q.packet) p.hits start) (sym next);
      waiting = comes.asked;
      stop = ap (λ (p : Progress). p.stop) next ∙ comes.stop;
    }

-- behind no reply the evaluation stands where the walk from the first rule came to
pub stands_begun : (q : Question) (searched : Searched) (at : Position) (judged : Option Judgement) (paused : Paused) (before now : List Count) → seen_by searched ≡ no_names → callers_of at.callers ≡ []
    → at.place ≡ 0 → Comes q (walk_at q (seen_by searched) at) judged paused before now → StandsAt q [] [] before judged paused now
stands_begun q searched at judged paused before now none outside first comes =
    stands_first q (walk_at q (seen_by searched) at) judged paused before now (rw (none, outside, first) refl) comes

-- behind one reply more the evaluation stands where the call came to from that reply on
pub stands_resumed : (q : Question) (searched : Searched) (waits : Paused) (reply : Reply) (asks : List Op) (replies : List Reply) (start before now : List Count) (judged : Option Judgement)
    (paused : Paused) → seen_by searched ≡ seen_after q (seen_by waits.searched) (drop waits.position.place q.edition.config.rules) reply
    → StandsAt q asks replies start None waits before → AnswersOpenAsk q waits reply
    → Comes q (leads_to q (seen_by searched) (callers_of waits.position.callers) (drop waits.position.place q.edition.config.rules) reply) judged paused before now
    → StandsAt q (asks ++ asked_by waits ∷ []) (replies ++ reply ∷ []) start judged paused now
stands_resumed q searched waits reply asks replies start before now judged paused seen stands answered comes =
    stands_next q judged waits paused reply asks replies start before now stands answered
    (subst (λ (s : Seen). Comes q (leads_to q s (callers_of waits.position.callers) (drop waits.position.place q.edition.config.rules) reply) judged paused before now) seen comes)

-- a tally stays as long as it is
pub counts_after-length : (bytes : ℕ) (hits : List ℕ) (counts : List Count) → length (counts_after bytes hits counts) ≡ length counts
unfolding counts_after
counts_after-length bytes [] counts = refl
counts_after-length bytes (counter ∷ hits) counts =
    let next = slice_set counts counter (count_after_packet (counted_under counts counter) bytes) in
    counts_after-length bytes hits next ∙ length-set counts counter (count_after_packet (counted_under counts counter) bytes)

-- as long as it began
pub stands-length : (q : Question) (asks : List Op) (replies : List Reply) (start : List Count) (judged : Option Judgement) (paused : Paused) (tally : List Count) → StandsAt q asks replies start judged paused tally
    → length tally ≡ length start
stands-length q asks replies start judged paused tally stands =
    ap (λ (counts : List Count). length counts) stands.tallied ∙ counts_after-length (total_of q.packet) (evaluate q replies).hits start
