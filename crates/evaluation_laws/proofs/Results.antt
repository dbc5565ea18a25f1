-- What a trace comes to, given the replies to come.
use Rattle.std.proofs.Common.{◌≡◌, ℕ, ◌+◌, true, false, List, [], ◌∷◌, ◌++◌, refl, ap, sym, ◌∙◌}
use Rattle.std.proofs.lemmas.List.{append_assoc, append-nil}
use Rattle.state_asks.specs.declared.op.Op.{Op}
use Rattle.state_asks.specs.declared.reply.Reply.{Reply}
use Rattle.eval_engine.specs.Evaluated.{Evaluated, Whole, OpenAt, Neither}
use Rattle.eval_engine.specs.Evaluation.{Progress, progress_after_reply, progress_by, progress_from, progress_result, is_reply_to, asks_at_stop}
use Rattle.eval_engine.specs.Question.{Question}
use Rattle.eval_engine.specs.Trace.{Seen, Pause, EndsWith, WaitsFor, Mismatch, Trace, PassesOver, Counts, Stops, hits_of, stop_of_trace}
use Rattle.eval_engine.specs.Walk.{walk_from, tests_before, acts_before, trace_after_reply}
use Rattle.eval_engine.specs.declared.judgement.Judgement.{Judgement}
use Rattle.evaluation_laws.specs.Story.{Ending, Ends, OpensAt, Mistakes, Returns, Story, plain_story, story_with_ask, story_with_hit, stories_in_turn, told_by}
use Rattle.evaluation_laws.specs.Runs.{Moment, Meets, Tests, Acts, rules_from}

-- behind these asks and hits
abbrev pub result_of : Question → List Op → List ℕ → Trace → List Reply → Evaluated
result_of q asks hits trace replies = progress_result (progress_from q (progress_by asks hits trace) replies)

-- the trace from a moment on
abbrev pub trace_at : Question → Seen → List ℕ → Moment → Trace
trace_at q seen callers (Meets suffix) = walk_from q seen callers suffix 0
trace_at q seen callers (Tests rule rest) = tests_before q seen callers rule rest
trace_at q seen callers (Acts rule rest) = acts_before q seen callers rule rest

-- behind the innermost call
abbrev pub result_behind : Question → List ℕ → List Op → List ℕ → Seen → List Reply → Evaluated
result_behind q [] asks hits seen left = record { asks = asks; hits = hits; outcome = Neither }
result_behind q (number ∷ callers) asks hits seen left = result_of q asks hits (walk_from q seen callers (rules_from (number + 1) q.edition.config.rules) 0) left

-- what a run comes to that ends so, within these calls
abbrev pub result_by : Question → List ℕ → List Op → List ℕ → Ending → Evaluated
result_by q callers asks hits (Ends judgement []) = record { asks = asks; hits = hits; outcome = Whole judgement }
result_by q callers asks hits (Ends judgement (reply ∷ left)) = record { asks = asks; hits = hits; outcome = Neither }
result_by q callers asks hits (OpensAt op) = record { asks = asks; hits = hits; outcome = OpenAt op }
result_by q callers asks hits Mistakes = record { asks = asks; hits = hits; outcome = Neither }
result_by q callers asks hits (Returns seen left) = result_behind q callers asks hits seen left

-- what a story comes to behind these asks and hits, within these calls
abbrev pub result_in : Question → List ℕ → List Op → List ℕ → Story → Evaluated
result_in q callers asks hits story = result_by q callers (asks ++ story.asks) (hits ++ story.hits) story.ending

-- outside of calls
pub result_outside : (q : Question) (story : Story) → result_in q [] [] [] story ≡ told_by story
result_outside q story = go story.ending
  where
    go : (ending : Ending) → result_in q [] [] [] (record { asks = story.asks; hits = story.hits; ending = ending }) ≡ told_by (record { asks = story.asks; hits = story.hits; ending = ending })
    go (Ends judgement []) = refl
    go (Ends judgement (reply ∷ left)) = refl
    go (OpensAt op) = refl
    go Mistakes = refl
    go (Returns seen left) = refl

-- behind an ask, and behind a hit
pub result_asked : (q : Question) (callers : List ℕ) (asks : List Op) (hits : List ℕ) (op : Op) (story : Story) → result_in q callers (asks ++ op ∷ []) hits story ≡ result_in q callers asks hits (story_with_ask op story)
result_asked q callers asks hits op story = ap (λ (ops : List Op). result_by q callers ops (hits ++ story.hits) story.ending) (append_assoc asks (op ∷ []) story.asks)

-- a hit before a story may be the first one of the story itself
pub result_hit : (q : Question) (callers : List ℕ) (asks : List Op) (hits : List ℕ) (counter : ℕ) (story : Story) → result_in q callers asks (hits ++ counter ∷ []) story ≡ result_in q callers asks hits (story_with_hit counter story)
result_hit q callers asks hits counter story = ap (λ (counters : List ℕ). result_by q callers (asks ++ story.asks) counters story.ending) (append_assoc hits (counter ∷ []) story.hits)

-- behind another run
pub result_later : (q : Question) (callers : List ℕ) (asks : List Op) (hits : List ℕ) (first story : Story) → result_in q callers (asks ++ first.asks) (hits ++ first.hits) story ≡ result_in q callers asks hits (stories_in_turn first story)
result_later q callers asks hits first story =
    ap (λ (ops : List Op). result_by q callers ops ((hits ++ first.hits) ++ story.hits) story.ending) (append_assoc asks first.asks story.asks)
    ∙ ap (λ (counters : List ℕ). result_by q callers (asks ++ (first.asks ++ story.asks)) counters story.ending) (append_assoc hits first.hits story.hits)

-- a rule that is passed over, and one that is counted
pub over : (q : Question) (asks : List Op) (hits : List ℕ) (trace next : Trace) (replies : List Reply) → trace ≡ PassesOver next → result_of q asks hits trace replies ≡ result_of q asks hits next replies
unfolding hits_of stop_of_trace
over q asks hits trace next replies is = ap (λ (t : Trace). result_of q asks hits t replies) is

-- a trace that counts a rule comes to what the rest of it does behind that hit
pub counted : (q : Question) (asks : List Op) (hits : List ℕ) (counter : ℕ) (next : Trace) (replies : List Reply) → result_of q asks hits (Counts counter next) replies ≡ result_of q asks (hits ++ counter ∷ []) next replies
unfolding hits_of stop_of_trace
counted q asks hits counter next replies =
    ap (λ (counters : List ℕ). progress_result (progress_from q (record { asks = asks ++ asks_at_stop (stop_of_trace next); hits = counters; stop = stop_of_trace next }) replies)) (sym (append_assoc hits (counter ∷ []) (hits_of next)))

-- a mismatch stays one
pub stays : (q : Question) (asks : List Op) (hits : List ℕ) (replies : List Reply)
    → progress_result (progress_from q (record { asks = asks; hits = hits; stop = Mismatch }) replies) ≡ record { asks = asks; hits = hits; outcome = Neither }
unfolding progress_from
stays q asks hits [] = refl
stays q asks hits (reply ∷ replies) = stays q asks hits replies

-- the end, with these replies left over
pub ended : (q : Question) (callers : List ℕ) (asks : List Op) (hits : List ℕ) (judgement : Judgement) (replies : List Reply)
    → result_of q asks hits (Stops (EndsWith judgement)) replies ≡ result_in q callers asks hits (plain_story (Ends judgement replies))
unfolding hits_of stop_of_trace progress_from
ended q callers asks hits judgement [] = refl
ended q callers asks hits judgement (reply ∷ replies) = stays q (asks ++ []) (hits ++ []) replies

-- an ask without a reply, with one, and with one that isn't one to it
pub opened : (q : Question) (callers : List ℕ) (asks : List Op) (hits : List ℕ) (op : Op) (pause : Pause)
    → result_of q asks hits (Stops (WaitsFor op pause)) [] ≡ result_in q callers asks hits (story_with_ask op (plain_story (OpensAt op)))
unfolding hits_of stop_of_trace progress_from
opened q callers asks hits op pause = refl

fitting : (q : Question) (asks : List Op) (hits : List ℕ) (op : Op) (pause : Pause) (reply : Reply) → is_reply_to q.edition.config.rules op reply ≡ true
    → progress_after_reply q asks hits reply (WaitsFor op pause) ≡ progress_by asks hits (trace_after_reply q pause reply)
fitting q asks hits op pause reply fits = rw fits refl

unfitting : (q : Question) (asks : List Op) (hits : List ℕ) (op : Op) (pause : Pause) (reply : Reply) → is_reply_to q.edition.config.rules op reply ≡ false
    → progress_after_reply q asks hits reply (WaitsFor op pause) ≡ record { asks = asks; hits = hits; stop = Mismatch }
unfitting q asks hits op pause reply unfit = rw unfit refl

-- a reply to the ask: the ask was made, and the trace goes on as that reply says
pub answered : (q : Question) (asks : List Op) (hits : List ℕ) (op : Op) (pause : Pause) (reply : Reply) (replies : List Reply) → is_reply_to q.edition.config.rules op reply ≡ true
    → result_of q asks hits (Stops (WaitsFor op pause)) (reply ∷ replies) ≡ result_of q (asks ++ op ∷ []) hits (trace_after_reply q pause reply) replies
unfolding hits_of stop_of_trace progress_from
answered q asks hits op pause reply replies fits =
    ap (λ (progress : Progress). progress_result (progress_from q progress replies)) (fitting q (asks ++ op ∷ []) (hits ++ []) op pause reply fits)
    ∙ (ap (λ (counters : List ℕ). result_of q (asks ++ op ∷ []) counters (trace_after_reply q pause reply) replies) (append-nil hits))

-- a reply that isn't one to the ask: the ask was made, and the run ends by a mistake
pub mistaken : (q : Question) (callers : List ℕ) (asks : List Op) (hits : List ℕ) (op : Op) (pause : Pause) (reply : Reply) (replies : List Reply) → is_reply_to q.edition.config.rules op reply ≡ false
    → result_of q asks hits (Stops (WaitsFor op pause)) (reply ∷ replies) ≡ result_in q callers asks hits (story_with_ask op (plain_story Mistakes))
unfolding hits_of stop_of_trace progress_from
mistaken q callers asks hits op pause reply replies unfit =
    ap (λ (progress : Progress). progress_result (progress_from q progress replies)) (unfitting q (asks ++ op ∷ []) (hits ++ []) op pause reply unfit)
    ∙ stays q (asks ++ op ∷ []) (hits ++ []) replies
