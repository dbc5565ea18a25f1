-- What an evaluation with no reply comes to is told by its first trace.
use Rattle.std.proofs.Common.{◌≡◌, ℕ, List, [], refl, ap, ◌∙◌, sym, arith}
use Rattle.eval_engine.specs.Evaluated.{Evaluated, Whole}
use Rattle.eval_engine.specs.Evaluation.{evaluate, progress_of, progress_from, outcome_of, asks_at_stop}
use Rattle.eval_engine.specs.Question.{Question}
use Rattle.eval_engine.specs.Trace.{Stop, EndsWith, WaitsFor, Mismatch, hits_of, stop_of_trace}
use Rattle.eval_engine.specs.Walk.{first_trace}
use Rattle.eval_engine.specs.declared.judgement.Judgement.{Judgement}
use Rattle.cached_verdicts.specs.Laws.{WholeEvaluationsAskNothing}

-- what is told by hits and a stop
abbrev pub result_of : List ℕ → Stop → Evaluated
result_of hits stop = record { asks = asks_at_stop stop; hits = hits; outcome = outcome_of stop }

-- an evaluation with no reply
pub evaluated_first : (q : Question) → evaluate q [] ≡ result_of (hits_of (first_trace q)) (stop_of_trace (first_trace q))
unfolding evaluate progress_from
evaluated_first q = refl

-- how it stops
pub stop_first : (q : Question) → (progress_of q []).stop ≡ stop_of_trace (first_trace q)
unfolding progress_from
stop_first q = refl

-- a stop of a whole evaluation
pub ended : (stop : Stop) (judgement : Judgement) → outcome_of stop ≡ Whole judgement → stop ≡ EndsWith judgement
ended (EndsWith other) judgement is = grind arith
ended (WaitsFor op pause) judgement is = absurd (grind arith)
ended Mismatch judgement is = absurd (grind arith)

silent : (stop : Stop) (judgement : Judgement) → outcome_of stop ≡ Whole judgement → asks_at_stop stop ≡ []
silent (EndsWith other) judgement is = refl
silent (WaitsFor op pause) judgement is = absurd (grind arith)
silent Mismatch judgement is = refl

-- a whole evaluation with no reply stops with its judgement
pub stops_whole : (q : Question) (judgement : Judgement) → (evaluate q []).outcome ≡ Whole judgement → (progress_of q []).stop ≡ EndsWith judgement
stops_whole q judgement is =
    stop_first q ∙ ended (stop_of_trace (first_trace q)) judgement (ap (λ (e : Evaluated). e.outcome) (sym (evaluated_first q)) ∙ is)

-- and asks nothing
pub whole_evaluations_ask_nothing : WholeEvaluationsAskNothing
whole_evaluations_ask_nothing q judgement is =
    ap (λ (e : Evaluated). e.asks) (evaluated_first q)
    ∙ silent (stop_of_trace (first_trace q)) judgement (ap (λ (e : Evaluated). e.outcome) (sym (evaluated_first q)) ∙ is)
