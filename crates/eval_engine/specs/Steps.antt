-- How a call moves an evaluation on.
use Rattle.std.specs.Prelude.{◌≡◌, ◌<◌, ◌≤◌, Option, Some, None, List, [], ◌∷◌, drop, length}
use Rattle.counter_book.specs.declared.tally.Count.{Count}
use Rattle.fw_rule.specs.declared.rule.Rule.{Rule}
use Rattle.ip6_headers.specs.Either.{total_of}
use Rattle.eval_engine.specs.Encounter.{rule_ref}
use Rattle.eval_engine.specs.Question.{Question, rules_of}
use Rattle.eval_engine.specs.Standing.{callers_of, counts_after, seen_by, stop_at, IsAskOf}
use Rattle.eval_engine.specs.Trace.{Seen, Trace, Stops, hits_of, stop_of_trace, length_of}
use Rattle.eval_engine.specs.Walk.{walk_from}
use Rattle.eval_engine.specs.declared.judgement.Cause.{Cause}
use Rattle.eval_engine.specs.declared.judgement.Cause.TheVariants as causes
use Rattle.eval_engine.specs.declared.judgement.Judgement.{Judgement}
use Rattle.eval_engine.specs.declared.paused.Paused.{Paused}
use Rattle.eval_engine.specs.declared.position.Position.{Position}
use Rattle.eval_engine.specs.declared.position.Step.{Step}
use Rattle.eval_engine.specs.declared.position.Step.TheVariants.{On, Decides, Waits}
use Rattle.eval_engine.specs.declared.searched.Searched.{Searched}
use Rattle.eval_engine.specs.declared.judgement.Verdict.{Verdict}
use Rattle.eval_engine.specs.declared.judgement.Verdict.TheVariants as verdicts

-- the evaluation from this position on
abbrev pub walk_at : Question → Seen → Position → Trace
walk_at q seen at = walk_from q seen (callers_of at.callers) (drop at.place (rules_of q)) 0

-- the rules between are passed over: nothing is counted, the trace stops alike, and no more rules are on the way
pub record PassesTo (trace next : Trace) : Type 0 where
  pub hits : hits_of trace ≡ hits_of next
  pub stop : stop_of_trace trace ≡ stop_of_trace next
  pub sooner : length_of next ≤ length_of trace

-- an evaluation that waits at this position, where these names were looked up
abbrev pub paused_at : Searched → Position → Paused
paused_at searched at = record { position = at; searched = searched }

-- the evaluation stops with this judgement, or where there is none at this pause
pub record IsStopped (q : Question) (trace : Trace) (judged : Option Judgement) (paused : Paused) : Type 0 where
  pub stop : trace ≡ Stops (stop_at q judged paused)
  pub asked : IsAskOf q judged paused

-- the first rule of the suffix decides the packet so; behind the last one rule 65535 denies it
abbrev pub judgement_from : Question → Verdict → Cause → List Rule → Judgement
judgement_from q verdict cause [] = record { edition = q.edition.number; verdict = verdicts.Deny; rule = record { id = 0; number = 65535 }; cause = causes.Rule }
judgement_from q verdict cause (rule ∷ rest) = record { edition = q.edition.number; verdict = verdict; rule = rule_ref rule; cause = cause }

-- the rule at this position decides the packet so
abbrev pub judged_at : Question → Verdict → Cause → Position → Option Judgement
judged_at q verdict cause at = Some (judgement_from q verdict cause (drop at.place (rules_of q)))

-- the evaluation is that of the step to this position, with no hit between; an action waits for nothing
abbrev pub IsStep : Question → Searched → Trace → Step → Position → Type 0
IsStep q searched trace On at = trace ≡ walk_at q (seen_by searched) at
IsStep q searched trace (Decides verdict cause) at = IsStopped q trace (judged_at q verdict cause at) (paused_at searched at)
IsStep q searched trace Waits at = ⊥

-- the evaluation comes to this judgement, or where there is none to this pause, and the tally rises by its hits
pub record Comes (q : Question) (trace : Trace) (judged : Option Judgement) (paused : Paused) (before now : List Count) : Type 0 where
  pub tallied : now ≡ counts_after (total_of q.packet) (hits_of trace) before
  pub stop : stop_of_trace trace ≡ stop_at q judged paused
  pub asked : IsAskOf q judged paused

-- what remains of the evaluation is the next, and what it counted on the way is tallied
pub record Remains (q : Question) (trace next : Trace) (before now : List Count) : Type 0 where
  pub tallied : counts_after (total_of q.packet) (hits_of trace) before ≡ counts_after (total_of q.packet) (hits_of next) now
  pub stop : stop_of_trace trace ≡ stop_of_trace next
  pub fitted : length now ≡ length before

-- the next trace is what remains of the evaluation, and has fewer rules on the way
pub record Nears (q : Question) (trace next : Trace) (before now : List Count) : Type 0 where
  pub remains : Remains q trace next before now
  pub sooner : length_of next < length_of trace

-- where a step to this position leads: on from there, to the judgement there, or to the ask there
abbrev pub LeadsOn : Question → Searched → Trace → Step → Position → List Count → List Count → Type 0
LeadsOn q searched trace On at before now = Nears q trace (walk_at q (seen_by searched) at) before now
LeadsOn q searched trace (Decides verdict cause) at before now = Comes q trace (judged_at q verdict cause at) (paused_at searched at) before now
LeadsOn q searched trace Waits at before now = Comes q trace None (paused_at searched at) before now
