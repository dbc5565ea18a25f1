-- How steps move an evaluation on.
use Rattle.std.proofs.Common.{◌≡◌, ℕ, suc, ◌<◌, Option, Some, List, [], ◌∷◌, drop, length, refl, ap, sym, ◌∙◌, subst, arith, slice_set}
use Rattle.std.proofs.lemmas.List.{length-set}
use Rattle.counter_book.specs.Counts.{counted_under, count_after_packet}
use Rattle.counter_book.specs.declared.tally.Count.{Count}
use Rattle.ip6_headers.specs.Either.{total_of}
use Rattle.fw_rule.specs.declared.rule.Rule.{Rule}
use Rattle.eval_engine.specs.Encounter.{rule_ref}
use Rattle.eval_engine.specs.Question.{Question}
use Rattle.eval_engine.specs.Standing.{counts_after, seen_by}
use Rattle.eval_engine.specs.Steps.{walk_at, judged_at, judgement_from, paused_at, IsStopped, IsStep, Comes, Remains, Nears, LeadsOn, PassesTo}
use Rattle.eval_engine.specs.Trace.{Trace, PassesOver, Counts, hits_of, stop_of_trace, length_of}
use Rattle.eval_engine.specs.Walk.{trace_of_judgement, denied_at_end, refuses_from}
use Rattle.eval_engine.specs.declared.judgement.Cause.{Cause}
use Rattle.eval_engine.specs.declared.judgement.Judgement.{Judgement}
use Rattle.eval_engine.specs.declared.paused.Paused.{Paused}
use Rattle.eval_engine.specs.declared.position.Position.{Position}
use Rattle.eval_engine.specs.declared.searched.Searched.{Searched}
use Rattle.eval_engine.specs.declared.position.Step.{Step}
use Rattle.eval_engine.specs.declared.position.Step.TheVariants.{On, Decides, Waits}
use Rattle.eval_engine.specs.declared.judgement.Verdict.{Verdict}
use Rattle.eval_engine.specs.declared.judgement.Verdict.TheVariants as verdicts

longer : (trace next : Trace) (more : ℕ) → more ≡ suc (length_of next) → length_of trace ≡ more → length_of next < length_of trace
longer trace next more one is = omega arith

-- a rule that is passed over
pub nears_by : (q : Question) (trace next : Trace) (before : List Count) → trace ≡ PassesOver next → Nears q trace next before before
unfolding hits_of stop_of_trace length_of
nears_by q trace next before is = record {
  remains = record {
    tallied = ap (λ (t : Trace). counts_after (total_of q.packet) (hits_of t) before) is;
    stop = ap (λ (t : Trace). stop_of_trace t) is;
    fitted = refl;
  };
  sooner = longer trace next _ refl (ap (λ (t : Trace). length_of t) is);
}

-- a rule that stops the evaluation
pub comes_at_once : (q : Question) (trace : Trace) (judged : Option Judgement) (paused : Paused) (before : List Count) → IsStopped q trace judged paused → Comes q trace judged paused before before
unfolding hits_of stop_of_trace counts_after
comes_at_once q trace judged paused before is = record {
  tallied = ap (λ (t : Trace). counts_after (total_of q.packet) (hits_of t) before) (sym is.stop);
  stop = ap (λ (t : Trace). stop_of_trace t) is.stop;
  asked = is.asked;
}

-- the rule at a position decides the packet
pub decided_there : (q : Question) (searched : Searched) (at : Position) (rule : Rule) (rest : List Rule) (verdict : Verdict) (cause : Cause) → drop at.place q.edition.config.rules ≡ rule ∷ rest
    → IsStopped q (trace_of_judgement q verdict (rule_ref rule) cause) (judged_at q verdict cause at) (paused_at searched at)
decided_there q searched at rule rest verdict cause there = rw there (record { stop = refl; asked = tt })

-- behind the last rule the packet is denied
pub denied_there : (q : Question) (searched : Searched) (at : Position) (verdict : Verdict) (cause : Cause) → drop at.place q.edition.config.rules ≡ [] → IsStopped q (denied_at_end q) (judged_at q verdict cause at) (paused_at searched at)
denied_there q searched at verdict cause there = rw there (record { stop = refl; asked = tt })

-- the rule at a position denies without a hit
pub refused_there : (q : Question) (searched : Searched) (at : Position) (cause : Cause) → IsStopped q (refuses_from q cause (drop at.place q.edition.config.rules)) (judged_at q verdicts.Deny cause at) (paused_at searched at)
refused_there q searched at cause = go (drop at.place q.edition.config.rules)
  where
    go : (suffix : List Rule) → IsStopped q (refuses_from q cause suffix) (Some (judgement_from q verdicts.Deny cause suffix)) (paused_at searched at)
    go [] = record { stop = refl; asked = tt }
    go (rule ∷ rest) = record { stop = refl; asked = tt }

-- a rule that is counted
pub leads_counted : (q : Question) (searched : Searched) (trace : Trace) (step : Step) (at : Position) (counter : ℕ) (before now : List Count)
    → now ≡ slice_set before counter (count_after_packet (counted_under before counter) (total_of q.packet)) → IsStep q searched trace step at → LeadsOn q searched (Counts counter trace) step at before now
unfolding hits_of stop_of_trace length_of counts_after
leads_counted q searched trace On at counter before now counted is = record {
  remains = record {
    tallied = ap (λ (t : Trace). counts_after (total_of q.packet) (hits_of t) (slice_set before counter (count_after_packet (counted_under before counter) (total_of q.packet)))) is
        ∙ ap (λ (counts : List Count). counts_after (total_of q.packet) (hits_of (walk_at q (seen_by searched) at)) counts) (sym counted);
    stop = ap (λ (t : Trace). stop_of_trace t) is;
    fitted = ap (λ (counts : List Count). length counts) counted ∙ length-set before counter (count_after_packet (counted_under before counter) (total_of q.packet));
  };
  sooner = longer (Counts counter trace) (walk_at q (seen_by searched) at) _ refl (ap (λ (t : Trace). suc (length_of t)) is);
}
leads_counted q searched trace (Decides verdict cause) at counter before now counted is = record {
  tallied = counted ∙ ap (λ (t : Trace). counts_after (total_of q.packet) (hits_of t) (slice_set before counter (count_after_packet (counted_under before counter) (total_of q.packet)))) (sym is.stop);
  stop = ap (λ (t : Trace). stop_of_trace t) is.stop;
  asked = is.asked;
}
leads_counted q searched trace Waits at counter before now counted is = absurd is

-- the rest of an evaluation ends it
pub comes_by : (q : Question) (trace next : Trace) (judged : Option Judgement) (paused : Paused) (before between now : List Count) → Remains q trace next before between → Comes q next judged paused between now
    → Comes q trace judged paused before now
comes_by q trace next judged paused before between now first last = record {
  tallied = last.tallied ∙ sym first.tallied;
  stop = first.stop ∙ last.stop;
  asked = last.asked;
}

-- what remains of what remains
pub remains_by : (q : Question) (trace next later : Trace) (before between now : List Count) → Remains q trace next before between → Remains q next later between now
    → Remains q trace later before now
remains_by q trace next later before between now first last = record {
  tallied = first.tallied ∙ last.tallied;
  stop = first.stop ∙ last.stop;
  fitted = last.fitted ∙ first.fitted;
}

comes_passed : (q : Question) (trace next : Trace) (judged : Option Judgement) (paused : Paused) (before now : List Count) → PassesTo trace next → Comes q next judged paused before now
    → Comes q trace judged paused before now
comes_passed q trace next judged paused before now passes comes = record {
  tallied = comes.tallied ∙ ap (λ (hits : List ℕ). counts_after (total_of q.packet) hits before) (sym passes.hits);
  stop = passes.stop ∙ comes.stop;
  asked = comes.asked;
}

-- what leads on from behind rules that are passed over leads on from before them
pub leads_passed : (q : Question) (searched : Searched) (trace next : Trace) (step : Step) (at : Position) (before now : List Count) → PassesTo trace next → LeadsOn q searched next step at before now
    → LeadsOn q searched trace step at before now
leads_passed q searched trace next On at before now passes leads = record {
  remains = record {
    tallied = ap (λ (hits : List ℕ). counts_after (total_of q.packet) hits before) passes.hits ∙ leads.remains.tallied;
    stop = passes.stop ∙ leads.remains.stop;
    fitted = leads.remains.fitted;
  };
  sooner = let less = leads.sooner in let more = passes.sooner in omega arith;
}
leads_passed q searched trace next (Decides verdict cause) at before now passes leads = comes_passed q trace next _ _ before now passes leads
leads_passed q searched trace next Waits at before now passes leads = comes_passed q trace next _ _ before now passes leads
