-- Entries and the judgements that they are of.
use Rattle.std.proofs.Common.{◌≡◌, ℕ, List, ◌∷◌, ◌++◌, Option, Some, refl, ap, ◌∙◌}
use Rattle.std.proofs.lemmas.List.Elements.{filter_map-append}
use Rattle.std.specs.List.{cons_option}
use Rattle.state_asks.specs.declared.rule_ref.RuleRef.{RuleRef}
use Rattle.eval_engine.specs.Dockets.{entry_by_cause, judged_entry, judgement_of, judgement_in, judgements}
use Rattle.eval_engine.specs.declared.docket_entry.DocketEntry.{DocketEntry}
use Rattle.eval_engine.specs.declared.judgement.Cause.{Cause}
use Rattle.eval_engine.specs.declared.judgement.Cause.TheVariants.{Rule, Limit, Full}
use Rattle.eval_engine.specs.declared.judgement.Judgement.{Judgement}
use Rattle.eval_engine.specs.declared.judgement.Verdict.{Verdict}

by_cause : (cause : Cause) (verdict : Verdict) (rule : RuleRef) (edition : ℕ) → judgement_in (entry_by_cause cause verdict rule edition) ≡ Some (judgement_of verdict cause rule edition)
by_cause Rule verdict rule edition = refl
by_cause (Limit states) verdict rule edition = refl
by_cause (Full states) verdict rule edition = refl

-- the entry of a judgement is of that judgement
pub judgement_in-judged : (judgement : Judgement) → judgement_in (judged_entry judgement) ≡ Some judgement
judgement_in-judged judgement = by_cause judgement.cause judgement.verdict judgement.rule judgement.edition

-- the judgements of two lists of entries stand one behind the other
pub judgements-append : (entries more : List DocketEntry) → judgements (entries ++ more) ≡ judgements entries ++ judgements more
judgements-append entries more = filter_map-append judgement_in entries more

-- before other entries, that of a judgement has it before theirs
pub judgements-judged : (entered : DocketEntry) (entries : List DocketEntry) (judgement : Judgement) → entered ≡ judged_entry judgement → judgements (entered ∷ entries) ≡ judgement ∷ judgements entries
judgements-judged entered entries judgement is =
    ap (λ (found : Option Judgement). cons_option found (judgements entries)) (ap (λ (e : DocketEntry). judgement_in e) is ∙ judgement_in-judged judgement)
