-- What is entered for the records of one lane.
use Rattle.std.specs.Prelude.{ℕ, List, Option, Some, None, filter_map}
use Rattle.state_asks.specs.declared.rule_ref.RuleRef.{RuleRef}
use Rattle.eval_engine.specs.declared.docket_entry.DocketEntry.{DocketEntry}
use Rattle.eval_engine.specs.declared.docket_entry.DocketEntry.TheVariants.{Other, Malformed, Judged, Limited, Full}
use Rattle.eval_engine.specs.declared.judgement.Cause.{Cause}
use Rattle.eval_engine.specs.declared.judgement.Cause.TheVariants as causes
use Rattle.eval_engine.specs.declared.judgement.Judgement.{Judgement}
use Rattle.eval_engine.specs.declared.judgement.Verdict.{Verdict}

-- the entry of a judgement of these fields: one variant for each cause
abbrev pub entry_by_cause : Cause → Verdict → RuleRef → ℕ → DocketEntry
entry_by_cause causes.Rule verdict rule edition = Judged verdict rule edition
entry_by_cause (causes.Limit states) verdict rule edition = Limited verdict rule states edition
entry_by_cause (causes.Full states) verdict rule edition = Full verdict rule states edition

-- the entry of a judgement
abbrev pub judged_entry : Judgement → DocketEntry
judged_entry judgement = entry_by_cause judgement.cause judgement.verdict judgement.rule judgement.edition

-- the judgement of these fields
abbrev pub judgement_of : Verdict → Cause → RuleRef → ℕ → Judgement
judgement_of verdict cause rule edition = record { edition = edition; verdict = verdict; rule = rule; cause = cause }

-- the judgement that an entry is of, if it is of one
abbrev pub judgement_in : DocketEntry → Option Judgement
judgement_in Other = None
judgement_in (Malformed kind) = None
judgement_in (Judged verdict rule edition) = Some (judgement_of verdict causes.Rule rule edition)
judgement_in (Limited verdict rule states edition) = Some (judgement_of verdict (causes.Limit states) rule edition)
judgement_in (Full verdict rule states edition) = Some (judgement_of verdict (causes.Full states) rule edition)

-- the judgements of a docket, in order
abbrev pub judgements : List DocketEntry → List Judgement
judgements entries = filter_map judgement_in entries

-- one entry for each record, in order, and how many entries into a section were refused, modulo 2^64
pub record DocketValue : Type 0 where
  pub entries : List DocketEntry
  pub refused : ℕ
