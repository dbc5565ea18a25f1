-- How many records came to another verdict.
use Rattle.std.specs.Bool.{beq}
use Rattle.std.specs.Prelude.{ℕ, Bool, true, false, not, ◌&&◌, List, Option, count_by, zip}
use Rattle.std.specs.Option.{option_eq, option_map}
use Rattle.eval_engine.specs.Dockets.{judgement_in}
use Rattle.eval_engine.specs.contracts.judgement.VerdictPartialEq.TheImpl.{eq-value}
use Rattle.eval_engine.specs.declared.docket_entry.DocketEntry.{DocketEntry}
use Rattle.eval_engine.specs.declared.docket_entry.DocketEntry.TheVariants.{Other, Malformed, Judged, Limited, Full}
use Rattle.eval_engine.specs.declared.judgement.Verdict.{Verdict}

-- the verdict that a record was judged with, if it was judged
abbrev pub verdict_in : DocketEntry → Option Verdict
verdict_in entry = option_map (λ judgement. judgement.verdict) (judgement_in entry)

-- whether a record is malformed, of whatever kind
abbrev pub is_malformed : DocketEntry → Bool
is_malformed Other = false
is_malformed (Malformed kind) = true
is_malformed (Judged verdict rule edition) = false
is_malformed (Limited verdict rule states edition) = false
is_malformed (Full verdict rule states edition) = false

-- Two records came to one verdict: both were judged with it, by whatever rule and for whatever cause, or both are
-- malformed, or both are no IP.
abbrev pub is_one_verdict : DocketEntry → DocketEntry → Bool
is_one_verdict old new = option_eq eq-value.it (verdict_in old) (verdict_in new) && beq (is_malformed old) (is_malformed new)

-- how many records came to another verdict, of lists that tell of each in one place
abbrev pub other_verdicts : List DocketEntry → List DocketEntry → ℕ
other_verdicts old new = count_by (λ told. not (is_one_verdict told.0 told.1)) (zip old new)
