-- The lines of records, and what they tell.
use Rattle.std.proofs.Common.{ℕ, ◌+◌, List, [], ◌∷◌, codes, refl}
use Rattle.std.specs.Fmt.{decimal}
use Rattle.eval_engine.specs.Dockets.{judgement_of}
use Rattle.eval_engine.specs.declared.docket_entry.DocketEntry.{DocketEntry}
use Rattle.eval_engine.specs.declared.docket_entry.DocketEntry.TheVariants as entry
use Rattle.eval_engine.specs.declared.judgement.Cause.TheVariants.{Rule, Limit, Full}
use Rattle.eval_engine.specs.declared.judgement.Judgement.{Judgement}
use Rattle.report_texts.proofs.SilentWords.{number_is_silent, five_digits_are_silent, verdict_is_silent, verdict_code_is_silent, cause_is_silent, cause_count_is_silent}
use Rattle.report_texts.specs.DocketText.{cause_count, cause_word, entry_text, judged_text, record_line, record_lines, verdict_code, verdict_word}
use Rattle.report_texts.specs.Lines.{lines_in}
use Rattle.report_reading.proofs.ReadingsTold.{record_read}
use Rattle.report_reading.specs.Readings.{LineValue, OfRecord}
use Rattle.report_reading.specs.RecordLines.{IsRecord, printed}
use Rattle.rule_text.specs.Canonical.{five_digits}
use Rattle.run_audit.proofs.ToldTexts.{IsLine, TellsAs, newline, silent_before, tells_both, tells_line, tells_none}

judged_is_line : (j : Judgement) → IsLine (judged_text j)
unfolding judged_text lines_in
judged_is_line j =
    silent_before (codes " ") _ refl (silent_before (verdict_word j.verdict) _ (verdict_is_silent j.verdict)
    (silent_before (verdict_code j.verdict) _ (verdict_code_is_silent j.verdict) (silent_before (codes " ") _ refl
    (silent_before (five_digits j.rule.number) _ (five_digits_are_silent j.rule.number) (silent_before (codes " at ") _ refl
    (silent_before (decimal j.edition) _ (number_is_silent j.edition) (silent_before (cause_word j.cause) _ (cause_is_silent j.cause)
    (silent_before (cause_count j.cause) _ (cause_count_is_silent j.cause) newline))))))))

entry_is_line : (told : DocketEntry) → IsLine (entry_text told)
unfolding entry_text lines_in
entry_is_line entry.Other = silent_before (codes " other") _ refl newline
entry_is_line (entry.Malformed kind) = silent_before (codes " malformed ") _ refl (silent_before (decimal kind) _ (number_is_silent kind) newline)
entry_is_line (entry.Judged verdict rule edition) = judged_is_line (judgement_of verdict Rule rule edition)
entry_is_line (entry.Limited verdict rule states edition) = judged_is_line (judgement_of verdict (Limit states) rule edition)
entry_is_line (entry.Full verdict rule states edition) = judged_is_line (judgement_of verdict (Full states) rule edition)

record_is_line : (capture at : ℕ) (told : DocketEntry) → IsLine (record_line capture at told)
unfolding record_line lines_in
record_is_line capture at told =
    silent_before (decimal capture) _ (number_is_silent capture) (silent_before (codes ".") _ refl (silent_before (decimal at) _ (number_is_silent at) (entry_is_line told)))

-- what the line of a record tells
abbrev pub record_value : ℕ → ℕ → DocketEntry → LineValue
record_value capture at told = OfRecord (record { capture = capture; at = at; entry = printed told })

-- what the lines of the records from this number on tell
abbrev pub record_values : ℕ → ℕ → List DocketEntry → List LineValue
record_values capture at [] = []
record_values capture at (told ∷ entries) = record_value capture at told ∷ record_values capture (at + 1) entries

-- records in the ranges of their lines, from this number on
abbrev pub ArePrintableRecords : ℕ → ℕ → List DocketEntry → Type 0
ArePrintableRecords capture at [] = Unit {0}
ArePrintableRecords capture at (told ∷ entries) = IsRecord capture at told × ArePrintableRecords capture (at + 1) entries

-- the lines of a capture's records tell each of them
pub records_tell : (capture at : ℕ) (entries : List DocketEntry) → ArePrintableRecords capture at entries → TellsAs (record_lines capture at entries) (record_values capture at entries)
records_tell capture at [] all = tells_none
records_tell capture at (told ∷ entries) all =
    tells_both (record_line capture at told) (record_lines capture (at + 1) entries) (record_value capture at told ∷ []) (record_values capture (at + 1) entries)
    (tells_line (record_line capture at told) (record_value capture at told) (record_is_line capture at told) (record_read capture at told all.0))
    (records_tell capture (at + 1) entries all.1)
