-- Each line of a record is one line.
use Rattle.std.proofs.Common.{◌≡◌, ℕ, ◌+◌, List, [], ◌∷◌, ◌++◌, refl, ◌∙◌, arith}
use Rattle.std.specs.Fmt.{decimal}
use Rattle.rule_text.specs.Canonical.{five_digits}
use Rattle.eval_engine.specs.Dockets.{judgement_of}
use Rattle.eval_engine.specs.declared.docket_entry.DocketEntry.{DocketEntry}
use Rattle.eval_engine.specs.declared.docket_entry.DocketEntry.TheVariants as entry
use Rattle.eval_engine.specs.declared.judgement.Cause.TheVariants.{Rule, Limit, Full}
use Rattle.eval_engine.specs.declared.judgement.Judgement.{Judgement}
use Rattle.report_texts.specs.DocketText.{verdict_word, verdict_code, cause_word, cause_count, judged_text, entry_text, record_line, record_lines}
use Rattle.report_texts.specs.Lines.{lines_in, RecordLinesAreRecords}
use Rattle.report_texts.proofs.SilentWords.{lines-append, number_is_silent, five_digits_are_silent, verdict_is_silent, verdict_code_is_silent, cause_is_silent, cause_count_is_silent}

-- a front without a line's end counts for nothing
behind : (front rest : List ℕ) → lines_in front ≡ 0 → lines_in (front ++ rest) ≡ lines_in rest
behind front rest silent = lines-append front rest ∙ rw silent (omega arith)

judged_line : (j : Judgement) → lines_in (judged_text j) ≡ 1
unfolding judged_text lines_in
judged_line j =
    behind (verdict_word j.verdict) _ (verdict_is_silent j.verdict)
    ∙ behind (verdict_code j.verdict) _ (verdict_code_is_silent j.verdict)
    ∙ behind (five_digits j.rule.number) _ (five_digits_are_silent j.rule.number)
    ∙ behind (decimal j.edition) _ (number_is_silent j.edition)
    ∙ behind (cause_word j.cause) _ (cause_is_silent j.cause)
    ∙ behind (cause_count j.cause) _ (cause_count_is_silent j.cause)

entry_line : (entry : DocketEntry) → lines_in (entry_text entry) ≡ 1
unfolding entry_text lines_in
entry_line entry.Other = refl
entry_line (entry.Malformed kind) = behind (decimal kind) _ (number_is_silent kind)
entry_line (entry.Judged verdict rule edition) = judged_line (judgement_of verdict Rule rule edition)
entry_line (entry.Limited verdict rule states edition) = judged_line (judgement_of verdict (Limit states) rule edition)
entry_line (entry.Full verdict rule states edition) = judged_line (judgement_of verdict (Full states) rule edition)

one_line : (capture at : ℕ) (entry : DocketEntry) → lines_in (record_line capture at entry) ≡ 1
unfolding record_line lines_in
one_line capture at entry = behind (decimal capture) _ (number_is_silent capture) ∙ behind (decimal at) _ (number_is_silent at) ∙ entry_line entry

-- a capture has as many lines of records as records
pub record_lines_are_records : RecordLinesAreRecords
unfolding lines_in
record_lines_are_records capture at [] = refl
record_lines_are_records capture at (entry ∷ entries) =
    let rest = record_lines_are_records capture (at + 1) entries in
    lines-append (record_line capture at entry) (record_lines capture (at + 1) entries) ∙ rw (one_line capture at entry, rest) (omega arith)
