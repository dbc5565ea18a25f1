-- The report's first section: for each capture a line for each record, and one for its end.
use Rattle.std.specs.Prelude.{ℕ, ◌+◌, List, [], ◌∷◌, ◌++◌, codes, decimal}
use Rattle.rule_text.specs.Canonical.{code_word, five_digits}
use Rattle.pcap_read.specs.Words.{word_of}
use Rattle.eval_engine.specs.Dockets.{DocketValue, judgement_of}
use Rattle.eval_engine.specs.declared.docket_entry.DocketEntry.{DocketEntry}
use Rattle.eval_engine.specs.declared.docket_entry.DocketEntry.TheVariants as entry
use Rattle.eval_engine.specs.declared.judgement.Cause.{Cause}
use Rattle.eval_engine.specs.declared.judgement.Cause.TheVariants.{Rule, Limit, Full}
use Rattle.eval_engine.specs.declared.judgement.Judgement.{Judgement}
use Rattle.eval_engine.specs.declared.judgement.Verdict.{Verdict}
use Rattle.eval_engine.specs.declared.judgement.Verdict.TheVariants.{Allow, Deny, Reset, Unreach}
use Rattle.report_texts.specs.declared.capture_end.CaptureEnd.{CaptureEnd}
use Rattle.report_texts.specs.declared.capture_end.CaptureEnd.TheVariants.{Read, Stopped}

-- the word for what happened to the packet (ipfw(8), "RULE ACTIONS")
abbrev pub verdict_word : Verdict → List ℕ
verdict_word Allow = codes "allow"
verdict_word Deny = codes "deny"
verdict_word Reset = codes "reset"
verdict_word (Unreach code) = codes "unreach "

-- the code behind `unreach`; nothing stands behind other verdicts
abbrev pub verdict_code : Verdict → List ℕ
verdict_code Allow = []
verdict_code Deny = []
verdict_code Reset = []
verdict_code (Unreach code) = code_word code

-- the word before a count of states, where that count decided
abbrev pub cause_word : Cause → List ℕ
cause_word Rule = []
cause_word (Limit count) = codes " limit "
cause_word (Full count) = codes " full "

-- the count behind `limit` or `full`
abbrev pub cause_count : Cause → List ℕ
cause_count Rule = []
cause_count (Limit count) = decimal count
cause_count (Full count) = decimal count

-- the verdict, the deciding rule, the edition and the cause
unfoldable pub judged_text : Judgement → List ℕ
judged_text j =
    codes " " ++ (verdict_word j.verdict ++ (verdict_code j.verdict
    ++ (codes " " ++ (five_digits j.rule.number ++ (codes " at " ++ (decimal j.edition
    ++ (cause_word j.cause ++ (cause_count j.cause ++ codes "\n"))))))))

-- what the record is, or how it was judged
unfoldable pub entry_text : DocketEntry → List ℕ
entry_text entry.Other = codes " other\n"
entry_text (entry.Malformed kind) = codes " malformed " ++ (decimal kind ++ codes "\n")
entry_text (entry.Judged verdict rule edition) = judged_text (judgement_of verdict Rule rule edition)
entry_text (entry.Limited verdict rule states edition) = judged_text (judgement_of verdict (Limit states) rule edition)
entry_text (entry.Full verdict rule states edition) = judged_text (judgement_of verdict (Full states) rule edition)

-- the line of a record: the capture's number, the record's, and what is told of it
unfoldable pub record_line : ℕ → ℕ → DocketEntry → List ℕ
record_line capture at entry = decimal capture ++ (codes "." ++ (decimal at ++ entry_text entry))

-- the lines of the records from this number on
abbrev pub record_lines : ℕ → ℕ → List DocketEntry → List ℕ
record_lines capture at [] = []
record_lines capture at (entry ∷ entries) = record_line capture at entry ++ record_lines capture (at + 1) entries

-- how a capture ended
unfoldable pub end_line : ℕ → CaptureEnd → List ℕ
end_line capture (Read records) = codes "end " ++ (decimal capture ++ (codes " records " ++ (decimal records ++ codes "\n")))
end_line capture (Stopped at fault count) = codes "fault " ++ (decimal capture ++ (codes " record " ++ (decimal at ++ (codes " " ++ (word_of fault ++ codes "\n")))))

-- the lines of a capture
abbrev pub capture_text : ℕ → List DocketEntry → CaptureEnd → List ℕ
capture_text capture entries end = record_lines capture 1 entries ++ end_line capture end

-- the lines of the captures from this number on
unfoldable pub captures_text : ℕ → List DocketValue → List CaptureEnd → List ℕ
captures_text capture [] ends = []
captures_text capture (docket ∷ dockets) [] = []
captures_text capture (docket ∷ dockets) (end ∷ ends) = capture_text capture docket.entries end ++ captures_text (capture + 1) dockets ends
