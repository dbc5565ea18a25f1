-- The lines of captures, and what they tell.
use Rattle.std.proofs.Common.{ℕ, ◌+◌, ◌^◌, ◌≤◌, List, [], ◌∷◌, ◌++◌, length, arith}
use Rattle.std.specs.List.{AllByRecursion}
use Rattle.eval_engine.specs.Dockets.{DocketValue}
use Rattle.eval_engine.specs.declared.docket_entry.DocketEntry.{DocketEntry}
use Rattle.report_texts.specs.DocketText.{captures_text, end_line, record_lines}
use Rattle.report_texts.specs.declared.capture_end.CaptureEnd.{CaptureEnd}
use Rattle.report_reading.specs.Readings.{LineValue}
use Rattle.report_reading.specs.RecordLines.{IsEntry, IsRecord}
use Rattle.run_audit.proofs.RecordTexts.{ArePrintableRecords, record_values, records_tell}
use Rattle.run_audit.proofs.ToldTexts.{TellsAs, tells_both, tells_none}
use Rattle.audit_laws.proofs.HeadLines.{nothing_of_end}
use Rattle.audit_laws.proofs.Judgements.{IsDocketInRange}
use Rattle.audit_laws.proofs.ToldNothing.{others}

-- a capture's end is one line
abbrev pub end_lines : ℕ → CaptureEnd → ℕ
end_lines capture end = (nothing_of_end capture end).lines

-- what it tells
abbrev pub end_value : ℕ → CaptureEnd → List LineValue
end_value capture end = others (end_lines capture end)

-- what the lines of the captures from this one on tell
unfoldable pub captures_values : ℕ → List DocketValue → List CaptureEnd → List LineValue
captures_values capture [] ends = []
captures_values capture (docket ∷ dockets) [] = []
captures_values capture (docket ∷ dockets) (end ∷ ends) =
    (record_values capture 1 docket.entries ++ end_value capture end) ++ captures_values (capture + 1) dockets ends

records_in_range : (capture at : ℕ) (entries : List DocketEntry) → 1 ≤ capture → capture ≤ 16 → 1 ≤ at → at + length entries ≤ 2 ^ 64 → AllByRecursion IsEntry entries
    → ArePrintableRecords capture at entries
records_in_range capture at [] low high first last all = tt
records_in_range capture at (entry ∷ entries) low high first last all =
    let here : IsRecord capture at entry = record {
      capture_first = low;
      capture_last = high;
      first = first;
      last = omega (arith, last);
      fields = all.0;
    } in
    (here, records_in_range capture (at + 1) entries low high (omega (arith, first)) (omega (arith, last)) all.1)

-- the lines of captures tell their records
pub captures_tell : (capture : ℕ) (dockets : List DocketValue) (ends : List CaptureEnd) → 1 ≤ capture → capture + length dockets ≤ 17 → AllByRecursion IsDocketInRange dockets
    → TellsAs (captures_text capture dockets ends) (captures_values capture dockets ends)
unfolding captures_text captures_values
captures_tell capture [] ends first last all = tells_none
captures_tell capture (docket ∷ dockets) [] first last all = tells_none
captures_tell capture (docket ∷ dockets) (end ∷ ends) first last all =
    let few = all.0.few in
    let within : ArePrintableRecords capture 1 docket.entries = records_in_range capture 1 docket.entries first (omega (arith, last)) (omega arith) (omega (arith, few)) all.0.entries in
    tells_both (record_lines capture 1 docket.entries ++ end_line capture end) (captures_text (capture + 1) dockets ends)
    (record_values capture 1 docket.entries ++ end_value capture end) (captures_values (capture + 1) dockets ends)
    (tells_both (record_lines capture 1 docket.entries) (end_line capture end) (record_values capture 1 docket.entries) (end_value capture end)
    (records_tell capture 1 docket.entries within) (nothing_of_end capture end).tells)
    (captures_tell (capture + 1) dockets ends (omega (arith, first)) (omega (arith, last)) all.1)
