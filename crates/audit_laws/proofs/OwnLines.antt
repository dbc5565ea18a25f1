-- Each record and each lane has its own line in a report, which is the first that names it.
use Rattle.std.proofs.Common.{◌≡◌, ◌≢◌, ℕ, zero, suc, ◌+◌, true, false, Some, None, List, [], ◌∷◌, ◌++◌, length, map, refl, sym, ap, subst, ◌∙◌, arith}
use Rattle.std.specs.Prelude.{slice_get}
use Rattle.eval_engine.specs.Dockets.{DocketValue}
use Rattle.eval_engine.specs.declared.docket_entry.DocketEntry.{DocketEntry}
use Rattle.report_texts.specs.declared.capture_end.CaptureEnd.{CaptureEnd}
use Rattle.fw_world.specs.RecordValue.{RecordValue}
use Rattle.report_reading.specs.Readings.{LineValue}
use Rattle.report_reading.specs.RecordLines.{printed}
use Rattle.report_reading.specs.declared.lane_lines.LaneLine.{LaneLine}
use Rattle.report_reading.specs.declared.record_lines.RecordLine.{RecordLine}
use Rattle.state_journal.specs.declared.entry.Entry.{Entry}
use Rattle.state_journal.specs.declared.entry.Entry.TheVariants.{Publish, Ask}
use Rattle.run_audit.proofs.JournalLines.{lane_values}
use Rattle.run_audit.proofs.RecordTexts.{record_values}
use Rattle.run_audit.specs.PrintedJournals.{entry_value}
use Rattle.audit_laws.proofs.CaptureLines.{captures_values, end_lines, end_value}
use Rattle.audit_laws.proofs.Lists.{other_number}
use Rattle.audit_laws.proofs.Naming.{first_lane, first_record, is_named, lane_behind, record_before, record_behind}
use Rattle.audit_laws.proofs.ReportLines.{journal_values, report_values}
use Rattle.audit_laws.proofs.ToldNothing.{others}
use Rattle.audit_laws.specs.Printable.{last_names}
use Rattle.report_reading.proofs.Words.{same_number}

-- ---- records

-- the line of an entry
abbrev pub own_line : ℕ → ℕ → DocketEntry → RecordLine
own_line lane at entry = record { capture = lane; at = at; entry = printed entry }

others_name_none : (lane at n : ℕ) → first_record lane at (others n) ≡ None
others_name_none lane at zero = refl
others_name_none lane at (suc n) = others_name_none lane at n

-- lines of records of another lane
other_lane : (lane at capture start : ℕ) (entries : List DocketEntry) → capture ≢ lane → first_record lane at (record_values capture start entries) ≡ None
other_lane lane at capture start [] other = refl
other_lane lane at capture start (entry ∷ entries) other = rw (other_number capture lane other) (other_lane lane at capture (start + 1) entries other)

-- lines of records that stand before it
own_named : (lane at : ℕ) (entry : DocketEntry) → is_named lane at (own_line lane at entry) ≡ true
own_named lane at entry = rw (same_number lane, same_number at) refl

other_record : (lane at start : ℕ) (entry : DocketEntry) → start ≢ at → is_named lane at (own_line lane start entry) ≡ false
other_record lane at start entry other = rw (same_number lane, other_number start at other) refl

own_record : (lane start k : ℕ) (entries : List DocketEntry) (entry : DocketEntry) → slice_get entries k ≡ Some entry
    → first_record lane (start + k) (record_values lane start entries) ≡ Some (own_line lane (start + k) entry)
own_record lane start k [] entry is = absurd (cc)
own_record lane start zero (first ∷ entries) entry is =
    let same : first ≡ entry = cc in
    let here : start + 0 ≡ start = omega arith in
    let found : first_record lane start (record_values lane start (first ∷ entries)) ≡ Some (own_line lane start entry) =
    rw (own_named lane start first) (ap (λ (e : DocketEntry). Some (own_line lane start e)) same) in
    subst (λ (n : ℕ). first_record lane n (record_values lane start (first ∷ entries)) ≡ Some (own_line lane n entry)) (sym here) found
own_record lane start (suc k) (first ∷ entries) entry is =
    let place : start + 1 + k ≡ start + suc k = omega arith in
    let before : start ≢ start + suc k = λ same. absurd (omega (arith, same)) in
    let found : first_record lane (start + suc k) (record_values lane (start + 1) entries) ≡ Some (own_line lane (start + suc k) entry) =
    subst (λ (n : ℕ). first_record lane n (record_values lane (start + 1) entries) ≡ Some (own_line lane n entry)) place (own_record lane (start + 1) k entries entry is) in
    rw (other_record lane (start + suc k) start first before) found

-- a record's own line is the first that names it
pub in_captures : (capture l k : ℕ) (dockets : List DocketValue) (ends : List CaptureEnd) (docket : DocketValue) (entry : DocketEntry) → length ends ≡ length dockets
    → slice_get dockets l ≡ Some docket → slice_get docket.entries k ≡ Some entry
    → first_record (capture + l) (1 + k) (captures_values capture dockets ends) ≡ Some (own_line (capture + l) (1 + k) entry)
unfolding captures_values
in_captures capture l k [] ends docket entry many is found = absurd (cc)
in_captures capture l k (first ∷ dockets) [] docket entry many is found = absurd (omega (arith, many))
in_captures capture zero k (first ∷ dockets) (end ∷ ends) docket entry many is found =
    let same : first ≡ docket = cc in
    let here : capture + 0 ≡ capture = omega arith in
    let there : slice_get first.entries k ≡ Some entry = ap (λ (d : DocketValue). slice_get d.entries k) same ∙ found in
    let front : List LineValue = record_values capture 1 first.entries ++ end_value capture end in
    let own : first_record capture (1 + k) (front ++ captures_values (capture + 1) dockets ends) ≡ Some (own_line capture (1 + k) entry) =
    record_before capture (1 + k) front (captures_values (capture + 1) dockets ends) (own_line capture (1 + k) entry)
    (record_before capture (1 + k) (record_values capture 1 first.entries) (end_value capture end) (own_line capture (1 + k) entry) (own_record capture 1 k first.entries entry there)) in
    subst (λ (n : ℕ). first_record n (1 + k) (front ++ captures_values (capture + 1) dockets ends) ≡ Some (own_line n (1 + k) entry)) (sym here) own
in_captures capture (suc l) k (first ∷ dockets) (end ∷ ends) docket entry many is found =
    let place : capture + 1 + l ≡ capture + suc l = omega arith in
    let other : capture ≢ capture + suc l = λ same. absurd (omega (arith, same)) in
    let lane : ℕ = capture + suc l in
    let front : List LineValue = record_values capture 1 first.entries ++ end_value capture end in
    let none : first_record lane (1 + k) front ≡ None =
    record_behind lane (1 + k) (record_values capture 1 first.entries) (end_value capture end) (other_lane lane (1 + k) capture 1 first.entries other)
    ∙ others_name_none lane (1 + k) (end_lines capture end) in
    let more : first_record lane (1 + k) (captures_values (capture + 1) dockets ends) ≡ Some (own_line lane (1 + k) entry) =
    subst (λ (n : ℕ). first_record n (1 + k) (captures_values (capture + 1) dockets ends) ≡ Some (own_line n (1 + k) entry)) place
    (in_captures (capture + 1) l k dockets ends docket entry (omega (arith, many)) is found) in
    record_behind lane (1 + k) front (captures_values (capture + 1) dockets ends) none ∙ more

-- so it is in the whole report
pub in_report : (between : ℕ) (r : RecordValue) (ends : List CaptureEnd) (l k : ℕ) (docket : DocketValue) (entry : DocketEntry) → length ends ≡ length r.dockets
    → slice_get r.dockets l ≡ Some docket → slice_get docket.entries k ≡ Some entry
    → first_record (1 + l) (1 + k) (report_values between r ends) ≡ Some (own_line (1 + l) (1 + k) entry)
in_report between r ends l k docket entry many is found =
    record_before (1 + l) (1 + k) (captures_values 1 r.dockets ends) (others between ++ journal_values (last_names r) r) (own_line (1 + l) (1 + k) entry)
    (in_captures 1 l k r.dockets ends docket entry many is found)

-- ---- lanes

others_name_no_lane : (lane n : ℕ) → first_lane lane (others n) ≡ None
others_name_no_lane lane zero = refl
others_name_no_lane lane (suc n) = others_name_no_lane lane n

records_name_no_lane : (lane capture at : ℕ) (entries : List DocketEntry) → first_lane lane (record_values capture at entries) ≡ None
records_name_no_lane lane capture at [] = refl
records_name_no_lane lane capture at (entry ∷ entries) = records_name_no_lane lane capture (at + 1) entries

captures_name_no_lane : (lane capture : ℕ) (dockets : List DocketValue) (ends : List CaptureEnd) → first_lane lane (captures_values capture dockets ends) ≡ None
unfolding captures_values
captures_name_no_lane lane capture [] ends = refl
captures_name_no_lane lane capture (docket ∷ dockets) [] = refl
captures_name_no_lane lane capture (docket ∷ dockets) (end ∷ ends) =
    lane_behind lane (record_values capture 1 docket.entries ++ end_value capture end) (captures_values (capture + 1) dockets ends)
    (lane_behind lane (record_values capture 1 docket.entries) (end_value capture end) (records_name_no_lane lane capture 1 docket.entries) ∙ others_name_no_lane lane (end_lines capture end))
    ∙ captures_name_no_lane lane (capture + 1) dockets ends

entries_name_no_lane : (lane : ℕ) (names : List (List ℕ)) (entries : List Entry) → first_lane lane (map (entry_value names) entries) ≡ None
entries_name_no_lane lane names [] = refl
entries_name_no_lane lane names (Publish number ∷ entries) = entries_name_no_lane lane names entries
entries_name_no_lane lane names (Ask by op reply at ∷ entries) = entries_name_no_lane lane names entries

-- the line of a lane
abbrev pub lane_line_of : ℕ → DocketValue → ℕ → LaneLine
lane_line_of lane docket tracker = record { lane = lane; refused = docket.refused; tracker = tracker }

in_lanes : (first l : ℕ) (dockets : List DocketValue) (trackers : List ℕ) (docket : DocketValue) (tracker : ℕ) → slice_get dockets l ≡ Some docket → slice_get trackers l ≡ Some tracker
    → first_lane (first + l) (lane_values first dockets trackers) ≡ Some (lane_line_of (first + l) docket tracker)
in_lanes first l [] trackers docket tracker is tracked = absurd (cc)
in_lanes first l (one ∷ dockets) [] docket tracker is tracked = absurd (cc)
in_lanes first zero (one ∷ dockets) (word ∷ trackers) docket tracker is tracked =
    let same : one ≡ docket = cc in
    let told : word ≡ tracker = cc in
    let here : first + 0 ≡ first = omega arith in
    let found : first_lane first (lane_values first (one ∷ dockets) (word ∷ trackers)) ≡ Some (lane_line_of first docket tracker) =
    rw (same_number first) (ap (λ (d : DocketValue). Some (lane_line_of first d word)) same ∙ ap (λ (n : ℕ). Some (lane_line_of first docket n)) told) in
    subst (λ (n : ℕ). first_lane n (lane_values first (one ∷ dockets) (word ∷ trackers)) ≡ Some (lane_line_of n docket tracker)) (sym here) found
in_lanes first (suc l) (one ∷ dockets) (word ∷ trackers) docket tracker is tracked =
    let place : first + 1 + l ≡ first + suc l = omega arith in
    let other : first ≢ first + suc l = λ same. absurd (omega (arith, same)) in
    let found : first_lane (first + suc l) (lane_values (first + 1) dockets trackers) ≡ Some (lane_line_of (first + suc l) docket tracker) =
    subst (λ (n : ℕ). first_lane n (lane_values (first + 1) dockets trackers) ≡ Some (lane_line_of n docket tracker)) place (in_lanes (first + 1) l dockets trackers docket tracker is tracked) in
    rw (other_number first (first + suc l) other) found

-- a lane's own line is the first that names it
pub lane_in_report : (between : ℕ) (r : RecordValue) (ends : List CaptureEnd) (l : ℕ) (docket : DocketValue) (tracker : ℕ) → slice_get r.dockets l ≡ Some docket → slice_get r.trackers l ≡ Some tracker
    → first_lane (1 + l) (report_values between r ends) ≡ Some (lane_line_of (1 + l) docket tracker)
lane_in_report between r ends l docket tracker is tracked =
    let entries : List LineValue = map (entry_value (last_names r)) r.journal.entries in
    let lanes : List LineValue = lane_values 1 r.dockets r.trackers in
    lane_behind (1 + l) (captures_values 1 r.dockets ends) (others between ++ (entries ++ lanes)) (captures_name_no_lane (1 + l) 1 r.dockets ends)
    ∙ lane_behind (1 + l) (others between) (entries ++ lanes) (others_name_no_lane (1 + l) between)
    ∙ lane_behind (1 + l) entries lanes (entries_name_no_lane (1 + l) (last_names r) r.journal.entries)
    ∙ in_lanes 1 l r.dockets r.trackers docket tracker is tracked
