-- Replays of the same script and captures have one record, one status and one text.
use Rattle.std.proofs.Common.{◌≡◌, ℕ, ◌≤◌, Bool, true, false, ◌||◌, List, [], ◌∷◌, ◌++◌, Option, Result, Ok, Err, length, map, refl, sym, ap, ◌∙◌, subst, arith}
use Rattle.std.specs.List.{list_any}
use Rattle.report_texts.specs.CaptureEnds.{is_failed_read, is_unread}
use Rattle.report_texts.specs.Report.{report_text}
use Rattle.report_texts.specs.Summary.{summary_text}
use Rattle.report_texts.specs.declared.capture_end.CaptureEnd.{CaptureEnd}
use Rattle.report_texts.specs.declared.capture_end.CaptureEnd.TheVariants.{Read, Stopped}
use Rattle.report_texts.specs.declared.ends.Ends.{Ends}
use Rattle.report_texts.specs.declared.ends.LineAnswer.{LineAnswer}
use Rattle.fw_world.specs.RecordValue.{RecordValue}
use Rattle.record_laws.specs.OneReplay.{IsSameRecord}
use Rattle.record_laws.specs.SameCaptures.{HaveSameContents, HaveNoFailedRead, printed_end}
use Rattle.record_laws.specs.VerdictLines.{recorded_with}
use Rattle.record_laws.proofs.OneReplay.{contents_determine_reports}
use Rattle.replay_driver.proofs.Statuses.{status_by, by_tests}
use Rattle.replay_setup.specs.FirstEdition.{first_edition}
use Rattle.replay_driver.specs.Found.{IsReplayOf}
use Rattle.capture_tracks.specs.Reported.{report_record}
use Rattle.replay_driver.specs.RunResult.{summary_of, report_status, is_stopped, is_refused}
use Rattle.command_words.specs.declared.invocation.Mode.TheVariants.{Serial}
use Rattle.serial_replay.specs.Replay.{IsSerialReplay}
use Rattle.replay_setup.specs.FirstEdition.{pace_of}
use Rattle.capture_tracks.specs.declared.opened.OpenedCapture.{OpenedCapture}

-- ---- results

-- a result is one value
pub ok_one : {A E : Type 0} (r : Result A E) (x y : A) → r ≡ Ok x → r ≡ Ok y → x ≡ y
ok_one r x y a b = cc

-- a result is one error
pub err_one : {A E : Type 0} (r : Result A E) (x y : E) → r ≡ Err x → r ≡ Err y → x ≡ y
err_one r x y a b = cc

-- a result isn't a value and an error
pub not_both : {A E : Type 0} (r : Result A E) (x : A) (y : E) → r ≡ Ok x → r ≡ Err y → ⊥
not_both r x y a b = absurd (cc)

-- what holds of a value holds of its equal
moved : {A : Type 0} {x y : A} → x ≡ y → (P : A → Type 0) → P x → P y
moved same P h = subst P same h

-- ---- statuses

-- where the status is at most 3 the first of its three tests doesn't hold
read_tests : (u s r : Bool) → status_by u s r ≤ 3 → u ≡ false
read_tests true s r few = absurd (omega arith)
read_tests false s r few = refl

-- where the status is at most 3 no capture was ended by a failing read
pub no_failed_read : (captures : List CaptureEnd) (answers : List LineAnswer) → report_status captures answers ≤ 3 → HaveNoFailedRead captures
no_failed_read captures answers few = read_tests _ _ _ (subst (λ (n : ℕ). n ≤ 3) (by_tests captures answers) few)

-- whether an end is unread is seen in what is printed of it
printed_unread : (ends : List CaptureEnd) → list_any is_unread (map printed_end ends) ≡ list_any is_unread ends
printed_unread [] = refl
printed_unread (Read records ∷ ends) = printed_unread ends
printed_unread (Stopped at fault count ∷ ends) = ap (λ (b : Bool). is_failed_read fault || b) (printed_unread ends)

-- whether it is stopped, too
printed_stopped : (ends : List CaptureEnd) → list_any is_stopped (map printed_end ends) ≡ list_any is_stopped ends
printed_stopped [] = refl
printed_stopped (Read records ∷ ends) = printed_stopped ends
printed_stopped (Stopped at fault count ∷ ends) = refl

-- of the same tests the same status comes
same_tests : {u v s t : Bool} (refused : Bool) → u ≡ v → s ≡ t → status_by u s refused ≡ status_by v t refused
same_tests refused unread stopped = λ i. status_by (unread i) (stopped i) refused

-- the status is one of what is printed of the ends
printed_status : (ends : List CaptureEnd) (answers : List LineAnswer) → report_status ends answers ≡ report_status (map printed_end ends) answers
printed_status ends answers =
    by_tests ends answers
    ∙ same_tests (list_any is_refused answers) (sym (printed_unread ends)) (sym (printed_stopped ends))
    ∙ sym (by_tests (map printed_end ends) answers)

-- ---- replays

-- Two replays kept records that say the same, and have the same answers and one report; their ends are printed alike.
pub record IsAlike (kept other : RecordValue) (ends otherEnds : Ends) : Type 0 where
  pub recorded : IsSameRecord kept other
  pub printed : map printed_end ends.captures ≡ map printed_end otherEnds.captures
  pub answers : ends.answers ≡ otherEnds.answers
  pub text : (journal : Bool) → report_text (report_record kept) ends.captures ends.answers journal ≡ report_text (report_record other) otherEnds.captures otherEnds.answers journal

-- the status of the same ends and answers
status_parts : {c d : List CaptureEnd} {a b : List LineAnswer} → c ≡ d → a ≡ b → report_status c a ≡ report_status d b
status_parts ends answers = λ i. report_status (ends i) (answers i)

-- the report of the same record, ends and answers
text_parts : {r s : RecordValue} {c d : List CaptureEnd} {a b : List LineAnswer} (journal : Bool) → r ≡ s → c ≡ d → a ≡ b → report_text (report_record r) c a journal ≡ report_text (report_record s) d b journal
text_parts journal kept ends answers = λ i. report_text (report_record (kept i)) (ends i) (answers i) journal

-- the statuses are the same
pub same_status : (kept other : RecordValue) (ends otherEnds : Ends) → IsAlike kept other ends otherEnds → report_status ends.captures ends.answers ≡ report_status otherEnds.captures otherEnds.answers
same_status kept other ends otherEnds alike =
    printed_status ends.captures ends.answers ∙ status_parts alike.printed alike.answers ∙ sym (printed_status otherEnds.captures otherEnds.answers)

-- the summaries are the same
pub same_summary : (r s : RecordValue) → IsSameRecord r s → summary_of r ≡ summary_of s
same_summary r s same =
    let editions = same.editions in
    let journal = same.journal in
    let dockets = same.dockets in
    λ i. summary_text (dockets i) (length (editions i)) (length (journal i).entries) (length (journal i).object.states)

module _ {S T : Type 0} (left : S → Option (List ℕ)) (failures : S → ℕ) (otherLeft : T → Option (List ℕ)) (otherFailures : T → ℕ) where
  -- serial replays of the same script and of captures whose sources tell the same come to the same
  pub same_replay : (cache : Option ℕ) (bytes otherBytes : List ℕ) (opened : List (OpenedCapture S)) (others : List (OpenedCapture T)) (kept other : RecordValue) (ends otherEnds : Ends) (sources : List S) (otherSources : List T)
      → IsReplayOf left failures Serial cache bytes opened kept ends sources → IsReplayOf otherLeft otherFailures Serial cache otherBytes others other otherEnds otherSources
      → bytes ≡ otherBytes → HaveSameContents left otherLeft opened others → HaveNoFailedRead ends.captures → HaveNoFailedRead otherEnds.captures → IsAlike kept other ends otherEnds
  same_replay cache bytes otherBytes opened others kept other ends otherEnds sources otherSources mine yours script captures read otherRead =
      let r = mine.beside.replayed in
      let s = yours.beside.replayed in
      let edition = ok_one (first_edition (pace_of Serial) otherBytes) yours.edition mine.edition yours.first (ap (first_edition (pace_of Serial)) (sym script) ∙ mine.first) in
      let replay = moved edition (λ e. IsSerialReplay otherLeft otherFailures e.config e.live cache others s) (record { replay = yours.beside.replay; ordered = yours.beside.ordered }) in
      let (replayed, report) = contents_determine_reports left failures otherLeft otherFailures mine.edition.config mine.edition.live cache opened others r s (record { replay = mine.beside.replay; ordered = mine.beside.ordered }) replay captures
      (subst (λ (l : List CaptureEnd). HaveNoFailedRead l) mine.beside.captures_ended read) (subst (λ (l : List CaptureEnd). HaveNoFailedRead l) yours.beside.captures_ended otherRead) in
      let before : mine.edition.answers ≡ yours.edition.answers = let back = sym edition in λ i. (back i).answers in
      let answers : ends.answers ≡ otherEnds.answers =
      mine.beside.lines_answered ∙ ap (λ (l : List LineAnswer). mine.edition.answers ++ l) replayed.answers ∙ ap (λ (l : List LineAnswer). l ++ s.ends.answers) before ∙ sym yours.beside.lines_answered in
      record {
        recorded = subst (λ (x : RecordValue). IsSameRecord x other) (sym mine.beside.recorded) (subst (λ (x : RecordValue). IsSameRecord r.record x) (sym yours.beside.recorded) replayed.recorded);
        printed = ap (map printed_end) mine.beside.captures_ended ∙ report.ends ∙ ap (map printed_end) (sym yours.beside.captures_ended);
        answers = answers;
        text = λ journal.
            text_parts journal mine.beside.recorded mine.beside.captures_ended refl ∙ report.text r.record.hits ends.answers journal
            ∙ ap (λ hits. report_text (recorded_with hits s.record) s.ends.captures ends.answers journal) replayed.recorded.hits ∙ text_parts journal (sym yours.beside.recorded) (sym yours.beside.captures_ended) answers;
      }
