-- The report of a legal record opens: its lines have their form, and its journal is told again.
use Rattle.std.proofs.Common.{◌≡◌, ℕ, zero, suc, ◌+◌, Option, None, List, [], ◌∷◌, ◌++◌, map, sym, ap, ◌∙◌, arith, append_assoc, Some}
use Rattle.std.specs.List.{AllByRecursion}
use Rattle.std.specs.Prelude.{◌≤◌, IfSome}
use Rattle.capture_tracks.specs.Commands.{lines_outcome}
use Rattle.dyn_states.specs.declared.state.State.{State}
use Rattle.eval_engine.specs.Dockets.{DocketValue}
use Rattle.eval_engine.specs.declared.docket_entry.DocketEntry.{DocketEntry}
use Rattle.fw_command.specs.declared.script.Step.{Step}
use Rattle.report_texts.specs.Report.{last_edition}
use Rattle.report_texts.specs.declared.capture_end.CaptureEnd.{CaptureEnd}
use Rattle.report_texts.specs.declared.ends.LineAnswer.{LineAnswer}
use Rattle.fw_rule.specs.declared.command.Command.{Command}
use Rattle.fw_world.specs.Inputs.{Input}
use Rattle.fw_world.specs.Lanes.{LaneStands}
use Rattle.fw_world.specs.RecordValue.{RecordValue}
use Rattle.generation_store.specs.Published.{Published}
use Rattle.report_reading.specs.Readings.{LineValue}
use Rattle.fw_base.specs.Chain.{or_else}
use Rattle.rule_chain.specs.Chain.{IsConfiguration}
use Rattle.rule_chain.specs.Configuration.{Configuration}
use Rattle.state_journal.specs.Journal.{Journal, no_states}
use Rattle.run_audit.proofs.JournalLines.{lane_values}
use Rattle.run_audit.proofs.PrintedJournals.{formed, lanes_apart, journal_replayed, told}
use Rattle.run_audit.proofs.Publishing.{are_numbered}
use Rattle.run_audit.proofs.RecordTexts.{record_values}
use Rattle.run_audit.specs.JournalTold.{ToldJournal, Lawful, no_journal, replay, wrong_line}
use Rattle.run_audit.specs.Opening.{opening_fault, unformed_line, unlawful_line}
use Rattle.run_audit.specs.PrintedJournals.{AreApart, entered, entry_value}
use Rattle.run_audit.specs.ToldReport.{lines_told}
use Rattle.audit_laws.proofs.Askable.{answers as answers_of, asks_are_told, entries_in_range, states}
use Rattle.audit_laws.proofs.CaptureLines.{captures_values, end_lines, end_value}
use Rattle.audit_laws.proofs.Configs.{of_last}
use Rattle.audit_laws.proofs.HeldStates.{IsStateInRange}
use Rattle.audit_laws.proofs.Judgements.{dockets_in_range}
use Rattle.audit_laws.proofs.Lanes.{same_lanes}
use Rattle.audit_laws.proofs.Legals.{entered_entries, entered_object, has_last, lanes_in_range}
use Rattle.audit_laws.proofs.ReportLines.{IsTelling, journal_values, report_tells, report_values}
use Rattle.audit_laws.proofs.ToldNothing.{others}
use Rattle.audit_laws.specs.Completeness.{IsReported, IsToldAgain, ReportsOpen}
use Rattle.audit_laws.specs.Printable.{IsFlowNameText, IsPrintableConfig, IsPrintableRecord, last_names, names_of, report_of}

-- ---- lines that are none of the journal's

both_apart : (front back : List LineValue) → AreApart front → AreApart back → AreApart (front ++ back)
both_apart [] back one other = other
both_apart (value ∷ front) back one other = (one.0, both_apart front back one.1 other)

others_apart : (n : ℕ) → AreApart (others n)
others_apart zero = tt
others_apart (suc n) = (tt, others_apart n)

records_apart : (capture at : ℕ) (entries : List DocketEntry) → AreApart (record_values capture at entries)
records_apart capture at [] = tt
records_apart capture at (entry ∷ entries) = (tt, records_apart capture (at + 1) entries)

captures_apart : (capture : ℕ) (dockets : List DocketValue) (ends : List CaptureEnd) → AreApart (captures_values capture dockets ends)
unfolding captures_values
captures_apart capture [] ends = tt
captures_apart capture (docket ∷ dockets) [] = tt
captures_apart capture (docket ∷ dockets) (end ∷ ends) =
    both_apart (record_values capture 1 docket.entries ++ end_value capture end) (captures_values (capture + 1) dockets ends)
    (both_apart (record_values capture 1 docket.entries) (end_value capture end) (records_apart capture 1 docket.entries) (others_apart (end_lines capture end)))
    (captures_apart (capture + 1) dockets ends)

-- ---- the report

all_lawful : (editions : List Published) → AllByRecursion (λ edition. IsPrintableConfig edition.config) editions → AllByRecursion (λ edition. IsConfiguration edition.config) editions
all_lawful [] all = tt
all_lawful (edition ∷ editions) all = (all.0.lawful, all_lawful editions all.1)

names_last : (last : Option Published) → IfSome last (λ one. IsPrintableConfig one.config) → AllByRecursion IsFlowNameText (names_of last)
names_last None is = tt
names_last (Some edition) is = is.names

-- the names of the last edition
last_named : (inputs : List (List Input)) (r : RecordValue) (ends : List CaptureEnd) (answers : List LineAnswer) → IsPrintableRecord inputs r ends answers → AllByRecursion IsFlowNameText (last_names r)
last_named inputs r ends answers is = names_last (last_edition r.editions) (of_last (λ (edition : Published). IsPrintableConfig edition.config) r.editions is.editions)

numbers_of_states : (held : List State) → AllByRecursion IsStateInRange held → AllByRecursion (λ state. state.rule.number ≤ 65535) held
numbers_of_states [] all = tt
numbers_of_states (state ∷ held) all = (all.0.number, numbers_of_states held all.1)

-- What is read of the report of a record: so many lines tell nothing between its captures and its journal.
pub record IsRead (r : RecordValue) (ends : List CaptureEnd) (report : List ℕ) : Type 0 where
  pub between : ℕ
  pub formed : unformed_line report ≡ None
  pub told : lines_told report ≡ report_values between r ends

-- the report of a legal record is read so
pub report_read : (config : Configuration) (steps : List Step) (inputs : List (List Input)) (r : RecordValue) (ends : List CaptureEnd) (answers : List LineAnswer)
    → IsReported config steps inputs r ends answers → IsRead r ends (report_of r ends answers)
report_read config steps inputs r ends answers is =
    let printable = is.printable in
    let few = printable.captures in
    let last = has_last 1 config (lines_outcome config steps).accepted r.editions is.legal.editions in
    let lanes = lanes_in_range r 1 inputs r.dockets r.tallies r.trackers is.legal.sections (omega arith) (omega (arith, few)) printable.few in
    let (count, _) = same_lanes (LaneStands r) 1 inputs r.dockets r.tallies r.trackers is.legal.lanes in
    let commands : List Command = (lines_outcome config steps).accepted in
    let lawful = all_lawful r.editions printable.editions in
    let named = last_named inputs r ends answers printable in
    let records = printable.records in
    let entries = entries_in_range config commands inputs r is.legal lawful named records printable.captured (omega (arith, count, few)) printable.few in
    let held = numbers_of_states r.journal.object.states (states config commands inputs r is.legal lawful named records printable.captured) in
    let dockets = dockets_in_range r 1 inputs r.dockets r.tallies r.trackers is.legal.lanes (are_numbered config commands r.editions is.legal.editions) lawful printable.few
    (answers_of config commands inputs r is.legal lawful named records printable.captured) printable.records printable.captured in
    let telling : IsTelling r ends (report_of r ends answers) = report_tells r ends answers inputs printable last dockets held entries lanes in
    record {
      between = telling.between;
      formed = formed (report_of r ends answers) (report_values telling.between r ends) telling.tells;
      told = told (report_of r ends answers) (report_values telling.between r ends) telling.tells;
    }

module _ (config : Configuration) (steps : List Step) (inputs : List (List Input)) (r : RecordValue) (ends : List CaptureEnd) (answers : List LineAnswer)
    (is : IsReported config steps inputs r ends answers)
  where
    report : List ℕ
    report = report_of r ends answers

    -- the journal that is told
    own : Journal
    own = entered r.editions r.journal.entries no_journal

    replayed_values : (between : ℕ) → replay r.editions 1 (report_values between r ends) no_journal ≡ Lawful own
    unfolding own
    replayed_values between =
        let askable = asks_are_told config (lines_outcome config steps).accepted inputs r is.legal (all_lawful r.editions is.printable.editions) (last_named inputs r ends answers is.printable) is.printable.records is.printable.captured in
        let front : List LineValue = captures_values 1 r.dockets ends ++ others between in
        let back : List LineValue = lane_values 1 r.dockets r.trackers in
        let same : report_values between r ends ≡ front ++ (map (entry_value (last_names r)) r.journal.entries ++ back) =
        sym (append_assoc (captures_values 1 r.dockets ends) (others between) (journal_values (last_names r) r)) in
        ap (λ (values : List LineValue). replay r.editions 1 values no_journal) same
        ∙ journal_replayed (last_names r) r.editions r.journal.entries front back is.legal.lawful.replied askable
        (both_apart (captures_values 1 r.dockets ends) (others between) (captures_apart 1 r.dockets ends) (others_apart between)) (lanes_apart 1 r.dockets r.trackers)

    told_again : IsRead r ends report → IsToldAgain r report own
    unfolding own
    told_again read = record {
      replayed = ap (λ (values : List LineValue). replay r.editions 1 values no_journal) read.told ∙ replayed_values read.between;
      entries = entered_entries r.editions r.journal.entries no_states no_journal is.legal.lawful.replied;
      object = entered_object r.editions r.journal.entries no_states no_journal is.legal.lawful.replied ∙ sym is.legal.object;
    }

    opens : (opening_fault r.editions (report_of r ends answers) ≡ None) × (journal : Journal) × IsToldAgain r (report_of r ends answers) journal
    unfolding report
    opens =
        let read : IsRead r ends (report_of r ends answers) = report_read config steps inputs r ends answers is in
        let again : IsToldAgain r (report_of r ends answers) own = told_again read in
        let right : opening_fault r.editions (report_of r ends answers) ≡ None =
        ap (λ (o : Option ℕ). or_else o (unlawful_line r.editions (report_of r ends answers))) read.formed ∙ ap (λ (t : ToldJournal). wrong_line t) again.replayed in
        (right, own, again)

-- the report of each legal record opens
pub reports_open : ReportsOpen
reports_open = λ config steps inputs r ends answers is. opens config steps inputs r ends answers is
