-- A record that is rebuilt from the report of a legal record has that report again.
use Rattle.std.proofs.Common.{◌≡◌, ℕ, suc, ◌+◌, Option, Some, None, List, [], ◌∷◌, length, map, refl, sym, ap, subst, ◌∙◌, arith}
use Rattle.std.specs.Arc.{arc_value}
use Rattle.std.specs.Prelude.{IsSomeAnd, slice_get}
use Rattle.counter_book.specs.Counts.{counted_under}
use Rattle.counter_book.specs.declared.tally.Count.{Count}
use Rattle.eval_engine.specs.Dockets.{DocketValue}
use Rattle.fw_command.specs.declared.script.Step.{Step}
use Rattle.report_texts.specs.declared.capture_end.CaptureEnd.{CaptureEnd}
use Rattle.report_texts.specs.declared.ends.LineAnswer.{LineAnswer}
use Rattle.fw_world.specs.Asks.{lane_asks}
use Rattle.fw_world.specs.Inputs.{Input}
use Rattle.fw_world.specs.Lanes.{EachLane, LaneStands}
use Rattle.fw_world.specs.RecordValue.{RecordValue}
use Rattle.fw_world.specs.Standing.{StandFor}
use Rattle.generation_store.specs.Published.{Published}
use Rattle.report_reading.specs.Readings.{LineValue}
use Rattle.report_reading.specs.declared.lane_lines.LaneLine.{LaneLine}
use Rattle.rule_chain.specs.Configuration.{Configuration}
use Rattle.state_journal.specs.declared.entry.Entry.{Entry}
use Rattle.run_audit.specs.Audit.{AreSectionsTold, IsRebuilt, entries_rebuilt, rebuilt_record, told_by_rebuilt}
use Rattle.run_audit.specs.JudgingValues.{entries_of_each}
use Rattle.run_audit.specs.Judging.{ToldValue}
use Rattle.run_audit.specs.OtherLines.{lane_naming}
use Rattle.run_audit.specs.ToldReport.{lines_told}
use Rattle.run_audit.specs.declared.rebuilt.Rebuilt.{Rebuilt}
use Rattle.audit_laws.proofs.Faultless.{own_editions, own_journal, own_records}
use Rattle.audit_laws.proofs.Lanes.{same_lanes}
use Rattle.audit_laws.proofs.Naming.{first_lane, lane_found}
use Rattle.audit_laws.proofs.OneRecord.{one_told}
use Rattle.audit_laws.proofs.Opening.{IsRead, report_read}
use Rattle.audit_laws.proofs.OwnLines.{lane_in_report, lane_line_of}
use Rattle.audit_laws.proofs.SamePrint.{CountAlike, SayAlike, same_report}
use Rattle.audit_laws.specs.Completeness.{IsReported, IsToldAgain, RebuiltRecordsPrintAlike}
use Rattle.audit_laws.specs.Printable.{report_of}

-- ---- sections

-- a docket and a tracker that a line tells of
record AreTold (one : LaneLine) (docket : DocketValue) (tracker : ℕ) : Type 0 where
  refused : docket.refused ≡ one.refused
  tracked : tracker ≡ one.tracker

told_alike : {X : Type 0} (line_of : X → LaneLine) (o : Option X) (docket : DocketValue) (tracker : ℕ) (line : LaneLine) → IsSomeAnd o (λ one. ((line_of one).refused ≡ docket.refused) × ((line_of one).tracker ≡ tracker))
    → IsSomeAnd o (λ one. line_of one ≡ line) → AreTold line docket tracker
told_alike line_of None docket tracker line told own = absurd told
told_alike line_of (Some one) docket tracker line told own = record {
  refused = sym told.0 ∙ ap (λ (l : LaneLine). l.refused) own;
  tracked = sym told.1 ∙ ap (λ (l : LaneLine). l.tracker) own;
}

-- the line that names a lane is that of its docket and its tracker
abbrev OwnLines : ToldValue → ℕ → List DocketValue → List ℕ → Type 0
OwnLines told lane dockets trackers = (l : ℕ) (docket : DocketValue) (tracker : ℕ) → slice_get dockets l ≡ Some docket → slice_get trackers l ≡ Some tracker
    → IsSomeAnd (lane_naming told (lane + l)) (λ one. one.told ≡ lane_line_of (lane + l) docket tracker)

same_sections : (told : ToldValue) (lane : ℕ) (a : List DocketValue) (words : List ℕ) (b : List DocketValue) (others : List ℕ) → AreSectionsTold told lane a words → entries_of_each a ≡ entries_of_each b
    → length others ≡ length b → OwnLines told lane b others → (a ≡ b) × (words ≡ others)
same_sections told lane [] [] [] [] sections same many own = (refl, refl)
same_sections told lane [] [] [] (other ∷ others) sections same many own = absurd (omega (arith, many))
same_sections told lane [] [] (second ∷ b) others sections same many own = absurd (cc)
same_sections told lane [] (word ∷ words) b others sections same many own = absurd sections
same_sections told lane (first ∷ a) [] b others sections same many own = absurd sections
same_sections told lane (first ∷ a) (word ∷ words) [] others sections same many own = absurd (cc)
same_sections told lane (first ∷ a) (word ∷ words) (second ∷ b) [] sections same many own = absurd (omega (arith, many))
same_sections told lane (first ∷ a) (word ∷ words) (second ∷ b) (other ∷ others) sections same many own =
    let entries : first.entries ≡ second.entries = cc in
    let rest : entries_of_each a ≡ entries_of_each b = cc in
    let here : lane + 0 ≡ lane = omega arith in
    let line : IsSomeAnd (lane_naming told lane) (λ one. one.told ≡ lane_line_of lane second other) =
    subst (λ (n : ℕ). IsSomeAnd (lane_naming told n) (λ one. one.told ≡ lane_line_of n second other)) here (own 0 second other refl refl) in
    let alike = told_alike (λ one. one.told) (lane_naming told lane) first word (lane_line_of lane second other) sections.0 line in
    let refused = alike.refused in
    let docket : first ≡ second = λ i. record { entries = entries i; refused = refused i } in
    let (dockets, trackers) = same_sections told (lane + 1) a words b others sections.1 rest (omega (arith, many))
    (λ l docket_there tracker is tracked. subst (λ (n : ℕ). IsSomeAnd (lane_naming told n) (λ one. one.told ≡ lane_line_of n docket_there tracker)) (next l) (own (suc l) docket_there tracker is tracked)) in (
      ap (λ (d : DocketValue). d ∷ a) docket ∙ ap (λ (ds : List DocketValue). second ∷ ds) dockets,
      ap (λ (n : ℕ). n ∷ words) alike.tracked ∙ ap (λ (ns : List ℕ). other ∷ ns) trackers,
    )
  where
    next : (l : ℕ) → lane + suc l ≡ lane + 1 + l
    next l = omega arith

-- ---- tallies

-- each lane stands for its records, beside these editions and this journal
abbrev AllStand : List Published → List Entry → ℕ → List (List Input) → List DocketValue → List (List Count) → List ℕ → Type 0
AllStand editions entries = EachLane (λ lane inputs docket tally tracker. StandFor editions (lane_asks lane entries) docket tally inputs)

same_tallies : (counter : ℕ) (editions : List Published) (entries : List Entry) (lane : ℕ) (inputs : List (List Input)) (dockets : List DocketValue) (a b : List (List Count)) (words others : List ℕ)
    → AllStand editions entries lane inputs dockets a words → AllStand editions entries lane inputs dockets b others
    → map (λ (tally : List Count). counted_under tally counter) a ≡ map (λ (tally : List Count). counted_under tally counter) b
same_tallies counter editions entries lane inputs dockets [] [] words others one other = refl
same_tallies counter editions entries lane [] [] (first ∷ a) b words others one other = absurd one
same_tallies counter editions entries lane [] (docket ∷ dockets) (first ∷ a) b words others one other = absurd one
same_tallies counter editions entries lane (own ∷ inputs) [] (first ∷ a) b words others one other = absurd one
same_tallies counter editions entries lane (own ∷ inputs) (docket ∷ dockets) (first ∷ a) b [] others one other = absurd one
same_tallies counter editions entries lane (own ∷ inputs) (docket ∷ dockets) (first ∷ a) [] (word ∷ words) others one other = absurd other
same_tallies counter editions entries lane (own ∷ inputs) (docket ∷ dockets) (first ∷ a) (second ∷ b) (word ∷ words) [] one other = absurd other
same_tallies counter editions entries lane [] [] [] (second ∷ b) words others one other = absurd other
same_tallies counter editions entries lane [] (docket ∷ dockets) [] (second ∷ b) words others one other = absurd other
same_tallies counter editions entries lane (own ∷ inputs) [] [] (second ∷ b) words others one other = absurd other
same_tallies counter editions entries lane (own ∷ inputs) (docket ∷ dockets) [] (second ∷ b) words others one other = absurd one
same_tallies counter editions entries lane (own ∷ inputs) (docket ∷ dockets) (first ∷ a) (second ∷ b) (word ∷ words) (next ∷ others) one other =
    ap (λ (c : Count). c ∷ map (λ (tally : List Count). counted_under tally counter) a) (one.0.tallied counter ∙ sym (other.0.tallied counter))
    ∙ ap (λ (cs : List Count). counted_under second counter ∷ cs) (same_tallies counter editions entries (lane + 1) inputs dockets a b words others one.1 other.1)

-- ---- the report

module _ (config : Configuration) (steps : List Step) (inputs : List (List Input)) (r : RecordValue) (ends : List CaptureEnd) (answers : List LineAnswer)
    (is : IsReported config steps inputs r ends answers) (rebuilt : Rebuilt) (again : IsRebuilt config steps (report_of r ends answers) inputs rebuilt)
  where
    -- the editions that were rebuilt are the record's
    made : map arc_value rebuilt.editions.items ≡ r.editions
    made = own_editions config steps inputs r ends answers is (map arc_value rebuilt.editions.items) again.opened.made

    -- so are the journal's entries and states
    journal : IsToldAgain r (report_of r ends answers) rebuilt.book
    journal = own_journal config steps inputs r ends answers is (map arc_value rebuilt.editions.items) rebuilt.book again.opened

    same_dockets : entries_of_each rebuilt.dockets.items ≡ entries_of_each r.dockets
    same_dockets = one_told (told_by_rebuilt (report_of r ends answers) rebuilt) 1 inputs (entries_rebuilt rebuilt) (entries_of_each r.dockets) again.told
        (own_records config steps inputs r ends answers is (map arc_value rebuilt.editions.items) rebuilt.book again.opened)

    own_lines : OwnLines (told_by_rebuilt (report_of r ends answers) rebuilt) 1 r.dockets r.trackers
    own_lines l docket tracker found tracked =
        let read : IsRead r ends (report_of r ends answers) = report_read config steps inputs r ends answers is in
        let first : first_lane (1 + l) (lines_told (report_of r ends answers)) ≡ Some (lane_line_of (1 + l) docket tracker) =
        ap (λ (values : List LineValue). first_lane (1 + l) values) read.told ∙ lane_in_report read.between r ends l docket tracker found tracked in
        lane_found (1 + l) 1 (lines_told (report_of r ends answers)) (lane_line_of (1 + l) docket tracker) first

    sections : (rebuilt.dockets.items ≡ r.dockets) × (rebuilt.trackers.items ≡ r.trackers)
    sections =
        let (_, many) = same_lanes (LaneStands r) 1 inputs r.dockets r.tallies r.trackers is.legal.lanes in
        same_sections (told_by_rebuilt (report_of r ends answers) rebuilt) 1 rebuilt.dockets.items rebuilt.trackers.items r.dockets r.trackers again.sections same_dockets many own_lines

    counted : CountAlike rebuilt.tallies.items r.tallies
    counted counter =
        let first : AllStand (map arc_value rebuilt.editions.items) rebuilt.book.entries 1 inputs rebuilt.dockets.items rebuilt.tallies.items rebuilt.trackers.items = again.legal.lanes in
        let second : AllStand r.editions rebuilt.book.entries 1 inputs rebuilt.dockets.items rebuilt.tallies.items rebuilt.trackers.items =
        subst (λ (es : List Published). AllStand es rebuilt.book.entries 1 inputs rebuilt.dockets.items rebuilt.tallies.items rebuilt.trackers.items) made first in
        let third : AllStand r.editions r.journal.entries 1 inputs rebuilt.dockets.items rebuilt.tallies.items rebuilt.trackers.items =
        subst (λ (es : List Entry). AllStand r.editions es 1 inputs rebuilt.dockets.items rebuilt.tallies.items rebuilt.trackers.items) journal.entries second in
        let fourth : AllStand r.editions r.journal.entries 1 inputs r.dockets rebuilt.tallies.items rebuilt.trackers.items =
        subst (λ (ds : List DocketValue). AllStand r.editions r.journal.entries 1 inputs ds rebuilt.tallies.items rebuilt.trackers.items) sections.0 third in
        same_tallies counter r.editions r.journal.entries 1 inputs r.dockets rebuilt.tallies.items r.tallies rebuilt.trackers.items r.trackers fourth is.legal.lanes

    alike : SayAlike (rebuilt_record rebuilt) r
    alike = record {
      editions = made;
      entries = journal.entries;
      object = journal.object;
      dockets = sections.0;
      counted = counted;
      trackers = sections.1;
      hits = sym is.printable.uncached;
    }

-- a record that is rebuilt from the report of a legal record has that report
pub rebuilt_records_print_alike : RebuiltRecordsPrintAlike
rebuilt_records_print_alike = λ config steps inputs r ends answers is rebuilt again.
    same_report (rebuilt_record rebuilt) r (alike config steps inputs r ends answers is rebuilt again) ends answers
