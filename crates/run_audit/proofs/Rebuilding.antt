-- What is rebuilt at an audit's end is the record that its report is of; or the line that is found is the first wrong one.
use Rattle.std.proofs.Common.{◌≡◌, ℕ, ◌-◌, ◌≤◌, Some, None, List, length, map, refl, sym, ◌∙◌, subst, inl, inr}
use Rattle.std.specs.Prelude.{slice_get}
use Rattle.std.specs.Arc.{arc_value}
use Rattle.std.specs.List.{AllByRecursion}
use Rattle.std.proofs.lemmas.List.{length-map}
use Rattle.capture_tracks.specs.Commands.{lines_outcome}
use Rattle.counter_book.specs.declared.tally.Count.{Count}
use Rattle.eval_engine.specs.declared.docket_entry.DocketEntry.{DocketEntry}
use Rattle.fw_command.specs.declared.script.Step.{Step}
use Rattle.fw_world.specs.Editions.{AreEditions}
use Rattle.fw_world.specs.Inputs.{Input}
use Rattle.fw_world.specs.Publications.{IsPublished}
use Rattle.generation_store.specs.Published.{Published}
use Rattle.report_reading.specs.Lines.{lines_with_ends}
use Rattle.report_reading.specs.Readings.{LineValue}
use Rattle.rule_chain.specs.Configuration.{Configuration}
use Rattle.state_journal.specs.Journal.{Journal, IsJournal}
use Rattle.run_audit.specs.Audit.{AuditValue, IsAuditOf, IsFirstWrong, IsOpened, IsRebuilt, AreSectionsTold, AreTalliesOf, StandsFor, entries_rebuilt, rebuilt_record, told_by_rebuilt, told_value}
use Rattle.run_audit.specs.AuditFaults.{IfWrong, NamesLine}
use Rattle.run_audit.specs.Closing.{IsMadeOf}
use Rattle.run_audit.specs.Composition.{HaveSections, IsOfJudgedRecord}
use Rattle.run_audit.specs.JudgingValues.{entries_of_each}
use Rattle.run_audit.specs.Judging.{ToldValue, AreToldSo}
use Rattle.run_audit.specs.LeftOver.{first_behind}
use Rattle.run_audit.specs.OtherLines.{IsLeftOver, IsWrongBehind, LeftOver}
use Rattle.run_audit.specs.ToldReport.{lines_told, told_by}
use Rattle.run_audit.specs.declared.audit_fault.AuditFault.{AuditFault}
use Rattle.run_audit.specs.declared.audit_fault.AuditFault.TheVariants.{Wrong, OutOfMemory}
use Rattle.run_audit.specs.declared.rebuilt.Rebuilt.{Rebuilt}
use Rattle.run_audit.proofs.AsksJudged.{asks_judged}
use Rattle.run_audit.proofs.AuditSteps.{judged_of, told_of}
use Rattle.run_audit.proofs.Composed.{composed}
use Rattle.run_audit.proofs.LaneSections.{have_sections}
use Rattle.run_audit.proofs.LeftOvers.{found_behind, none_behind}
use Rattle.run_audit.proofs.PublishedFacts.{published_each}

module _ (config : Configuration) (steps : List Step) (report : List ℕ) (inputs : List (List Input)) (audit : AuditValue) (is : IsAuditOf config steps report inputs audit) where
  -- ---- the first line that is wrong

  -- a fault that came before names it
  pub fault_before : (fault : AuditFault) → audit.fault ≡ Some fault → IfWrong fault (IsFirstWrong config steps report inputs)
  fault_before fault was = by_fault fault (subst (StandsFor config steps audit inputs) was is.stands)
    where
      by_fault : (f : AuditFault) → StandsFor config steps audit inputs (Some f) → IfWrong f (IsFirstWrong config steps report inputs)
      by_fault (Wrong line) fails = subst (λ (r : List ℕ). IsFirstWrong config steps r inputs line) is.reported (inr (inl fails))
      by_fault OutOfMemory fails = tt

  module _ (clear : audit.fault ≡ None) where
    -- all records are as they are told
    so : StandsFor config steps audit inputs None
    so = subst (StandsFor config steps audit inputs) clear is.stands

    -- the line that the tests behind the records find is it
    pub wrong_behind : (line : ℕ) → first_behind (told_of audit) (lines_told audit.report) audit.dockets ≡ Some line → IsFirstWrong config steps report inputs line
    wrong_behind line found = subst (λ (r : List ℕ). IsFirstWrong config steps r inputs line) is.reported (inr (inr (record {
      editions = audit.editions;
      journal = audit.journal;
      opened = is.opened;
      dockets = audit.dockets;
      told = so.0;
      found = found_behind (told_of audit) audit.dockets (lines_told audit.report) line found (length-map (lines_with_ends audit.report) told_by);
    })))

    -- ---- what is rebuilt

    module _ (rebuilt : Rebuilt) (made : IsMadeOf (told_of audit) audit.report audit.answers (judged_of audit) rebuilt) where
      same_told : told_of audit ≡ told_by_rebuilt report rebuilt
      same_told = λ i. told_value (sym made.editions i) (sym made.journal i) (is.reported i)

      none_left : (other : ℕ) (value : LineValue) → 1 ≤ other → slice_get (lines_told audit.report) (other - 1) ≡ Some value → IsLeftOver (told_of audit) audit.dockets other value → ⊥
      none_left other value from found left = none_behind (told_of audit) audit.dockets (lines_told audit.report) made.none other (LeftOver value found from left)

      editions : AreEditions config (lines_outcome config steps).accepted (map arc_value rebuilt.editions.items)
      editions = subst (AreEditions config (lines_outcome config steps).accepted) (sym made.editions) is.opened.made

      -- each edition was published
      published : IsPublished (map arc_value rebuilt.editions.items) rebuilt.book
      published =
          let journal : IsJournal audit.journal = subst (λ (j : Journal). IsJournal j) made.journal made.lawful in
          let each : IsPublished audit.editions audit.journal = published_each config (lines_outcome config steps).accepted audit.editions (lines_told audit.report) audit.journal is.opened.made is.opened.replayed journal in
          subst (λ (j : Journal). IsPublished (map arc_value rebuilt.editions.items) j) (sym made.journal)
          (subst (λ (es : List Published). IsPublished es audit.journal) (sym made.editions) each)

      told : AreToldSo (told_of audit) 1 inputs (entries_of_each rebuilt.dockets.items)
      told = subst (λ (es : List (List DocketEntry)). AreToldSo (told_of audit) 1 inputs es) (sym made.entries) so.0

      tallied : AreTalliesOf (told_of audit) 1 inputs (entries_of_each rebuilt.dockets.items) rebuilt.tallies.items
      tallied = subst (λ (ts : List (List Count)). AreTalliesOf (told_of audit) 1 inputs (entries_of_each rebuilt.dockets.items) ts) (sym made.tallies)
          (subst (λ (es : List (List DocketEntry)). AreTalliesOf (told_of audit) 1 inputs es audit.tallies) (sym made.entries) so.1)

      judged : AllByRecursion (IsOfJudgedRecord (entries_of_each rebuilt.dockets.items)) audit.journal.entries
      judged = subst (λ (es : List (List DocketEntry)). AllByRecursion (IsOfJudgedRecord es) audit.journal.entries) (sym made.entries)
          (asks_judged (told_of audit) audit.dockets audit.editions audit.report audit.journal is.opened.replayed none_left)

      sections : HaveSections (length (map arc_value rebuilt.editions.items)) rebuilt.dockets.items rebuilt.trackers.items
      sections =
          let none = subst (λ (es : List (List DocketEntry)). (other : ℕ) (value : LineValue) → 1 ≤ other → slice_get (lines_told audit.report) (other - 1) ≡ Some value → IsLeftOver (told_of audit) es other value → ⊥)
          (sym made.entries) none_left in
          subst (λ (es : List Published). HaveSections (length es) rebuilt.dockets.items rebuilt.trackers.items) (sym made.editions)
          (have_sections (told_of audit) (lines_told audit.report) rebuilt.dockets.items rebuilt.trackers.items refl none made.sections)

      -- it is the record that the report is of
      pub rebuilds : IsRebuilt config steps report inputs rebuilt
      rebuilds = record {
        legal = composed config (lines_outcome config steps).accepted inputs (told_of audit) (rebuilt_record rebuilt) made.editions made.journal editions made.lawful published told tallied judged sections;
        answered = made.answered ∙ is.answered;
        reported = made.reported ∙ is.reported;
        opened = subst (λ (r : List ℕ). IsOpened config steps r (map arc_value rebuilt.editions.items) rebuilt.book) is.reported
            (subst (λ (j : Journal). IsOpened config steps audit.report (map arc_value rebuilt.editions.items) j) (sym made.journal)
            (subst (λ (es : List Published). IsOpened config steps audit.report es audit.journal) (sym made.editions) is.opened));
        told = subst (λ (t : ToldValue). AreToldSo t 1 inputs (entries_rebuilt rebuilt)) same_told told;
        sections = subst (λ (t : ToldValue). AreSectionsTold t 1 rebuilt.dockets.items rebuilt.trackers.items) same_told made.sections;
        nothing_left = λ number wrong. none_behind (told_of audit) audit.dockets (lines_told audit.report) made.none number
            (subst (λ (t : ToldValue). IsWrongBehind t (lines_told audit.report) audit.dockets number) (sym same_told)
            (subst (λ (es : List (List DocketEntry)). IsWrongBehind (told_by_rebuilt report rebuilt) (lines_told audit.report) es number) made.entries
            (subst (λ (r : List ℕ). IsWrongBehind (told_by_rebuilt report rebuilt) (lines_told r) (entries_rebuilt rebuilt) number) (sym is.reported) wrong)));
      }

-- a fault that came before names the first line that is wrong, whatever the audit is of
pub fault_first : (audit : AuditValue) (fault : AuditFault) → audit.fault ≡ Some fault
    → IfWrong fault (λ line. (config : Configuration) (steps : List Step) (report : List ℕ) (inputs : List (List Input)) → IsAuditOf config steps report inputs audit → IsFirstWrong config steps report inputs line)
fault_first audit (Wrong line) was = λ config steps report inputs is. fault_before config steps report inputs audit is (Wrong line) was
fault_first audit OutOfMemory was = tt

-- and so does a fault that the tests behind the records give
pub behind_first : (audit : AuditValue) (fault : AuditFault) → audit.fault ≡ None → NamesLine (first_behind (told_of audit) (lines_told audit.report) audit.dockets) fault
    → IfWrong fault (λ line. (config : Configuration) (steps : List Step) (report : List ℕ) (inputs : List (List Input)) → IsAuditOf config steps report inputs audit → IsFirstWrong config steps report inputs line)
behind_first audit (Wrong line) clear found = λ config steps report inputs is. wrong_behind config steps report inputs audit is clear line found
behind_first audit OutOfMemory clear found = tt
