-- No audit of the report of a legal record comes to a fault that is about the report.
use Rattle.std.proofs.Common.{Option, ◌≡◌, ℕ, ◌+◌, Some, None, List, [], ◌∷◌, ◌++◌, length, refl, sym, ap, subst, ◌∙◌, inl, inr, arith}
use Rattle.capture_tracks.specs.Commands.{lines_outcome}
use Rattle.eval_engine.specs.declared.docket_entry.DocketEntry.{DocketEntry}
use Rattle.fw_command.specs.declared.script.Step.{Step}
use Rattle.report_texts.specs.declared.capture_end.CaptureEnd.{CaptureEnd}
use Rattle.report_texts.specs.declared.ends.LineAnswer.{LineAnswer}
use Rattle.fw_world.specs.Entries.{EachRecord}
use Rattle.fw_world.specs.Inputs.{Input}
use Rattle.fw_world.specs.RecordValue.{RecordValue}
use Rattle.generation_store.specs.Published.{Published}
use Rattle.rule_chain.specs.Configuration.{Configuration}
use Rattle.state_journal.specs.Journal.{Journal}
use Rattle.run_audit.specs.Audit.{AreEditionsOf, FailsAtInput, FailsAtOpening, FailsBehind, IsFirstWrong, IsOpened, told_value, AuditValue, IsAuditOf, StandsFor}
use Rattle.run_audit.specs.JudgingValues.{entries_of_each}
use Rattle.run_audit.specs.JournalTold.{Lawful, no_journal, replay}
use Rattle.run_audit.specs.Judging.{ToldValue, AreToldSo, FailsAtRecord, IsToldSo}
use Rattle.run_audit.specs.Opening.{opening_fault}
use Rattle.run_audit.specs.OtherLines.{IsWrongBehind}
use Rattle.run_audit.specs.ToldReport.{lines_told}
use Rattle.run_audit.specs.declared.audit_fault.AuditFault.{AuditFault}
use Rattle.run_audit.specs.declared.audit_fault.AuditFault.TheVariants.{Wrong}
use Rattle.audit_laws.proofs.Nothing.{reports_leave_nothing}
use Rattle.audit_laws.proofs.OneRecord.{one_list, one_told}
use Rattle.audit_laws.proofs.Opening.{reports_open}
use Rattle.audit_laws.proofs.Records.{reports_tell_records}
use Rattle.audit_laws.specs.Completeness.{AreSoFar, IsFaultless, IsReported, IsToldAgain, ReportsAreFaultless}
use Rattle.audit_laws.specs.Printable.{report_of}
use Rattle.run_audit.proofs.PublishedFacts.{same_lawful}

-- ---- a record in its place

-- An entry by which the record in this place is as the report tells it.
record IsToldAt (told : ToldValue) (lane at : ℕ) (input : Input) : Type 0 where
  entry : DocketEntry
  so : IsToldSo told lane at input entry

told_record : (told : ToldValue) (lane start : ℕ) (inputs : List Input) (entries : List DocketEntry) (front : List Input) (input : Input) (rest : List Input) → EachRecord (IsToldSo told lane) start inputs entries
    → inputs ≡ front ++ input ∷ rest → IsToldAt told lane (start + length front) input
told_record told lane start [] entries [] input rest each is = absurd (cc)
told_record told lane start [] entries (first ∷ front) input rest each is = absurd (cc)
told_record told lane start (own ∷ inputs) [] front input rest each is = absurd each
told_record told lane start (own ∷ inputs) (entry ∷ entries) [] input rest each is =
    let same : own ≡ input = cc in
    let here : start ≡ start + 0 = omega arith in
    record { entry = entry; so = subst (λ (n : ℕ). IsToldSo told lane n input entry) here (subst (λ (i : Input). IsToldSo told lane start i entry) same each.0) }
told_record told lane start (own ∷ inputs) (entry ∷ entries) (first ∷ front) input rest each is =
    let more : inputs ≡ front ++ input ∷ rest = cc in
    let place : start + 1 + length front ≡ start + length (first ∷ front) = omega arith in
    subst (λ (n : ℕ). IsToldAt told lane n input) place (told_record told lane (start + 1) inputs entries front input rest each.1 more)

append_more : (front : List Input) (input : Input) (rest more : List Input) → (front ++ input ∷ rest) ++ more ≡ front ++ input ∷ (rest ++ more)
append_more [] input rest more = refl
append_more (first ∷ front) input rest more = ap (λ (inputs : List Input). first ∷ inputs) (append_more front input rest more)

told_at : (told : ToldValue) (lane : ℕ) (inputs : List (List Input)) (dockets : List (List DocketEntry)) (met before : List (List Input)) (front : List Input) (input : Input) (rest : List Input) (behind : List (List Input))
    → AreToldSo told lane inputs dockets → AreSoFar met inputs → met ≡ before ++ (front ++ input ∷ rest) ∷ behind → IsToldAt told (lane + length before) (1 + length front) input
told_at told lane inputs dockets [] [] front input rest behind so far is = absurd (cc)
told_at told lane inputs dockets [] (one ∷ before) front input rest behind so far is = absurd (cc)
told_at told lane [] dockets (own ∷ met) before front input rest behind so far is = absurd far
told_at told lane (all ∷ inputs) [] (own ∷ met) before front input rest behind so far is = absurd so
told_at told lane (all ∷ inputs) (entries ∷ dockets) (own ∷ met) [] front input rest behind so far is =
    let (more, whole) = far.0 in
    let mine : own ≡ front ++ input ∷ rest = cc in
    let split : all ≡ front ++ input ∷ (rest ++ more) = whole ∙ ap (λ (inputs_there : List Input). inputs_there ++ more) mine ∙ append_more front input rest more in
    let here : lane ≡ lane + 0 = omega arith in
    subst (λ (n : ℕ). IsToldAt told n (1 + length front) input) here (told_record told lane 1 all entries front input (rest ++ more) so.0 split)
told_at told lane (all ∷ inputs) (entries ∷ dockets) (own ∷ met) (one ∷ before) front input rest behind so far is =
    let others : met ≡ before ++ (front ++ input ∷ rest) ∷ behind = cc in
    let place : lane + 1 + length before ≡ lane + length (one ∷ before) = omega arith in
    subst (λ (n : ℕ). IsToldAt told n (1 + length front) input) place (told_at told (lane + 1) inputs dockets met before front input rest behind so.1 far.1 others)

none_fails : (told : ToldValue) (inputs : List (List Input)) (dockets : List (List DocketEntry)) (met : List (List Input)) (line : ℕ) → AreToldSo told 1 inputs dockets → AreSoFar met inputs
    → FailsAtRecord told met line → ⊥
none_fails told inputs dockets met line so far fails =
    let at = told_at told 1 inputs dockets met fails.before fails.front fails.input fails.rest fails.behind so far fails.split in
    let lane : 1 + length fails.before ≡ length fails.before + 1 = omega arith in
    let place : 1 + length fails.front ≡ length fails.front + 1 = omega arith in
    fails.wrong at.entry
    (subst (λ (n : ℕ). IsToldSo told n (length fails.front + 1) fails.input at.entry) lane
    (subst (λ (n : ℕ). IsToldSo told (1 + length fails.before) n fails.input at.entry) place at.so))

-- ---- the report

-- all records are so far met
all_met : (inputs : List (List Input)) → AreSoFar inputs inputs
all_met [] = tt
all_met (own ∷ inputs) = (([], sym (append_none own)), all_met inputs)
  where
    append_none : (xs : List Input) → xs ++ [] ≡ xs
    append_none [] = refl
    append_none (x ∷ xs) = ap (λ (ys : List Input). x ∷ ys) (append_none xs)

module _ (config : Configuration) (steps : List Step) (inputs : List (List Input)) (r : RecordValue) (ends : List CaptureEnd) (answers : List LineAnswer)
    (is : IsReported config steps inputs r ends answers)
  where
    -- the script makes no other editions
    pub own_editions : (editions : List Published) → AreEditionsOf config steps editions → editions ≡ r.editions
    own_editions editions made = one_list config (lines_outcome config steps).accepted editions r.editions made is.legal.editions

    -- the report tells no other journal
    pub own_journal : (editions : List Published) (journal : Journal) → IsOpened config steps (report_of r ends answers) editions journal → IsToldAgain r (report_of r ends answers) journal
    own_journal editions journal opened =
        let (right, own, again) = reports_open config steps inputs r ends answers is in
        let same : editions ≡ r.editions = own_editions editions opened.made in
        let replayed : replay r.editions 1 (lines_told (report_of r ends answers)) no_journal ≡ Lawful journal =
        ap (λ (es : List Published). replay es 1 (lines_told (report_of r ends answers)) no_journal) (sym same) ∙ opened.replayed in
        let one : journal ≡ own = same_lawful journal own (sym replayed ∙ again.replayed) in
        record {
          replayed = replayed;
          entries = ap (λ (j : Journal). j.entries) one ∙ again.entries;
          object = ap (λ (j : Journal). j.object) one ∙ again.object;
        }

    -- and no other records
    pub own_records : (editions : List Published) (journal : Journal) → IsOpened config steps (report_of r ends answers) editions journal
        → AreToldSo (told_value editions journal (report_of r ends answers)) 1 inputs (entries_of_each r.dockets)
    own_records editions journal opened =
        subst (λ (es : List Published). AreToldSo (told_value es journal (report_of r ends answers)) 1 inputs (entries_of_each r.dockets)) (sym (own_editions editions opened.made))
        (reports_tell_records config steps inputs r ends answers is journal (own_journal editions journal opened))

    no_opening : (line : ℕ) → FailsAtOpening config steps (report_of r ends answers) line → ⊥
    no_opening line fails =
        let (right, own, again) = reports_open config steps inputs r ends answers is in
        let found : opening_fault r.editions (report_of r ends answers) ≡ Some line =
        ap (λ (es : List Published). opening_fault es (report_of r ends answers)) (sym (own_editions fails.editions fails.made)) ∙ fails.found in
        let no : None ≡ Some line = sym right ∙ found in
        absurd (cc)

    no_record : (met : List (List Input)) (line : ℕ) → AreSoFar met inputs → FailsAtInput config steps (report_of r ends answers) met line → ⊥
    no_record met line far fails =
        none_fails (told_value fails.editions fails.journal (report_of r ends answers)) inputs (entries_of_each r.dockets) met line (own_records fails.editions fails.journal fails.opened) far fails.found

    no_audit : (met : List (List Input)) (audit : AuditValue) (line : ℕ) → AreSoFar met inputs → IsAuditOf config steps (report_of r ends answers) met audit → audit.fault ≡ Some (Wrong line) → ⊥
    no_audit met audit line far of_report fault =
        let stands : FailsAtInput config steps audit.report met line = subst (λ (o : Option AuditFault). StandsFor config steps audit met o) fault of_report.stands in
        no_record met line far (subst (λ (text : List ℕ). FailsAtInput config steps text met line) of_report.reported stands)

    no_line : (line : ℕ) → FailsBehind config steps (report_of r ends answers) inputs line → ⊥
    no_line line fails =
        let told : ToldValue = told_value fails.editions fails.journal (report_of r ends answers) in
        let same : fails.editions ≡ r.editions = own_editions fails.editions fails.opened.made in
        let dockets : fails.dockets ≡ entries_of_each r.dockets = one_told told 1 inputs fails.dockets (entries_of_each r.dockets) fails.told (own_records fails.editions fails.journal fails.opened) in
        let wrong : IsWrongBehind (told_value r.editions fails.journal (report_of r ends answers)) (lines_told (report_of r ends answers)) (entries_of_each r.dockets) line =
        subst (λ (es : List Published). IsWrongBehind (told_value es fails.journal (report_of r ends answers)) (lines_told (report_of r ends answers)) (entries_of_each r.dockets) line) same
        (subst (λ (ds : List (List DocketEntry)). IsWrongBehind told (lines_told (report_of r ends answers)) ds line) dockets fails.found.wrong) in
        reports_leave_nothing config steps inputs r ends answers is fails.journal (own_journal fails.editions fails.journal fails.opened) line wrong

    faultless : IsFaultless config steps inputs (report_of r ends answers)
    faultless = record {
      opening = no_opening;
      record_of = no_record;
      audits = no_audit;
      whole = none_wrong;
    }
      where
        none_wrong : (line : ℕ) → IsFirstWrong config steps (report_of r ends answers) inputs line → ⊥
        none_wrong line (inl opening) = no_opening line opening
        none_wrong line (inr (inl at_record)) = no_record inputs line (all_met inputs) at_record
        none_wrong line (inr (inr behind)) = no_line line behind

-- the report of each legal record is faultless
pub reports_are_faultless : ReportsAreFaultless
reports_are_faultless = λ config steps inputs r ends answers is. faultless config steps inputs r ends answers is
