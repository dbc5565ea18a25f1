-- Of a report that a replay prints an audit says yes.
use Rattle.std.proofs.Common.{◌≡◌, ℕ, ◌+◌, ◌<◌, ◌≤◌, true, List, [], ◌∷◌, ◌++◌, Option, None, Some, Result, Ok, length, map, refl, ap, ◌∙◌, sym, subst, arith, inl, inr, ◌⊎◌, suc, append-nil, length-append}
use Rattle.std.specs.Prelude.{IfSome}
use Rattle.std.proofs.lemmas.List.{length-map}
use Rattle.audit_laws.specs.Captures.{HaveToldBytes, IsFromScript}
use Rattle.audit_laws.specs.Completeness.{IsFaultless, IsReported}
use Rattle.audit_laws.proofs.Faultless.{reports_are_faultless}
use Rattle.audit_laws.proofs.PrintableRecords.{records_are_reported}
use Rattle.audit_laws.proofs.Rebuilding.{rebuilt_records_print_alike}
use Rattle.buffered_io.specs.WholeSource.{ReadsAll}
use Rattle.capture_tracks.specs.Commands.{lines_outcome}
use Rattle.capture_tracks.specs.Reading as reading
use Rattle.capture_tracks.specs.Reading.{track_inputs}
use Rattle.capture_tracks.specs.Replay.{limit_for}
use Rattle.capture_tracks.specs.declared.opened.OpenedCapture.{OpenedCapture}
use Rattle.command_words.specs.Invocation.{capture_names}
use Rattle.command_words.specs.Words.{CaptureNames}
use Rattle.command_words.specs.declared.capture_word.CaptureWord.{CaptureWord}
use Rattle.command_words.specs.declared.invocation.Mode.TheVariants.{Serial}
use Rattle.fw_base.specs.Pairs.{Pair}
use Rattle.report_texts.specs.declared.ends.LineAnswer.{LineAnswer}
use Rattle.fw_world.specs.Inputs.{Input}
use Rattle.fw_world.specs.RecordValue.{RecordValue}
use Rattle.record_laws.proofs.SameEnds.{same_report}
use Rattle.replay_setup.specs.FirstEdition.{first_edition}
use Rattle.replay_setup.specs.InMemory.{known_left, no_failures}
use Rattle.replay_setup.specs.Openings.{OpensAll}
use Rattle.replay_setup.specs.Outside.{Files, Output}
use Rattle.replay_setup.specs.FirstEdition.{pace_of}
use Rattle.replay_setup.specs.declared.first_edition.FirstEdition.{FirstEdition}
use Rattle.replay_setup.specs.declared.outcome.Outcome.{Outcome}
use Rattle.replay_setup.specs.declared.script_error.ScriptError.{ScriptError}
use Rattle.replay_setup.proofs.QuietReads.{took_from}
use Rattle.replay_setup.proofs.Logic.{IfSome-both}
use Rattle.run_audit.specs.Audit.{IsFirstWrong, IsRebuilt, rebuilt_record}
use Rattle.run_audit.specs.Comparison.{line_of_first_other}
use Rattle.audit_driver.specs.AuditNames.{AuditNames, names_of}
use Rattle.audit_driver.specs.Found.{IsAudited, IsOtherText, IsWrongAtEnd, IsWrongReport, text_of}
use Rattle.audit_driver.specs.Printed.{AreUnder, IsPrinted, IsPrintedAudit}
use Rattle.audit_driver.specs.Promises.{IsQuietAudit}
use Rattle.audit_driver.specs.Run.{IsAuditRun}
use Rattle.audit_driver.specs.declared.audit_result.AuditResult.{AuditResult}
use Rattle.audit_driver.specs.declared.audit_result.AuditResult.TheVariants.{TooLong, No}
use Rattle.audit_driver.proofs.CaptureCounts.{few_captures}
use Rattle.audit_driver.proofs.EditionForms.{edition_from_script}
use Rattle.audit_driver.proofs.Promised.{audit_no, audit_quiet}
use Rattle.audit_driver.proofs.SameReadings.{AreSameFiles, given_so_far, same_count, same_readings}
use Rattle.run_audit.proofs.SameTexts.{no_other}

-- ---- texts

-- all of a file that isn't too long was read
all_read : (most : ℕ) (file bytes : List ℕ) (after : Option (List ℕ)) (before now : ℕ) → ReadsAll (Some file) after before now most bytes → length file < most → bytes ≡ file
all_read most file bytes None before now reads short = absurd reads.taken
all_read most file bytes (Some rest) before now reads short =
    let split : file ≡ bytes ++ rest = reads.taken in
    let size : length file ≡ length bytes + length rest = ap length split ∙ length-append bytes rest in
    let none : rest ≡ [] = reads.end (omega arith) in
    sym (split ∙ ap (λ (l : List ℕ). bytes ++ l) none ∙ append-nil bytes)

-- ---- captures under their names

-- there are as many captures as names
under_count : (names : List CaptureNames) (told : List Pair) (captures : List (OpenedCapture (List ℕ))) → AreUnder names told captures → length captures ≡ length names
under_count [] told [] under = refl
under_count [] told (capture ∷ captures) under = absurd under
under_count (name ∷ names) told [] under = absurd under
under_count (name ∷ names) told (capture ∷ captures) (port, behind, stands, others) = ap (λ (n : ℕ). suc n) (under_count names behind captures others)

module _ {L S : Type 0} (files : Files L S) where
  -- captures that were opened have the bytes that stand under their names
  same_files : (old new : L) (names : List CaptureNames) (opened : List (OpenedCapture S)) (told : List Pair) (captures : List (OpenedCapture (List ℕ))) → OpensAll files old new names opened → files.pairs old ≡ Some told → AreUnder names told captures
      → AreSameFiles files.left opened captures
  same_files old new [] [] told [] all is under = tt
  same_files old new [] [] told (capture ∷ captures) all is under = absurd under
  same_files old new [] (o ∷ opened) told captures all is under = absurd all
  same_files old new (name ∷ names) [] told captures all is under = absurd all
  same_files old new (name ∷ names) (o ∷ opened) told [] all is under = absurd under
  same_files old new (name ∷ names) (o ∷ opened) told (capture ∷ captures) (port, between, opens, more) is (own, behind, stands, others) =
      let took = took_from (files.pairs old) (files.pairs between) name.name (files.left o.source) told (name.name, capture.source) behind opens.took is stands in
      (port ∙ sym own, took.0, same_files between new names opened behind captures more took.1 others)

-- ---- a printed report

module _ {S : Type 0} (left : S → Option (List ℕ)) (failures : S → ℕ) (edition : FirstEdition) (report : List ℕ) (captures : List (OpenedCapture (List ℕ))) (printed : IsPrinted edition captures report) where
  abbrev made_tracks : List reading.Track
  made_tracks = printed.has.tracks

  abbrev made_inputs : List (List Input)
  made_inputs = map track_inputs made_tracks

  abbrev made_answers : List LineAnswer
  made_answers = edition.answers ++ (lines_outcome edition.config edition.live).answers

  module _ (script : IsFromScript edition.config edition.answers edition.live) (told : HaveToldBytes known_left no_failures captures) (opened : List (OpenedCapture S)) (sources : List S) (same : AreSameFiles left opened captures) (line : ℕ) where
    reported : IsReported edition.config edition.live made_inputs printed.record_of printed.ends made_answers
    reported =
        records_are_reported known_left no_failures edition.config edition.answers edition.live captures printed.rests made_tracks printed.ends printed.record_of script told printed.has.read printed.has.legal printed.uncached

    faultless : IsFaultless edition.config edition.live made_inputs report
    faultless =
        subst (λ (text : List ℕ). IsFaultless edition.config edition.live made_inputs text) (sym printed.text)
        (reports_are_faultless edition.config edition.live made_inputs printed.record_of printed.ends made_answers reported)

    -- the limit of each capture
    abbrev limit : ℕ
    limit = limit_for (length opened)

    -- the captures that hold these bytes were read to the same one
    made_read : reading.AllRead known_left no_failures limit captures printed.rests made_tracks printed.ends
    made_read =
        subst (λ (n : ℕ). reading.AllRead known_left no_failures (limit_for n) captures printed.rests made_tracks printed.ends) (sym (same_count left opened captures same)) printed.has.read

    not_at_end : IsWrongAtEnd left failures edition report opened sources line → ⊥
    not_at_end wrong =
        let alike = same_readings left failures limit opened captures sources printed.rests wrong.tracks made_tracks wrong.ends printed.ends same wrong.read wrong.whole made_read printed.has.whole in
        faultless.whole line (subst (λ (inputs : List (List Input)). IsFirstWrong edition.config edition.live report inputs line) alike.inputs wrong.wrong)

    -- what was rebuilt has this report, with the ends that were read
    not_other : IsOtherText left failures edition report opened sources line → ⊥
    not_other other =
        let alike = same_readings left failures limit opened captures sources printed.rests other.has.tracks made_tracks other.ends printed.ends same other.has.read other.has.whole made_read printed.has.whole in
        let r : RecordValue = rebuilt_record other.rebuilt in
        let again : IsRebuilt edition.config edition.live (text_of edition printed.record_of printed.ends) made_inputs other.rebuilt =
        subst (λ (text : List ℕ). IsRebuilt edition.config edition.live text made_inputs other.rebuilt) printed.text
        (subst (λ (inputs : List (List Input)). IsRebuilt edition.config edition.live report inputs other.rebuilt) alike.inputs other.told) in
        let text : text_of edition r other.ends ≡ report =
        same_report r r.hits other.ends printed.ends made_answers true alike.ends_printed
        ∙ rebuilt_records_print_alike edition.config edition.live made_inputs printed.record_of printed.ends made_answers reported other.rebuilt again
        ∙ sym printed.text in
        let none : Some line ≡ None = sym other.differs ∙ ap (λ (t : List ℕ). line_of_first_other 1 t report) text ∙ no_other 1 report in
        absurd (cc)

    -- no line of it is the first that is wrong
    none_wrong : IsWrongReport left failures edition report opened sources line → ⊥
    none_wrong (inl opening) = faultless.opening line opening.wrong
    none_wrong (inr (inl wrong)) =
        faultless.record_of wrong.inputs line (given_so_far left failures limit opened captures sources printed.rests made_tracks printed.ends wrong.inputs same wrong.given made_read printed.has.whole) wrong.wrong
    none_wrong (inr (inr (inl wrong))) = not_at_end wrong
    none_wrong (inr (inr (inr other))) = not_other other

-- ---- an audit of it

-- there are no more names than words
pub few_names : (words : List CaptureWord) → length words ≤ 16 → length (map capture_names words) ≤ 16
few_names words few = omega (arith, few, length-map words capture_names)

module _ {K S L : Type 0} (output : Output K) (files : Files L S) (names : AuditNames) (library libraryAfter : L) (sink sinkAfter : K) (outcome : Outcome S) where
  abbrev Run : Type 0
  Run = IsAuditRun output files names library libraryAfter sink sinkAfter outcome

  module _ (few : length names.captures ≤ 16) (printed : IsPrintedAudit output files names library libraryAfter sink sinkAfter outcome) where
    -- what was read for the audit is what stands under its names
    record ReadsPrinted {result : AuditResult} (a : IsAudited files names library libraryAfter result outcome.sources.items) : Type 0 where
      report : a.bytes ≡ printed.report
      edition : a.edition ≡ printed.is.edition
      same : AreSameFiles files.left a.opened printed.is.captures

    reads_printed : (result : AuditResult) (a : IsAudited files names library libraryAfter result outcome.sources.items) → ReadsPrinted a
    reads_printed result a =
        let first = took_from (files.pairs library) (files.pairs a.between) names.report (files.left a.reads_report.opened) printed.before _ _ a.reads_report.opens.took printed.told printed.report_stands in
        let second = took_from (files.pairs a.between) (files.pairs a.reads.between) names.script (files.left a.reads.script_read.opened) printed.between _ _ a.reads.script_read.opens.took first.1 printed.is.script_stands in
        let script : a.script_bytes ≡ printed.is.script =
        all_read 1048577 printed.is.script a.script_bytes (files.left a.script) (files.failures a.reads.script_read.opened) (files.failures a.script)
        (subst (λ (l : Option (List ℕ)). ReadsAll l (files.left a.script) (files.failures a.reads.script_read.opened) (files.failures a.script) 1048577 a.script_bytes) second.0 a.reads.script_read.reads) (omega (arith, printed.is.script_short)) in
        let editions : ◌≡◌ {A = Result FirstEdition ScriptError} (Ok a.edition) (Ok printed.is.edition) = sym a.first ∙ ap (first_edition (pace_of Serial)) script ∙ printed.is.first in
        record {
          report = all_read 1073741825 printed.report a.bytes (files.left a.report) (files.failures a.reads_report.opened) (files.failures a.report)
              (subst (λ (l : Option (List ℕ)). ReadsAll l (files.left a.report) (files.failures a.reads_report.opened) (files.failures a.report) 1073741825 a.bytes) first.0 a.reads_report.reads) (omega (arith, printed.report_short));
          edition = cc;
          same = same_files files a.reads.between libraryAfter names.captures a.opened printed.is.behind printed.is.captures a.reads.captures_opened second.1 printed.is.captures_stand;
        }

    not_long : IsAudited files names library libraryAfter TooLong outcome.sources.items → ⊥
    not_long a =
        let long : 1073741824 < length a.bytes = a.concludes.1 in
        let size : length a.bytes ≡ length printed.report = ap length (reads_printed TooLong a).report in
        omega (arith, long, size, printed.report_short)

    no_line : (line : ℕ) → IsAudited files names library libraryAfter (No line) outcome.sources.items → ⊥
    no_line line a =
        let reads = reads_printed (No line) a in
        let own : IsPrinted a.edition printed.is.captures a.bytes =
        subst (λ (e : FirstEdition). IsPrinted e printed.is.captures a.bytes) (sym reads.edition) (subst (λ (text : List ℕ). IsPrinted printed.is.edition printed.is.captures text) (sym reads.report) printed.is.printed) in
        let count = under_count names.captures printed.is.behind printed.is.captures printed.is.captures_stand in
        none_wrong files.left files.failures a.edition a.bytes printed.is.captures own (edition_from_script (pace_of Serial) a.script_bytes a.edition a.first)
        (record { few = omega (arith, count, few); told = printed.bytes }) a.opened a.captures reads.same line a.concludes.2

    quiet : IsQuietAudit output files names library libraryAfter sink sinkAfter outcome
    quiet = record {
      before = printed.before;
      told = printed.told;
      report = printed.report;
      between = printed.between;
      report_stands = printed.report_stands;
      script = printed.is.script;
      behind = printed.is.behind;
      script_stands = printed.is.script_stands;
      script_short = printed.is.script_short;
      edition = printed.is.edition;
      first = printed.is.first;
      library_quiet = printed.library_quiet;
      sources_quiet = printed.sources_quiet;
      sink_quiet = printed.sink_quiet;
    }

    -- of a printed report an audit says yes, if memory is there
    pub audit_accepts : Run → (outcome.status ≡ 0) ⊎ (outcome.status ≡ 6)
    audit_accepts run = elim (audit_quiet output files names library libraryAfter sink sinkAfter outcome run quiet) [
      | inl zero ↦ inl zero
      | inr (inr memory) ↦ inr memory
      | inr (inl seven) ↦ elim (audit_no output files names library libraryAfter sink sinkAfter outcome run seven) [
        | inl long ↦ absurd (not_long long.finds)
        | inr wrong ↦ absurd (no_line wrong.0 wrong.1.finds)
      ]
    ]

-- so it is of the names of any words that ask for an audit
pub all_accepted : {K S L : Type 0} (output : Output K) (files : Files L S) (library libraryAfter : L) (sink sinkAfter : K) (outcome : Outcome S) (words : List (List ℕ))
    → IfSome (names_of words) (λ names. IsAuditRun output files names library libraryAfter sink sinkAfter outcome)
    → IfSome (names_of words) (λ names. IsPrintedAudit output files names library libraryAfter sink sinkAfter outcome → (outcome.status ≡ 0) ⊎ (outcome.status ≡ 6))
all_accepted output files library libraryAfter sink sinkAfter outcome words found =
    IfSome-both (names_of words) (λ names. length names.captures ≤ 16) _ _ (λ names few run printed. audit_accepts output files names library libraryAfter sink sinkAfter outcome few printed run) (few_captures words) found
