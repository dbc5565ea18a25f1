-- What an audit finds before a byte is written, and which sources it hands back.
use Rattle.std.specs.Prelude.{◌≡◌, ℕ, ◌<◌, ◌≤◌, true, false, Option, Some, Ok, List, [], ◌∷◌, ◌++◌, length, map, slice_get, ◌⊎◌}
use Rattle.std.specs.List.{list_any}
use Rattle.capture_tracks.specs.Commands.{lines_outcome}
use Rattle.capture_tracks.specs.Reading as reading
use Rattle.capture_tracks.specs.Reading.{AllRead, track_inputs}
use Rattle.capture_tracks.specs.Replay.{limit_for}
use Rattle.capture_tracks.specs.declared.opened.OpenedCapture.{OpenedCapture}
use Rattle.command_words.specs.Words.{CaptureNames}
use Rattle.command_words.specs.declared.invocation.Mode.TheVariants.{Serial}
use Rattle.eval_engine.specs.declared.docket_entry.DocketEntry.{DocketEntry}
use Rattle.report_texts.specs.CaptureEnds.{is_unread}
use Rattle.report_texts.specs.Report.{report_text}
use Rattle.report_texts.specs.declared.capture_end.CaptureEnd.{CaptureEnd}
use Rattle.fw_world.specs.Inputs.{Input}
use Rattle.fw_world.specs.Legal.{IsLegal}
use Rattle.fw_world.specs.RecordValue.{RecordValue}
use Rattle.generation_store.specs.Published.{Published}
use Rattle.replay_setup.specs.FirstEdition.{first_edition}
use Rattle.replay_setup.specs.NamesRead.{FailsEarly, ReadsNamed, ReadsNames, IsUnreadable, HasNoEdition}
use Rattle.replay_setup.specs.Openings.{Opens, RefusesToOpen}
use Rattle.capture_tracks.specs.Replay.{sources_of}
use Rattle.replay_setup.specs.Outside.{Files}
use Rattle.capture_tracks.specs.Reported.{report_record}
use Rattle.replay_setup.specs.FirstEdition.{pace_of}
use Rattle.replay_setup.specs.declared.first_edition.FirstEdition.{FirstEdition}
use Rattle.run_audit.specs.Audit.{FailsAtInput, FailsAtOpening, IsFirstWrong, IsOpened, IsRebuilt, rebuilt_record, told_value}
use Rattle.run_audit.specs.Comparison.{line_of_first_other}
use Rattle.run_audit.specs.Judging.{AreToldSo}
use Rattle.run_audit.specs.declared.rebuilt.Rebuilt.{Rebuilt}
use Rattle.state_journal.specs.Journal.{Journal}
use Rattle.audit_driver.specs.AuditNames.{AuditNames}
use Rattle.capture_audits.specs.CaptureAudit.{inputs_at}
use Rattle.capture_audits.specs.Examined.{FailsAtOne, HasGiven}
use Rattle.audit_driver.specs.declared.audit_result.AuditResult.{AuditResult}
use Rattle.audit_driver.specs.declared.audit_result.AuditResult.TheVariants.{Unread, Unready, TooLong, No, Yes}

-- of a report at most so many bytes are taken, which is one more than are audited
abbrev pub MOST_TAKEN : ℕ
MOST_TAKEN = 1073741825

-- ---- a report beside captures that were read

-- the text of a record with these ends, and with the answers of the script
abbrev pub text_of : FirstEdition → RecordValue → List CaptureEnd → List ℕ
text_of edition kept ends = report_text (report_record kept) ends (edition.answers ++ (lines_outcome edition.config edition.live).answers) true

-- The report has its form and its journal beside the script, and these records of the captures are as it tells them.
pub record TellsSoFar (edition : FirstEdition) (bytes : List ℕ) (inputs : List (List Input)) : Type 0 where
  pub editions : List Published
  pub journal : Journal
  pub opened : IsOpened edition.config edition.live bytes editions journal
  pub dockets : List (List DocketEntry)
  pub told : AreToldSo (told_value editions journal bytes) 1 inputs dockets

module _ {S : Type 0} (left : S → Option (List ℕ)) (failures : S → ℕ) where
  -- The captures were read to their ends or faults, and no source failed; this record is legal for the script and for
  -- their records.
  pub record HasLegalRecord (edition : FirstEdition) (opened : List (OpenedCapture S)) (sources : List S) (kept : RecordValue) (ends : List CaptureEnd) : Type 0 where
    pub tracks : List reading.Track
    pub read : AllRead left failures (limit_for (length opened)) opened sources tracks ends
    pub whole : list_any is_unread ends ≡ false
    pub legal : IsLegal edition.config (lines_outcome edition.config edition.live).accepted (map track_inputs tracks) kept

  -- The report is the text of a legal record of the script and the captures, made without a cache, and of their ends and
  -- answers.
  pub record IsOfLegalRecord (edition : FirstEdition) (bytes : List ℕ) (opened : List (OpenedCapture S)) (sources : List S) : Type 0 where
    pub record_of : RecordValue
    pub ends : List CaptureEnd
    pub has : HasLegalRecord edition opened sources record_of ends
    -- the run had no cache: a report with lines of caches isn't audited
    pub uncached : record_of.hits ≡ []
    pub text : bytes ≡ text_of edition record_of ends

  -- The report tells a record that is legal for the script and for the captures' records, and that record has another
  -- text: this is the first line that differs.
  pub record IsOtherText (edition : FirstEdition) (bytes : List ℕ) (opened : List (OpenedCapture S)) (sources : List S) (line : ℕ) : Type 0 where
    pub rebuilt : Rebuilt
    pub ends : List CaptureEnd
    pub has : HasLegalRecord edition opened sources (rebuilt_record rebuilt) ends
    pub told : IsRebuilt edition.config edition.live bytes (map track_inputs has.tracks) rebuilt
    pub differs : line_of_first_other 1 (text_of edition (rebuilt_record rebuilt) ends) bytes ≡ Some line

  -- The audit was stopped at a record that a capture gave, with this line: it is that of the first record that isn't as the
  -- report tells it.
  pub record IsWrongAtRecord (edition : FirstEdition) (bytes : List ℕ) (opened : List (OpenedCapture S)) (sources : List S) (line : ℕ) : Type 0 where
    pub inputs : List (List Input)
    pub given : HasGiven left failures (limit_for (length opened)) 0 opened sources inputs
    pub wrong : FailsAtInput edition.config edition.live bytes inputs line

  -- The captures were read to their ends or faults, and no source failed; this line is the first that is wrong beside their
  -- records.
  pub record IsWrongAtEnd (edition : FirstEdition) (bytes : List ℕ) (opened : List (OpenedCapture S)) (sources : List S) (line : ℕ) : Type 0 where
    pub tracks : List reading.Track
    pub ends : List CaptureEnd
    pub read : AllRead left failures (limit_for (length opened)) opened sources tracks ends
    pub whole : list_any is_unread ends ≡ false
    pub wrong : IsFirstWrong edition.config edition.live bytes (map track_inputs tracks) line

  -- This line is the first that is wrong before a record is looked at, and no capture was read.
  pub record IsWrongAtOpening (edition : FirstEdition) (bytes : List ℕ) (opened : List (OpenedCapture S)) (sources : List S) (line : ℕ) : Type 0 where
    pub untouched : sources ≡ sources_of opened
    pub wrong : FailsAtOpening edition.config edition.live bytes line

  -- This line of the report is the first that is wrong: before a record is looked at, at a record, beside all records, or
  -- in the whole text.
  abbrev pub IsWrongReport : FirstEdition → List ℕ → List (OpenedCapture S) → List S → ℕ → Type 0
  IsWrongReport edition bytes opened sources line =
      IsWrongAtOpening edition bytes opened sources line
      ⊎ (IsWrongAtRecord edition bytes opened sources line
      ⊎ (IsWrongAtEnd edition bytes opened sources line
      ⊎ IsOtherText edition bytes opened sources line))

  -- The source of the capture with this name failed, and no line was wrong before: the report has its form and its journal,
  -- and tells all records that were read so far.
  pub record IsUnreadCapture (edition : FirstEdition) (bytes : List ℕ) (captures : List CaptureNames) (opened : List (OpenedCapture S)) (sources : List S) (name : List ℕ) : Type 0 where
    pub place : ℕ
    pub capture : CaptureNames
    pub stands : slice_get captures place ≡ Some capture
    pub named : name ≡ capture.name
    pub fails : FailsAtOne left failures (limit_for (length opened)) opened sources place
    pub right : TellsSoFar edition bytes (inputs_at (map track_inputs fails.tracks) (track_inputs fails.told) (length fails.behind))

  -- What the audit of a report beside opened captures comes to, and the captures' sources.
  abbrev pub ConcludesAudit : FirstEdition → List ℕ → List CaptureNames → List (OpenedCapture S) → AuditResult → List S → Type 0
  ConcludesAudit edition bytes captures opened (Unread name) sources = (length sources ≡ length opened)
      × (length bytes ≤ 1073741824) × IsUnreadCapture edition bytes captures opened sources name
  ConcludesAudit edition bytes captures opened (Unready error) sources = ⊥
  ConcludesAudit edition bytes captures opened TooLong sources = (sources ≡ sources_of opened) × (1073741824 < length bytes)
  ConcludesAudit edition bytes captures opened (No line) sources = (length sources ≡ length opened)
      × (length bytes ≤ 1073741824) × IsWrongReport edition bytes opened sources line
  ConcludesAudit edition bytes captures opened Yes sources = (length sources ≡ length opened)
      × (length bytes ≤ 1073741824) × IsOfLegalRecord edition bytes opened sources

-- ---- with the openings

module _ {L S : Type 0} (files : Files L S) where
  -- the report's name was refused
  pub record RefusesReport (wanted : List ℕ) (old new : L) (name : List ℕ) (sources : List S) : Type 0 where
    pub named : name ≡ wanted
    pub refuses : RefusesToOpen files old new name
    pub nothing_opened : sources ≡ []

  -- the report was opened, and its source failed before more was taken of it than is audited
  pub record FailsReport (wanted : List ℕ) (old new : L) (name : List ℕ) (sources : List S) : Type 0 where
    pub named : name ≡ wanted
    pub opened : S
    pub opens : Opens files old new name opened
    pub report : S
    pub fails : FailsEarly files.left files.failures MOST_TAKEN opened report
    pub given_back : sources ≡ report ∷ []

  -- the report was read, and this was found of the names behind it
  pub record IsBehindReport (wanted : List ℕ) (old new : L) (sources : List S) (finds : L → List S → Type 0) : Type 0 where
    pub report : S
    pub bytes : List ℕ
    pub between : L
    pub reads : ReadsNamed files MOST_TAKEN old between wanted report bytes
    pub behind : List S
    pub found : finds between behind
    pub given_back : sources ≡ report ∷ behind

  -- the report was read, all names were opened, the script gives an edition, and the audit comes to this
  pub record IsAudited (names : AuditNames) (old new : L) (result : AuditResult) (sources : List S) : Type 0 where
    pub report : S
    pub bytes : List ℕ
    pub between : L
    pub reads_report : ReadsNamed files MOST_TAKEN old between names.report report bytes
    pub script : S
    pub script_bytes : List ℕ
    pub opened : List (OpenedCapture S)
    pub reads : ReadsNames files names.script names.captures between new script script_bytes opened
    pub edition : FirstEdition
    pub first : first_edition (pace_of Serial) script_bytes ≡ Ok edition
    pub captures : List S
    pub concludes : ConcludesAudit files.left files.failures edition bytes names.captures opened result captures
    pub given_back : sources ≡ report ∷ script ∷ captures

  -- This is found of the words of an audit, and these sources are handed back.
  abbrev pub FindsAudit : AuditNames → L → L → AuditResult → List S → Type 0
  FindsAudit names old new (Unread name) sources =
      RefusesReport names.report old new name sources
      ⊎ (FailsReport names.report old new name sources
      ⊎ (IsBehindReport names.report old new sources (λ between behind. IsUnreadable files names.script names.captures between new name behind)
      ⊎ IsAudited names old new (Unread name) sources))
  FindsAudit names old new (Unready error) sources =
      IsBehindReport names.report old new sources (λ between behind. HasNoEdition files Serial names.script names.captures between new error behind)
  FindsAudit names old new TooLong sources = IsAudited names old new TooLong sources
  FindsAudit names old new (No line) sources = IsAudited names old new (No line) sources
  FindsAudit names old new Yes sources = IsAudited names old new Yes sources

  -- this is found behind a report that was read, and these sources are handed back
  abbrev pub FindsBehindReport : AuditNames → L → L → S → List ℕ → AuditResult → List S → Type 0
  FindsBehindReport names between new report bytes result sources =
      (old : L) → ReadsNamed files MOST_TAKEN old between names.report report bytes → FindsAudit names old new result sources
