-- What an audit promises, one fact each.
use Rattle.std.specs.Prelude.{◌≡◌, ℕ, ◌≤◌, List, ◌∷◌, length, Some, Ok, ◌⊎◌}
use Rattle.std.specs.List.{AllByRecursion}
use Rattle.std.specs.Io.KnownBytes.{Appends}
use Rattle.command_words.specs.declared.invocation.Mode.TheVariants.{Serial}
use Rattle.fw_base.specs.Faults.{Rose}
use Rattle.fw_base.specs.Pairs.{Pair, take_named}
use Rattle.replay_setup.specs.FirstEdition.{first_edition}
use Rattle.replay_setup.specs.Openings.{file_names}
use Rattle.replay_setup.specs.Outside.{Files, Output}
use Rattle.replay_setup.specs.FirstEdition.{pace_of}
use Rattle.replay_setup.specs.declared.first_edition.FirstEdition.{FirstEdition}
use Rattle.replay_setup.specs.declared.outcome.Outcome.{Outcome}
use Rattle.replay_setup.specs.declared.script_error.ScriptError.{ScriptError}
use Rattle.audit_driver.specs.AuditNames.{AuditNames}
use Rattle.audit_driver.specs.AuditTexts.{result_text}
use Rattle.audit_driver.specs.Found.{FindsAudit}
use Rattle.audit_driver.specs.declared.audit_result.AuditResult.{AuditResult}
use Rattle.audit_driver.specs.declared.audit_result.AuditResult.TheVariants.{Unread, Unready, TooLong, No, Yes}

-- the names of an audit in the order in which they are opened
abbrev pub names_in_order : AuditNames → List (List ℕ)
names_in_order names = names.report ∷ names.script ∷ file_names names.captures

module _ {K S L : Type 0} (output : Output K) (files : Files L S) where
  -- This was found of the words, its sources were handed back, and the sink took its whole line.
  pub record TellsAudit (names : AuditNames) (library libraryAfter : L) (sink sinkAfter : K) (outcome : Outcome S) (result : AuditResult) : Type 0 where
    pub finds : FindsAudit files names library libraryAfter result outcome.sources.items
    pub text : Appends (output.written sink) (output.written sinkAfter) (result_text result)

  -- The report is the text of a legal record of the script and the captures, made without a cache, and of their ends and
  -- answers.
  abbrev pub SaysYes : AuditNames → L → L → K → K → Outcome S → Type 0
  SaysYes names library libraryAfter sink sinkAfter outcome = TellsAudit names library libraryAfter sink sinkAfter outcome Yes

  -- The report has more bytes than are audited, or this is its first line that is wrong.
  abbrev pub SaysNo : AuditNames → L → L → K → K → Outcome S → Type 0
  SaysNo names library libraryAfter sink sinkAfter outcome =
      TellsAudit names library libraryAfter sink sinkAfter outcome TooLong ⊎ ((line : ℕ) × TellsAudit names library libraryAfter sink sinkAfter outcome (No line))

  -- All names were opened, and this is why the script gives no edition.
  abbrev pub SaysUnready : AuditNames → L → L → K → K → Outcome S → Type 0
  SaysUnready names library libraryAfter sink sinkAfter outcome = (error : ScriptError) × TellsAudit names library libraryAfter sink sinkAfter outcome (Unready error)

  -- This name could not be opened or read.
  abbrev pub SaysUnread : AuditNames → L → L → K → K → Outcome S → Type 0
  SaysUnread names library libraryAfter sink sinkAfter outcome = (name : List ℕ) × TellsAudit names library libraryAfter sink sinkAfter outcome (Unread name)

  -- The library tells its list, in which the report's name stands and then the script's; the script gives an edition, and
  -- no count rose.
  pub record IsQuietAudit (names : AuditNames) (library libraryAfter : L) (sink sinkAfter : K) (outcome : Outcome S) : Type 0 where
    pub before : List Pair
    pub told : files.pairs library ≡ Some before
    pub report : List ℕ
    pub between : List Pair
    pub report_stands : take_named names.report before ≡ Some ((names.report, report), between)
    pub script : List ℕ
    pub behind : List Pair
    pub script_stands : take_named names.script between ≡ Some ((names.script, script), behind)
    pub script_short : length script ≤ 1048576
    pub edition : FirstEdition
    pub first : first_edition (pace_of Serial) script ≡ Ok edition
    pub library_quiet : Rose (files.faults library) (files.faults libraryAfter) → ⊥
    pub sources_quiet : AllByRecursion (λ source. files.failures source ≡ 0) outcome.sources.items
    pub sink_quiet : Rose (output.faults sink) (output.faults sinkAfter) → ⊥
